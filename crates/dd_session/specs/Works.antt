-- What a call stored, as a part of its operation's work.
use Rattle.std.specs.Prelude.{◌≡◌, ◌⊎◌, ℕ, List, [], ◌∷◌, ◌++◌, Contains, Option, Some, Result, Ok, Err}
use Rattle.edge_bits.specs.declared.edges.Kind.{Kind}
use Rattle.function_laws.specs.declared.history.Function.{Function}
use Rattle.function_laws.specs.Kinds.{Denoted}
use Rattle.function_laws.specs.SessionEntries.{Each}
use Rattle.function_laws.specs.Sizes.{Orders}
use Rattle.node_store.specs.Contents.{Content, level_of}
use Rattle.node_store.specs.Views.{View, IsVariable}
use Rattle.dead_sweep.specs.declared.sweeping.Swept.{Swept}
use Rattle.dead_sweep.specs.Swept.{IsSwept}
use Rattle.seat_guard.specs.declared.view.Row.{Row}
use Rattle.shared_store.specs.Sharing.{IsHeldIn, functions_below, whole_of}
use Rattle.shared_store.specs.Storing.{IsListedWork}
use Rattle.dd_session.specs.declared.answers.Placed.{Placed}
use Rattle.dd_session.specs.declared.answers.Refusal.{Refusal}
use Rattle.dd_session.specs.declared.answers.Refusal.TheVariants as refusals
use Rattle.seat_guard.specs.declared.view.Noted.{Noted}
use Rattle.seat_guard.specs.Notes.{orders_in}
use Rattle.dd_session.specs.Sessions.{Seen, elements_in, variables_in}
use Rattle.dd_session.specs.Counting.{ZeroStays}

-- a store with the session's rows: each row's edge denotes its function
pub record HasRows (w : View) (s : Seen) : Type 0 where
  pub vars : w.vars ≡ variables_in s
  pub elements : w.elements ≡ elements_in s
  pub rows : Each (λ (row : Row). IsHeldIn w row.held) s.rows

-- each variable and each element has the level at which it stands in these orders
abbrev pub IsOrderedBy : View → Orders → Type 0
IsOrderedBy w o = (k : Kind) (v : ℕ) → IsVariable k w v → level_of o v ≡ w.level v

-- the function is, up to complement, a part of the work that an operation has in a store with the session's rows and these orders
abbrev pub IsOfWork : Seen → Orders → (View → Denoted → Type 0) → Function → Type 0
IsOfWork s o Work f = (w : View) × HasRows w s × IsOrderedBy w o × IsListedWork w (Work w) f

-- What a sweep told: out of a store with the session's rows it freed what nothing reaches, and these are its numbers. Others may have changed counts meanwhile.
pub record IsSweepOf (s : Seen) (swept : Swept) : Type 0 where
  pub before : Content
  pub after : Content
  -- what the session saw of the store before
  pub seen : View
  pub has : HasRows seen s
  pub same : seen.content ≡ before.function
  pub is_swept : IsSwept ZeroStays before after swept

-- What a sweep told that a call asked for: it was of the store that the call found.
pub record IsSweepAsked (old new : Seen) (swept : Swept) : Type 0 where
  pub sweep : IsSweepOf old swept
  pub found : functions_below (whole_of sweep.seen) sweep.before.function sweep.before.limit ≡ new.found

-- A function was due that is a part of this work in a store with the session's rows and these orders, whose slots denote what a sweep of this call left.
pub record IsDueAfterSweep (s : Seen) (o : Orders) (Work : View → Denoted → Type 0) (due : Option Function) : Type 0 where
  pub function : Function
  pub is : due ≡ Some function
  pub swept : Swept
  pub sweep : IsSweepOf s swept
  pub view : View
  pub has : HasRows view s
  pub ordered : IsOrderedBy view o
  pub same : view.content ≡ sweep.after.function
  pub work : IsListedWork view (Work view) function

-- the call had no turn at the store
abbrev pub HadNoTurn : Seen → Seen → Type 0
HadNoTurn old new = (new.turns ≡ old.turns) × (new.stored ≡ old.stored)

-- it had one turn alone
abbrev pub HadOneTurn : Seen → Seen → Type 0
HadOneTurn old new = new.turns ≡ old.turns ++ new.stored ∷ []

-- It had a last turn, and what it stored in each earlier one are parts of this work, each under orders of its own: others may exchange levels between two turns.
abbrev pub HadTurns : (View → Denoted → Type 0) → Seen → Seen → Type 0
HadTurns Work old new = (earlier : List (List Function)) × (new.turns ≡ old.turns ++ earlier ++ new.stored ∷ []) × Each (λ (stored : List Function). (f : Function) → Contains stored f → (o : Orders) × IsOfWork old o Work f) earlier

-- Each function that the call stored is a part of this work: in its last turn under the orders at its place, which the session noted.
pub record StoresAt (Work : View → Denoted → Type 0) (old new : Seen) (place : ℕ) : Type 0 where
  pub note : Noted
  pub place_is : note.place ≡ place
  pub placed : new.placed ≡ old.placed ++ note ∷ []
  pub turns : HadTurns Work old new
  pub stored : (f : Function) → Contains new.stored f → IsOfWork old (orders_in note) Work f

-- What a call stored is of its work. Where it was refused, a sweep came before the last try, and a part of the work was due after it. At want of memory it has no place, and there may have been no turn.
abbrev pub StoresWork : {X : Type 0} → (View → Denoted → Type 0) → Seen → Seen → Result (Placed X) Refusal → Type 0
StoresWork Work old new (Ok placed) = StoresAt Work old new placed.place
StoresWork Work old new (Err refusals.Memory) = HadNoTurn old new ⊎ (HadTurns Work old new × ((f : Function) → Contains new.stored f → (o : Orders) × IsOfWork old o Work f))
StoresWork Work old new (Err (refusals.Full full)) = (stores : StoresAt Work old new full.place) × IsDueAfterSweep old (orders_in stores.note) Work new.due

-- a call that makes nothing has one turn, and stores nothing
abbrev pub StoresNothing : Seen → Seen → Type 0
StoresNothing old new = HadOneTurn old new × ((f : Function) → Contains new.stored f → ⊥)
