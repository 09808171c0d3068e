-- What a session has to have to make a function of its rows, and what it tells of that.
use Rattle.std.specs.Prelude.{◌≡◌, ℕ, ◌+◌, ◌≤◌, max, Bool, true, false, Contains, List, Some, Result, Ok, Err, MatchResult, IfOk}
use Rattle.add_ops.specs.declared.arithmetic.Overflow.{Overflow}
use Rattle.edge_bits.specs.declared.edges.Edge.{Edge}
use Rattle.function_laws.specs.declared.history.Name.{Name}
use Rattle.function_laws.specs.declared.history.Function.{Function}
use Rattle.function_laws.specs.declared.history.Call.{Call}
use Rattle.function_laws.specs.declared.history.Call.TheVariants as calls
use Rattle.function_laws.specs.declared.history.Reply.TheVariants as replies
use Rattle.function_laws.specs.declared.making.Making.{Making}
use Rattle.function_laws.specs.declared.making.Making.TheVariants as makings
use Rattle.function_laws.specs.declared.making.BddMaking.TheVariants as bdds
use Rattle.function_laws.specs.declared.making.ZddMaking.TheVariants as zdds
use Rattle.function_laws.specs.Kinds.{Denoted}
use Rattle.function_laws.specs.Makings.{needs_nodes, taken}
use Rattle.function_laws.specs.Sizes.{Orders}
use Rattle.node_store.specs.Views.{View}
use Rattle.operator_calls.specs.declared.unmade.Unmade.{Unmade}
use Rattle.operator_calls.specs.declared.unmade.Unmade.TheVariants as unmade
use Rattle.operator_calls.specs.Making.{unmade_as, work}
use Rattle.operator_calls.specs.Taking.{CanTakeAll, renamed_by}
use Rattle.seat_guard.specs.declared.view.Row.{Row}
use Rattle.dd_session.specs.declared.answers.Apart.{Apart}
use Rattle.dd_session.specs.declared.answers.Placed.{Placed}
use Rattle.dd_session.specs.declared.answers.Refusal.{Refusal}
use Rattle.dd_session.specs.declared.answers.Refusal.TheVariants as refusals
use Rattle.dd_session.specs.declared.request.Adding.{Adding}
use Rattle.dd_session.specs.declared.request.Adding.TheVariants.{Made, Chosen}
use Rattle.dd_session.specs.Sessions.{Called, Denies, HasRoom, IsAsBefore, IsLiveAs, Managed, Seen, edge_in, elements_in, reply_unmade, told_as, variables_in}
use Rattle.dd_session.specs.Works.{HadOneTurn, IsOfWork, StoresWork}

-- the session has what it takes; there may be as many variables as its manager was opened with
abbrev pub HasTaken : Seen → Making Name (List ℕ) (List (ℕ × Name)) → Type 0
HasTaken s making = CanTakeAll (λ k a. IsLiveAs k s a) s.manager.vars (variables_in s) (elements_in s) (taken making)

-- The session may make the function: it is one of the manager, may make one more call, and has what that takes.
pub record MayMake (s : Seen) (m : Managed) (making : Making Name (List ℕ) (List (ℕ × Name))) : Type 0 where
  pub own : s.manager ≡ m
  pub room : HasRoom s
  pub can : HasTaken s making

-- what makes the function of the edges of some rows
abbrev pub by_edges : List Row → Making Name (List ℕ) (List (ℕ × Name)) → Making Edge (List ℕ) (List (ℕ × Edge))
by_edges rows making = renamed_by (edge_in rows) making

-- one of several functions is made, so that the reply has it in whole
abbrev pub chooses : {R V P : Type 0} → Making R V P → Bool
chooses (makings.Bdd (bdds.Restrict a b)) = true
chooses (makings.Zdd (zdds.Isop a b)) = true
chooses _ = false

abbrev pub adding_by : Bool → Adding
adding_by true = Chosen
adding_by false = Made

-- what a call replies that makes a row or tells why there is none, by whether it is one of several functions
abbrev pub TellsRow : Bool → Seen → Seen → Call → Result Name Unmade → ℕ → Type 0
TellsRow true old new call told place = MatchResult told (λ name. (chosen : Function) × Called old new call (replies.Chose name chosen) place) (λ why. Called old new call (reply_unmade why) place)
TellsRow false old new call told place = Called old new call (told_as told) place

-- what a refusal tells, where nodes may be needed and where not
abbrev pub Refuses : Bool → Seen → Seen → Call → Refusal → Type 0
Refuses true old new call refusal = Denies old new call refusal
Refuses false old new call refusal = (refusal ≡ refusals.Memory) × Denies old new call refusal

-- what a try leaves that another one follows: it had one turn, nothing was told, and what it stored are parts of its operation's work
abbrev pub Awaits : (View → Denoted → Type 0) → Seen → Seen → Type 0
Awaits Work old new = IsAsBefore old new × (new.spare ≡ max old.spare 1) × ((f : Function) → Contains new.stored f → (o : Orders) × IsOfWork old o Work f) × HadOneTurn old new

-- the same result, where what tells why nothing was made may be told by any call
abbrev pub with_why : {X : Type 0} → (X → Unmade) → Result Name X → Result Name Unmade
with_why why (Ok name) = Ok name
with_why why (Err x) = Err (why x)

-- The function was made, in a new row, or it was told why there is none, or the call was refused; what was stored are parts of its
-- operation's work.
pub record MakesOr {X : Type 0} (why : X → Unmade) (old new : Seen) (making : Making Name (List ℕ) (List (ℕ × Name))) (result : Result (Placed (Result Name X)) Refusal) : Type 0 where
  pub told : MatchResult result (λ placed. TellsRow (chooses making) old new (calls.Makes making) (with_why why placed.value) placed.place) (Refuses (needs_nodes making) old new (calls.Makes making))
  pub may : IfOk result (λ placed. MatchResult placed.value (λ name. Unit {0}) (λ x. unmade_as making ≡ Some (why x)))
  pub stored : StoresWork (work (by_edges old.rows making)) old new result
  pub spare : MatchResult result (λ placed. MatchResult placed.value (λ name. new.spare + 1 ≡ max old.spare 1) (λ _. new.spare ≡ max old.spare 1)) (λ refusal. old.spare ≤ new.spare)

-- whatever is told
abbrev pub MakesOrTells : Seen → Seen → Making Name (List ℕ) (List (ℕ × Name)) → Result (Placed (Result Name Unmade)) Refusal → Type 0
MakesOrTells = MakesOr (λ why. why)

-- where only a value may be out of range
abbrev pub MakesOrExceeds : Seen → Seen → Making Name (List ℕ) (List (ℕ × Name)) → Result (Placed (Result Name Overflow)) Refusal → Type 0
MakesOrExceeds = MakesOr (λ _. unmade.Overflow)

-- where only two bounds may be apart
abbrev pub MakesOrIsApart : Seen → Seen → Making Name (List ℕ) (List (ℕ × Name)) → Result (Placed (Result Name Apart)) Refusal → Type 0
MakesOrIsApart = MakesOr (λ _. unmade.Apart)

-- the same where there is always one
pub record MakesRow (old new : Seen) (making : Making Name (List ℕ) (List (ℕ × Name))) (result : Result (Placed Name) Refusal) : Type 0 where
  pub told : MatchResult result (λ placed. TellsRow (chooses making) old new (calls.Makes making) (Ok placed.value) placed.place) (Refuses (needs_nodes making) old new (calls.Makes making))
  pub stored : StoresWork (work (by_edges old.rows making)) old new result
  pub spare : MatchResult result (λ placed. new.spare + 1 ≡ max old.spare 1) (λ refusal. old.spare ≤ new.spare)
