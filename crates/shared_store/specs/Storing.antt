-- What was stored while one seat had the turn.
use Rattle.std.specs.Prelude.{◌≡◌, ◌⊎◌, Contains, Some}
use Rattle.function_laws.specs.declared.history.Function.{Function}
use Rattle.function_laws.specs.Kinds.{Denoted}
use Rattle.node_store.specs.Views.{View}
use Rattle.node_store.specs.Work.{IsWork}
use Rattle.seat_guard.specs.declared.view.Draws.{Draws}
use Rattle.seat_guard.specs.declared.view.Leaving.{Leaving}
use Rattle.seat_guard.specs.Views.{AreTold}
use Rattle.shared_store.specs.declared.shared.Shared.{Shared}
use Rattle.shared_store.specs.Sharing.{due, functions, whole_of}

-- each function of the second's nodes is one of the first's, or has the property
abbrev pub StoresOnly : (Function → Type 0) → Shared → Shared → Type 0
StoresOnly P x y = (f : Function) → Contains (functions y) f → Contains (functions x) f ⊎ P f

-- it is, up to complement, a part of the work of an operation on a store
abbrev pub IsListedWork : View → (Denoted → Type 0) → Function → Type 0
IsListedWork w Work f = (o : Denoted) × IsWork w Work (Some o) × (f ≡ whole_of w o)

-- What a seat tells of the content that it gives back: the functions that nodes have now and none had as the turn was taken, and what was due at the last Full.
pub record IsLeaving (d : Draws) (y : Shared) (x : Leaving) : Type 0 where
  pub told : AreTold d x.stored (functions y)
  pub new : (f : Function) → Contains x.stored f → Contains (functions y) f × (Contains d.functions f → ⊥)
  pub due_is : x.due ≡ due y
