-- What a sift that a seat tells of has found, by what the seat knows.
use Rattle.std.specs.Prelude.{◌≡◌, ℕ, List, [], Some}
use Rattle.function_laws.specs.declared.history.Name.{Name}
use Rattle.function_laws.specs.declared.history.Function.{Function}
use Rattle.function_laws.specs.declared.history.Sifting.{Sifting}
use Rattle.function_laws.specs.declared.history.Call.{Call}
use Rattle.function_laws.specs.declared.history.Call.TheVariants.{Sift, SiftElements}
use Rattle.function_laws.specs.declared.history.Entry.{Entry}
use Rattle.function_laws.specs.SessionEntries.{Each}
use Rattle.function_laws.specs.SiftEntries.{AreApart, IsAmong}
use Rattle.function_laws.specs.Sizes.{Orders}
use Rattle.function_laws.specs.Tables.{Table}
use Rattle.seat_guard.specs.declared.view.Row.{Row}
use Rattle.seat_guard.specs.declared.view.Draws.{Draws}
use Rattle.seat_guard.specs.Known.{known_at}

-- the functions that a call carries: those that a sift found counted
abbrev pub carried_by : Call → List Function
carried_by (Sift told) = told.functions
carried_by (SiftElements told) = told.functions
carried_by _ = []

-- What a sift of the session found, where the table and the orders are these: both orders; functions of which no two are one; and among
-- them those of all names of the session.
pub record IsFoundIn (t : Table) (orders : Orders) (s : ℕ) (told : Sifting) : Type 0 where
  pub variables_are : told.variables ≡ orders.variables
  pub elements_are : told.elements ≡ orders.elements
  pub apart : AreApart told.functions
  pub own : (name : Name) (f : Function) → t.live s name ≡ Some f → IsAmong told.functions f

-- a call of the session tells what it found, if it is a sift
abbrev pub FindsCall : Table → Orders → ℕ → Call → Type 0
FindsCall t orders s (Sift told) = IsFoundIn t orders s told
FindsCall t orders s (SiftElements told) = IsFoundIn t orders s told
FindsCall t orders s _ = Unit {0}

abbrev pub Finds : Table → Orders → Entry → Type 0
Finds t orders e = FindsCall t orders e.session e.call

-- and by what the seat knows: the orders, and its rows
pub record IsFoundBy (d : Draws) (told : Sifting) : Type 0 where
  pub variables_are : told.variables ≡ d.variable_order
  pub elements_are : told.elements ≡ d.element_order
  pub apart : AreApart told.functions
  pub own : Each (λ (row : Row). IsAmong told.functions (known_at d row.held.function)) d.rows

-- the seat may tell of this call by what it finds
abbrev pub MayFind : Draws → Call → Type 0
MayFind d (Sift told) = IsFoundBy d told
MayFind d (SiftElements told) = IsFoundBy d told
MayFind d _ = Unit {0}
