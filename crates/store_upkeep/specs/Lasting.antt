-- What lasts of a store through what its one holder does with it between operations.
use Rattle.std.specs.Prelude.{◌≡◌, ℕ, ◌<◌, Bool, true, false, Some}
use Rattle.function_laws.specs.Kinds.{Denoted}
use Rattle.function_laws.specs.Sizes.{Orders}
use Rattle.node_slots.specs.Stores.{Plain, content_of, count_at, is_held, plain_view}

-- how often a slot is counted for one row
abbrev pub one_if : Bool → ℕ
one_if true = 1
one_if false = 0

-- what stands at each level of both orders
abbrev pub orders_of : Plain → Orders
orders_of p = record { variables = p.variables_at; elements = p.elements_at }

-- Nothing changed but how often slots are counted.
pub record IsCounted (old new : Plain) : Type 0 where
  pub view : plain_view new ≡ record (plain_view old) { count = count_at new }
  pub orders : orders_of new ≡ orders_of old
  pub holds : is_held new ≡ is_held old

-- Each slot with a count above 0 keeps its function and its count, and there are as many variables, elements and slots. The orders may change.
pub record Lasts (old new : Plain) : Type 0 where
  pub vars : (plain_view new).vars ≡ (plain_view old).vars
  pub elements : (plain_view new).elements ≡ (plain_view old).elements
  pub slots : (plain_view new).slots ≡ (plain_view old).slots
  pub counts : count_at new ≡ count_at old
  pub functions : (s : ℕ) (f : Denoted) → 0 < count_at old s → content_of old s ≡ Some f → content_of new s ≡ Some f
