-- What contracts see of an edge.
use Rattle.std.specs.Prelude.{ℕ, Bool}

-- the slot that it leads to, and whether it complements the function there
pub record EdgeView : Type 0 where
  pub index : ℕ
  pub complement : Bool
