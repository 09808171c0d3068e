-- Stored diagrams under an order of variables.
use Rattle.std.specs.Prelude.{◌≡◌, ◌≢◌, ℕ, ◌<◌, List, All, Contains, length, map}
use Rattle.std.specs.List.{AllPairs}
use Rattle.diagram_dumps.specs.declared.dump.Dump.{Dump}
use Rattle.diagram_dumps.specs.Dumps.{root_value}
use Rattle.diagram_dumps.specs.WellMade.{position_of}
use Rattle.function_laws.specs.Kinds.{Denoted, BddFunction}
use Rattle.function_laws.specs.SiftedOrders.{place_of}

-- the functions of the roots
abbrev pub functions_of : Dump → List Denoted
functions_of dump = map (λ root. BddFunction (root_value dump root)) dump.roots

-- The order is of the first variables, as many as it is long, and names none twice. Each line's variable stands in it, and its
-- position in the dump is its place there.
pub record IsUnder (order : List ℕ) (dump : Dump) : Type 0 where
  pub below : All (λ v. v < length order) order
  pub once : AllPairs (λ v other. v ≢ other) order
  pub there : All (λ line. Contains order line.var) dump.nodes
  pub places : All (λ line. position_of dump line.var ≡ place_of line.var order) dump.nodes
