-- The nodes of some BDDs as the lines of a stored diagram.
use Rattle.std.specs.Prelude.{◌≡◌, ℕ, ◌+◌, ◌^◌, ◌<◌, ◌≤◌, ◌==◌, Bool, List, length, map}
use Rattle.std.specs.List.{filter, list_any, range_with_len}
use Rattle.edge_bits.specs.declared.edges.Line.{Line}
use Rattle.edge_bits.specs.declared.limits.TheConstants.{MOST_VARIABLES}
use Rattle.diagram_dumps.specs.declared.dump.Dump.{Dump}
use Rattle.diagram_dumps.specs.Agreement.{AreSame}
use Rattle.diagram_dumps.specs.Dumps.{root_value}
use Rattle.diagram_dumps.specs.WellMade.{IsWritable}
use Rattle.function_laws.specs.SiftedOrders.{place_of}
use Rattle.diagram_dumps.specs.declared.listings.Listing.{Listing}
use Rattle.diagram_dumps.specs.Under.{IsUnder}

-- the variables of some lines, of those below n, rising
abbrev pub ids_of : ℕ → List Line → List ℕ
ids_of n lines = filter (λ v. list_any (λ line. line.var == v) lines) (range_with_len 0 n)

-- the stored diagram of a listing: the variables of its lines, each with its place in the order
abbrev pub dump_of : Listing → Dump
dump_of listing = let ids = ids_of (length listing.order) listing.nodes in record {
  nvars = length listing.order;
  ids = ids;
  permids = map (λ v. place_of v listing.order) ids;
  nodes = listing.nodes;
  roots = listing.roots;
}

-- The listing of some functions under an order: a stored diagram that may be written, whose lines stand under the order, and
-- whose roots are the functions, one for one, at each assignment of the order's variables.
pub record IsListing (order : List ℕ) (functions : List (ℕ → Bool)) (listing : Listing) : Type 0 where
  pub order_is : listing.order ≡ order
  pub writable : IsWritable (dump_of listing)
  pub under : IsUnder order (dump_of listing)
  pub roots : AreSame (length order) (map (root_value (dump_of listing)) listing.roots) functions
  -- few enough for a text
  pub few_variables : length order ≤ MOST_VARIABLES
  pub few_lines : length listing.nodes + 1 < 2 ^ 31
