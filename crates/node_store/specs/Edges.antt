-- Edges and their complements.
use Rattle.std.specs.Prelude.{Bool, true, false, not}
use Rattle.edge_bits.specs.declared.edges.Edge.{Edge}

abbrev pub xor : Bool → Bool → Bool
xor true b = not b
xor false b = b

abbrev pub flip_if : Bool → Edge → Edge
flip_if flip e = record { index = e.index; complement = xor flip e.complement }
