-- The then part of a function that lacks a variable.
use Rattle.std.specs.Prelude.{ℕ, nat_lt, if◌then◌else◌}
use Rattle.edge_bits.specs.declared.edges.Edge.{Edge}
use Rattle.edge_bits.specs.Permanent.{empty_edge, first_element}

abbrev pub absent_edge : ℕ → Edge → Edge
absent_edge v e = if nat_lt v first_element then e else empty_edge
