-- Worked texts, computed by the definitions.
use Rattle.std.proofs.Common.{◌≡◌, [], ◌∷◌, ◌++◌, codes, refl, pos, negsuc}
use Rattle.std.specs.Fmt.{digits}
use Rattle.diagram_dumps.specs.declared.dump.Dump.{Dump}
use Rattle.blif_dump.specs.Names.{prefix_for}
use Rattle.blif_dump.specs.Multiplexers.{multiplexers}

-- two variables that differ
abbrev different_bits : Dump
different_bits = record {
  nvars = 2;
  ids = 0 ∷ 1 ∷ [];
  permids = 0 ∷ 1 ∷ [];
  nodes = record { var = 1; hi = 1; lo = negsuc 0 } ∷ record { var = 0; hi = 2; lo = negsuc 1 } ∷ [];
  roots = negsuc 2 ∷ [];
}

exclusive_or : multiplexers different_bits (codes "a" ∷ codes "b" ∷ []) (codes "f" ∷ [])
    ≡ codes ".model dd\n.inputs a b\n.outputs f\n.names n1\n1\n.names b n1 n1 n2\n11- 1\n0-0 1\n.names a n2 n2 n3\n11- 1\n0-0 1\n.names n3 f\n0 1\n.end\n"
unfolding multiplexers prefix_for digits
exclusive_or = refl

-- an output that stands twice, one that is the second input, and one whose root has no sign
abbrev shared : Dump
shared = record {
  nvars = 2;
  ids = 0 ∷ 1 ∷ [];
  permids = 0 ∷ 1 ∷ [];
  nodes = record { var = 1; hi = 1; lo = negsuc 0 } ∷ record { var = 0; hi = 2; lo = pos 1 } ∷ [];
  roots = negsuc 2 ∷ pos 2 ∷ negsuc 2 ∷ pos 3 ∷ [];
}

once_each : multiplexers shared (codes "a" ∷ codes "b" ∷ []) (codes "nx" ∷ codes "b" ∷ codes "nx" ∷ codes "g" ∷ [])
    ≡ codes ".model dd\n.inputs a b\n.outputs nx b nx g\n.names n_1\n1\n.names b n_1 n_1 n_2\n11- 1\n0-0 1\n.names a n_2 n_1 n_3\n11- 1\n0-1 1\n.names n_3 nx\n0 1\n.names n_3 g\n1 1\n.end\n"
unfolding multiplexers prefix_for digits
once_each = refl

-- names that would not be read again as they stand
odd_names : multiplexers shared (codes "a#" ∷ (codes "n_" ++ 92 ∷ []) ∷ []) ((codes "f" ++ 92 ∷ []) ∷ (codes "n_" ++ 92 ∷ []) ∷ (codes "f" ++ 92 ∷ []) ∷ codes "a#g" ∷ [])
    ≡ codes ".model dd\n.inputs n__i0 n__i1\n.outputs n__o0 n__i1 n__o0 n__o3\n.names n__1\n1\n.names n__i1 n__1 n__1 n__2\n11- 1\n0-0 1\n.names n__i0 n__2 n__1 n__3\n11- 1\n0-1 1\n.names n__3 n__o0\n0 1\n.names n__3 n__o3\n1 1\n.end\n"
unfolding multiplexers prefix_for digits
odd_names = refl

-- no inputs
constants : multiplexers (record { nvars = 0; ids = []; permids = []; nodes = []; roots = pos 1 ∷ negsuc 0 ∷ [] }) [] (codes "f" ∷ codes "g" ∷ [])
    ≡ codes ".model dd\n.inputs\n.outputs f g\n.names n1\n1\n.names n1 f\n1 1\n.names n1 g\n0 1\n.end\n"
unfolding multiplexers prefix_for digits
constants = refl

-- prefixes
one_mark : prefix_for (codes "a" ∷ codes "nx" ∷ []) ≡ codes "n_"
unfolding prefix_for
one_mark = refl

three_marks : prefix_for (codes "n" ∷ codes "n_" ∷ codes "n__" ∷ []) ≡ codes "n___"
unfolding prefix_for
three_marks = refl
