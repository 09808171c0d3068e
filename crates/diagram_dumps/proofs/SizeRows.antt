-- Worked dumps and their sizes, computed.
use Rattle.std.proofs.Common.{◌≡◌, List, [], ◌∷◌, ℤ, pos, negsuc, refl}
use Rattle.edge_bits.specs.declared.edges.Line.{Line}
use Rattle.edge_bits.specs.Assignments.{set_bit}
use Rattle.diagram_dumps.specs.declared.dump.Dump.{Dump}
use Rattle.diagram_dumps.specs.Dumps.{value_within}
use Rattle.function_laws.specs.Lists.{any_below, all_below}
use Rattle.function_laws.specs.Sizes.{Orders, all_parts, distinct, parts, size}
use Rattle.diagram_dumps.specs.Under.{functions_of}

abbrev first_two : Orders
first_two = record { variables = 0 ∷ 1 ∷ []; elements = [] }

abbrev a_dump : List Line → List ℤ → Dump
a_dump nodes roots = record { nvars = 2; ids = 0 ∷ 1 ∷ []; permids = 0 ∷ 1 ∷ []; nodes = nodes; roots = roots }

-- variable 1, and the exclusive or
abbrev exclusive_or : List Line
exclusive_or = record { var = 1; hi = 1; lo = negsuc 0 } ∷ record { var = 0; hi = 2; lo = negsuc 1 } ∷ []

no_roots : size first_two (functions_of (a_dump [] [])) ≡ 0
unfolding all_parts distinct
no_roots = refl

constants : size first_two (functions_of (a_dump [] (pos 1 ∷ negsuc 0 ∷ []))) ≡ 1
unfolding value_within parts all_parts distinct any_below all_below set_bit
constants = refl

one_variable : size first_two (functions_of (a_dump (record { var = 1; hi = 1; lo = negsuc 0 } ∷ []) (pos 2 ∷ []))) ≡ 2
unfolding value_within parts all_parts distinct any_below all_below set_bit
one_variable = refl

equal_roots : size first_two (functions_of (a_dump exclusive_or (pos 3 ∷ pos 3 ∷ []))) ≡ 3
unfolding value_within parts all_parts distinct any_below all_below set_bit
equal_roots = refl

complemented_roots : size first_two (functions_of (a_dump exclusive_or (negsuc 2 ∷ pos 3 ∷ negsuc 1 ∷ []))) ≡ 3
unfolding value_within parts all_parts distinct any_below all_below set_bit
complemented_roots = refl
