use Rattle.std.proofs.Common.{◌≡◌, map, take}
use Rattle.std.specs.Prelude.{slice_index}
use Rattle.dddmp_text.proofs.sorting.variables_of.Given as goal

abbrev pub invariant-loop-rank : goal.invariant-loop-rank
invariant-loop-rank l = l.variables.items ≡ map (slice_index l.ids) (take l.rank l.places.items)
