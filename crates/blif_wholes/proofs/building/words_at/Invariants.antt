use Rattle.std.proofs.Common.{◌≡◌, Some, map, take}
use Rattle.std.specs.Prelude.{slice_get}
use Rattle.blif_wholes.specs.Names.{words_in}
use Rattle.blif_wholes.proofs.building.words_at.Given as goal

abbrev pub invariant-loop-number : goal.invariant-loop-number
invariant-loop-number l = map Some l.words.items ≡ map (slice_get (words_in l.names)) (take l.number-index l.numbers)
