use Rattle.std.proofs.Common.{◌≡◌, Some, map, take}
use Rattle.std.specs.Prelude.{slice_get, slice_index}
use Rattle.blif_wholes.specs.Names.{words_in}
use Rattle.blif_wholes.proofs.building.outputs_at.Given as goal

abbrev pub invariant-loop-number : goal.invariant-loop-number
invariant-loop-number l = record {
  names : map (λ output. Some output.name) l.outputs.items ≡ map (slice_get (words_in l.names)) (take l.number-index l.numbers);
  signals : map (λ output. output.signal) l.outputs.items ≡ map (slice_index l.signals) (take l.number-index l.numbers);
}
