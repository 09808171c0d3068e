use Rattle.std.proofs.Common.{◌≡◌, map, take}
use Rattle.blif_models.specs.NumberedGraphs.{copies_of, latches_of, signals_of}
use Rattle.blif_models.proofs.expanding.own_counts.Given as goal

abbrev pub invariant-loop-model : goal.invariant-loop-model
invariant-loop-model l = record {
  signals : l.signals.items ≡ map signals_of (take l.model-index l.models);
  latches : l.latches.items ≡ map latches_of (take l.model-index l.models);
  copies : l.copies.items ≡ map copies_of (take l.model-index l.models);
}
