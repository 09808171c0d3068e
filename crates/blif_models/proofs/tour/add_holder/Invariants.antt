use Rattle.std.proofs.Common.{◌≡◌, length}
use Rattle.blif_models.specs.Graphs.{AreWithin}
use Rattle.blif_models.proofs.tour.add_holder.Given as goal

abbrev pub invariant-loop-model : goal.invariant-loop-model
invariant-loop-model l = record {
  many : length l.holders.items ≡ length l.initial.holders.items;
  within : AreWithin (length l.initial.holders.items) l.holders.items;
}
