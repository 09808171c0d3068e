use Rattle.std.proofs.Common.{◌≡◌, length}
use Rattle.blif_models.specs.Graphs.{AreWithin}
use Rattle.blif_models.proofs.tour.holders_of.Given as goal

abbrev pub invariant-loop-model : goal.invariant-loop-model
invariant-loop-model l = record {
  many : length l.holders.items ≡ length l.holds;
  within : AreWithin (length l.holds) l.holders.items;
}
