use Rattle.std.proofs.Common.{◌≡◌, length, take}
use Rattle.blif_models.specs.Graphs.{AreTotals}
use Rattle.blif_models.proofs.totals.totals_of.Given as goal

abbrev pub invariant-loop-model : goal.invariant-loop-model
invariant-loop-model l = record {
  many : length l.totals.items ≡ length l.holds;
  totals : AreTotals l.holds l.own (take l.model-index l.order) l.totals.items;
}
