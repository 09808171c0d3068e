use Rattle.std.proofs.Common.{◌≡◌, ◌≤◌, take}
use Rattle.std.specs.Prelude.{sum_by}
use Rattle.blif_models.specs.NumberedGraphs.{own_of}
use Rattle.blif_models.proofs.graph.own_in.Given as goal

abbrev pub invariant-loop-entry : goal.invariant-loop-entry
invariant-loop-entry l = record {
  signals : l.own.signals ≡ sum_by (λ entry. (own_of entry).signals) (take l.entry-index l.model.entries);
  latches : l.own.latches ≡ sum_by (λ entry. (own_of entry).latches) (take l.entry-index l.model.entries);
  copies : l.own.copies ≡ sum_by (λ entry. (own_of entry).copies) (take l.entry-index l.model.entries);
  few_signals : l.own.signals ≤ l.entry-index;
  few_latches : l.own.latches ≤ l.entry-index;
  few_copies : l.own.copies ≤ l.entry-index;
}
