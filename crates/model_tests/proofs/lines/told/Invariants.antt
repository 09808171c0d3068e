use Rattle.std.proofs.Common.{◌≡◌, ◌+◌}
use Rattle.blif_drafts.specs.OpenModels.{AreSomeOpen}
use Rattle.model_tests.proofs.lines.told.Given as goal

abbrev pub invariant-loop-line : goal.invariant-loop-line
invariant-loop-line l = record {
  number : l.number ≡ l.line-index + 2;
  open_ones : AreSomeOpen l.number l.models;
}
