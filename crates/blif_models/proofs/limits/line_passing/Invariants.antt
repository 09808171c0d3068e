use Rattle.std.proofs.Common.{◌≡◌, ◌-◌, ◌≤◌, drop}
use Rattle.blif_models.specs.ModelFaults.{passing_line}
use Rattle.blif_models.proofs.limits.line_passing.Given as goal

abbrev pub invariant-loop-one : goal.invariant-loop-one
invariant-loop-one l = record {
  signals : l.signals_left ≤ l.most_signals;
  inputs : l.inputs_left ≤ l.most_inputs;
  rest : passing_line l.most_signals l.most_inputs 0 0 l.adding
      ≡ passing_line l.most_signals l.most_inputs (l.most_signals - l.signals_left) (l.most_inputs - l.inputs_left) (drop l.one-index l.adding);
}
