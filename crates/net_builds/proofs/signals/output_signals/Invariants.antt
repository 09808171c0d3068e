use Rattle.std.proofs.Common.{◌≡◌, ◌++◌, drop, map}
use Rattle.cover_nets.specs.declared.net.Output.{Output}
use Rattle.net_builds.specs.Outputs.{share}
use Rattle.net_builds.proofs.signals.output_signals.Given as goal

abbrev pub invariant-loop-output : goal.invariant-loop-output
invariant-loop-output l = record {
  items : l.output-items ≡ l.net.outputs;
  shared : l.own.items ++ share l.wait l.worker.of (map (λ (output : Output). output.signal) (drop l.output-index l.net.outputs))
      ≡ share l.worker.number l.worker.of (map (λ (output : Output). output.signal) l.net.outputs);
}
