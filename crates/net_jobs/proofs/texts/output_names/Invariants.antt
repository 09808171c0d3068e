use Rattle.std.proofs.Common.{◌≡◌, map, take}
use Rattle.cover_nets.specs.declared.net.Output.{Output}
use Rattle.blif_dump.specs.Calls.{names_in}
use Rattle.net_jobs.proofs.texts.output_names.Given as goal

abbrev pub invariant-loop-output : goal.invariant-loop-output
invariant-loop-output l = record {
  items : l.output-items ≡ l.net.outputs;
  named : names_in l.names.items ≡ map (λ (output : Output). output.name) (take l.output-index l.net.outputs);
}
