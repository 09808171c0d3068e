use Rattle.std.proofs.Common.{◌≡◌, take}
use Rattle.blif_dump.specs.Calls.{names_in}
use Rattle.net_jobs.proofs.texts.input_names.Given as goal

abbrev pub invariant-loop-input : goal.invariant-loop-input
invariant-loop-input l = record {
  items : l.input-items ≡ l.net.inputs;
  named : names_in l.names.items ≡ take l.input-index l.net.inputs;
}
