use Rattle.std.proofs.Common.{◌≡◌, map, take}
use Rattle.operator_calls.specs.Taking.{with_given}
use Rattle.net_jobs.specs.Saying.{name_at}
use Rattle.net_jobs.proofs.registers.with_names.Given as goal

abbrev pub invariant-loop-pair : goal.invariant-loop-pair
invariant-loop-pair l = l.named.items ≡ map (with_given (name_at l.names)) (take l.pair-index l.pairs)
