use Rattle.std.proofs.Common.{◌≡◌, count_by, take}
use Rattle.blif_formals.specs.Joining.{is_input, port_of}
use Rattle.blif_formals.proofs.joining.count_inputs.Given as goal

abbrev pub invariant-loop-number : goal.invariant-loop-number
invariant-loop-number l = l.count ≡ count_by (λ n. is_input (port_of l.ports n)) (take l.number-index l.numbers)
