use Rattle.std.proofs.Common.{◌≡◌, drop}
use Rattle.std.specs.List.{list_all}
use Rattle.blif_formals.specs.Joining.{is_formal, port_of}
use Rattle.blif_formals.proofs.joining.are_formal.Given as goal

abbrev pub invariant-loop-number : goal.invariant-loop-number
invariant-loop-number l = list_all (λ n. is_formal (port_of l.ports n)) l.numbers ≡ list_all (λ n. is_formal (port_of l.ports n)) (drop l.number-index l.numbers)
