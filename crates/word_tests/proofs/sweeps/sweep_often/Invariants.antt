use Rattle.word_tests.specs.Seats.{IsCalm}
use Rattle.word_tests.proofs.sweeps.sweep_often.Given as goal

abbrev pub invariant-loop : goal.invariant-loop
invariant-loop g l = IsCalm l.guard l.mine
