use Rattle.word_tests.specs.Seats.{IsReady}
use Rattle.word_tests.proofs.sweeps.ask_often.Given as goal

abbrev pub invariant-loop : goal.invariant-loop
invariant-loop g l = IsReady l.guard l.mine
