use Rattle.std.proofs.Common.{◌≡◌, ◌≤◌, length}
use Rattle.words_rule.specs.Passes.{view}
use Rattle.word_tests.specs.Tidy.{IsTidy}
use Rattle.word_tests.proofs.rounds.rounds.Given as goal

abbrev pub invariant-loop : goal.invariant-loop
invariant-loop g l = record {
  tidy : IsTidy l.guard l.mine;
  session : (view l.mine).draws.session ≡ (view l.fn.pass).draws.session;
  slots : (view l.mine).draws.slots ≡ 100;
  few : length (view l.mine).draws.entries ≤ l.counter;
}
