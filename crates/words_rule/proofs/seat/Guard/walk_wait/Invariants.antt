use Rattle.words_rule.specs.Tokens.{IsFreeOf, Keeps}
use Rattle.words_rule.proofs.seat.Guard.walk_wait.Given as goal

abbrev pub invariant-loop : goal.invariant-loop
invariant-loop g l = IsFreeOf l.self l.mine × Keeps l.fn.pass l.mine
