use Rattle.words_rule.specs.Tokens.{IsFreeOf, Keeps}
use Rattle.words_rule.proofs.seat.Guard.await_bit.Given as goal

abbrev pub invariant-loop : goal.invariant-loop
invariant-loop g l = IsFreeOf l.self l.pass × Keeps l.initial.pass l.pass
