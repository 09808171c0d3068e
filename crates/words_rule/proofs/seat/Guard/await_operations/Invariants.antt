use Rattle.words_rule.specs.Holds.{IsClaim}
use Rattle.words_rule.specs.Tokens.{Keeps}
use Rattle.words_rule.proofs.seat.Guard.await_operations.Given as goal

abbrev pub invariant-loop : goal.invariant-loop
invariant-loop g l = IsClaim l.self l.pass × Keeps l.initial.pass l.pass
