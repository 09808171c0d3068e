use Rattle.words_rule.specs.Holds.{IsFullClaim, KeepsNotes}
use Rattle.words_rule.proofs.seat.Guard.await_walks.Given as goal

abbrev pub invariant-loop : goal.invariant-loop
invariant-loop g l = IsFullClaim l.self l.pass × KeepsNotes l.initial.pass l.pass
