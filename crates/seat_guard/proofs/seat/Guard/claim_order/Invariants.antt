use Rattle.seat_guard.specs.Tokens.{IsFreeOf, Keeps}
use Rattle.seat_guard.proofs.seat.Guard.claim_order.Given as goal

abbrev pub invariant-loop : goal.invariant-loop
invariant-loop g l = IsFreeOf l.self l.pass × Keeps l.initial.pass l.pass
