use Rattle.seat_guard.specs.Tokens.{IsClaim, Keeps}
use Rattle.seat_guard.proofs.seat.Guard.await_order.Given as goal

abbrev pub invariant-loop : goal.invariant-loop
invariant-loop g l = IsClaim l.self l.pass × Keeps l.initial.pass l.pass
