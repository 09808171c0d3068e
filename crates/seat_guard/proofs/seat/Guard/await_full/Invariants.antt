use Rattle.seat_guard.specs.Tokens.{IsFullClaim, Keeps}
use Rattle.seat_guard.proofs.seat.Guard.await_full.Given as goal

abbrev pub invariant-loop : goal.invariant-loop
invariant-loop g l = IsFullClaim l.self l.pass × Keeps l.initial.pass l.pass
