use Rattle.std.proofs.Common.{◌≡◌}
use Rattle.seat_guard.proofs.seat.Guard.take_last.Given as goal

abbrev pub invariant-loop : goal.invariant-loop
invariant-loop g l = (l.pass.seat.table_id ≡ l.initial.pass.seat.table_id) × (l.pass.seat.me ≡ l.initial.pass.seat.me)
