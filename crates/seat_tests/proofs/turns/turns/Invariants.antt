use Rattle.std.proofs.Common.{◌≡◌, ◌≤◌, true, false, [], length}
use Rattle.seat_guard.specs.Passes.{known, in_hand, shares, HasSettled}
use Rattle.seat_guard.specs.Phase.{HasNoShare}
use Rattle.seat_tests.proofs.turns.turns.Given as goal

abbrev pub invariant-loop : goal.invariant-loop
invariant-loop g l = (l.pass.seat.table_id ≡ l.initial.pass.seat.table_id) × ((known l.pass).live ≡ true) × ((known l.pass).holds ≡ false) × (in_hand l.pass ≡ []) × HasNoShare (shares l.pass) × HasSettled l.pass × ((known l.pass).session ≡ (known l.initial.pass).session) × (length (known l.pass).entries ≤ l.counter)
