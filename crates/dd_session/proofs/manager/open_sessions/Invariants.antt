use Rattle.std.proofs.Common.{◌≡◌, [], true}
use Rattle.seat_guard.specs.Passes.{known, in_hand, IsPassOf}
use Rattle.dd_session.specs.Turns.{managed_by}
use Rattle.dd_session.specs.Managing.{newcomers}
use Rattle.dd_session.proofs.manager.open_sessions.Given as goal

abbrev pub invariant-loop : goal.invariant-loop
invariant-loop l = IsPassOf l.guard l.closing × (in_hand l.closing ≡ []) × ((known l.closing).closing ≡ true) × ((known l.closing).gone ≡ []) × ((known l.closing).rows ≡ []) × ((known l.closing).given ≡ l.counter) × ((known l.closing).sessions ≡ (known l.fn.closing).sessions)
    × (managed_by l.guard.table.shared.table_id (known l.closing) ≡ managed_by l.guard.table.shared.table_id (known l.fn.closing))
    × (l.all.items ≡ newcomers (managed_by l.guard.table.shared.table_id (known l.fn.closing)) l.counter)
