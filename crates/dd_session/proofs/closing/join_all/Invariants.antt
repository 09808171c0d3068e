use Rattle.std.proofs.Common.{◌≡◌, [], map, true}
use Rattle.seat_guard.specs.Passes.{IsPassOf, in_hand, known}
use Rattle.dd_session.specs.Managing.{gone_as}
use Rattle.dd_session.proofs.closing.join_all.Given as goal

abbrev pub invariant-loop-session : goal.invariant-loop-session
invariant-loop-session l = IsPassOf l.guard l.closing × (in_hand l.closing ≡ []) × ((known l.closing).closing ≡ true) × ((known l.closing).given ≡ (known l.fn.closing).given) × ((known l.closing).vars ≡ (known l.fn.closing).vars) × ((known l.closing).elements ≡ (known l.fn.closing).elements)
    × ((known l.closing).gone ≡ map gone_as l.yielded)
