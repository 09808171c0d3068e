use Rattle.std.proofs.Common.{rules}
use Rattle.seat_guard.proofs.PhaseSteps.{op_leaves}
use Rattle.seat_guard.proofs.seat.Guard.leave_operation.Goals as goal

pub fetch_sub-requires : goal.fetch_sub-requires
fetch_sub-requires g c = (search rules, search rules, op_leaves g.S.Content.keeps g.S.Content.board g.S.Content.counts g.S.Content.orders _ _ _ c.requires.0.1 c.requires.1)
