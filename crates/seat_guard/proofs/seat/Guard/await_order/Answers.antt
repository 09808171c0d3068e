use Rattle.std.proofs.Common.{rules}
use Rattle.seat_guard.proofs.PhaseSteps.{order_looks}
use Rattle.seat_guard.proofs.seat.Guard.await_order.Goals as goal

pub load-found-requires : goal.load-found-requires
load-found-requires g c = (search rules, search rules, order_looks g.S.Content.keeps g.S.Content.board g.S.Content.counts g.S.Content.orders _ _ _ c.loop.invariant.0.0.1 c.loop.invariant.0.4)
