use Rattle.std.proofs.Common.{rules}
use Rattle.seat_guard.proofs.PhaseSteps.{order_clears}
use Rattle.seat_guard.proofs.seat.Guard.clear_order.Goals as goal

pub fetch_and-requires : goal.fetch_and-requires
fetch_and-requires g c = (search rules, search rules, order_clears g.S.Content.keeps g.S.Content.board g.S.Content.counts g.S.Content.orders _ _ _ c.requires.own.0.1 c.requires.own.1 c.requires.own.2 c.requires.pins)
