use Rattle.std.proofs.Common.{rules}
use Rattle.seat_guard.proofs.PhaseSteps.{order_claims}
use Rattle.seat_guard.proofs.seat.Guard.claim_order.Goals as goal

pub fetch_or-found-requires : goal.fetch_or-found-requires
fetch_or-found-requires g c = (search rules, search rules, order_claims g.S.Content.keeps g.S.Content.board g.S.Content.counts g.S.Content.orders _ _ _ c.loop.invariant.0.0.1 c.loop.invariant.0.1.2)
