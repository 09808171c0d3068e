use Rattle.std.proofs.Common.{rules, ap, ◌∙◌}
use Rattle.seat_guard.proofs.PhaseSteps.{order_claims, order_looks}
use Rattle.seat_guard.proofs.seat.Guard.try_order.Goals as goal

pub fetch_or-found-requires : goal.fetch_or-found-requires
fetch_or-found-requires g c = (search rules, search rules, order_claims g.S.Content.keeps g.S.Content.board g.S.Content.counts g.S.Content.orders _ _ _ c.requires.0.1 c.requires.1.2)

pub load-found-requires : goal.load-found-requires
load-found-requires g c = let claim = c.fetch_or-found.ensures.2.0 c.if-found-ne0.false in (search rules, search rules, order_looks g.S.Content.keeps g.S.Content.board g.S.Content.counts g.S.Content.orders _ _ _ (ap (λ m. m.0.draws.live) claim ∙ c.requires.0.1) (ap (λ m. m.0.shares.order) claim))
