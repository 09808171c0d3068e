use Rattle.std.proofs.Common.{rules, ap, ◌∙◌}
use Rattle.seat_guard.proofs.PhaseSteps.{full_claims, full_looks}
use Rattle.seat_guard.proofs.seat.Guard.try_full.Goals as goal

pub fetch_xor-requires : goal.fetch_xor-requires
fetch_xor-requires g c = (search rules, search rules, full_claims g.S.Content.keeps g.S.Content.board g.S.Content.counts g.S.Content.orders _ _ _ c.requires.0.1 c.args.hold.held c.requires.3)

pub load-found-requires : goal.load-found-requires
load-found-requires g c = let claim = c.fetch_xor.ensures.2 in (search rules, search rules, full_looks g.S.Content.keeps g.S.Content.board g.S.Content.counts g.S.Content.orders _ _ _ (ap (λ m. m.0.draws.live) claim ∙ c.requires.0.1) (ap (λ m. m.0.shares.full) claim))
