use Rattle.std.proofs.Common.{rules}
use Rattle.seat_guard.proofs.PhaseSteps.{full_claims}
use Rattle.seat_guard.proofs.seat.Guard.full_wait.Goals as goal

pub fetch_xor-requires : goal.fetch_xor-requires
fetch_xor-requires g c = (search rules, search rules, full_claims g.S.Content.keeps g.S.Content.board g.S.Content.counts g.S.Content.orders _ _ _ c.requires.0.1 c.args.hold.held c.requires.3)
