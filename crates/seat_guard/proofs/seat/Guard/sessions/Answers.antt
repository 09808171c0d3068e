use Rattle.std.proofs.Common.{rules}
use Rattle.seat_guard.proofs.CountSteps.{reads_sessions}
use Rattle.seat_guard.proofs.seat.Guard.sessions.Goals as goal

pub load-requires : goal.load-requires
load-requires g c = (search rules, search rules, reads_sessions g.S.Content.keeps g.S.Content.board g.S.Content.counts g.S.Content.orders _ _ _ c.requires.seated)
