use Rattle.std.proofs.Common.{rules}
use Rattle.seat_guard.proofs.Keeps.{looks_at}
use Rattle.seat_guard.proofs.seat.Guard.look.Goals as goal

pub load-requires : goal.load-requires
load-requires g c = (search rules, search rules, looks_at g.S.Content.keeps g.S.Content.board g.S.Content.counts g.S.Content.orders _ _ _ c.requires.own.1)
