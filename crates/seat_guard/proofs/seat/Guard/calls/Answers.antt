use Rattle.std.proofs.Common.{rules}
use Rattle.seat_guard.proofs.Keeps.{looks_last}
use Rattle.seat_guard.proofs.seat.Guard.calls.Goals as goal

pub load-requires : goal.load-requires
load-requires g c = (search rules, search rules, looks_last g.S.Content.keeps g.S.Content.board g.S.Content.counts g.S.Content.orders _ _ _)
