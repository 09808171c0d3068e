use Rattle.std.proofs.Common.{rules}
use Rattle.seat_guard.proofs.Keeps.{splits}
use Rattle.seat_guard.proofs.seat.Guard.split.Goals as goal

pub split_seat-seat-requires : goal.split_seat-seat-requires
split_seat-seat-requires g c = (search rules, search rules, splits g.S.Content.keeps g.S.Content.board g.S.Content.counts g.S.Content.orders _ _ c.requires.closing c.requires.room)
