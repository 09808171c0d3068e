use Rattle.std.proofs.Common.{rules}
use Rattle.seat_guard.proofs.Keeps.{joins}
use Rattle.seat_guard.proofs.seat.Guard.join.Goals as goal

pub join_seat-requires : goal.join_seat-requires
join_seat-requires g c = (search rules, search rules, search rules, search rules, joins g.S.Content.keeps g.S.Content.board g.S.Content.counts g.S.Content.orders _ _ _ _ c.requires.own.1 c.requires.other.1 c.requires.other.2 c.requires.unshared c.requires.settled.0 c.requires.settled.1)
