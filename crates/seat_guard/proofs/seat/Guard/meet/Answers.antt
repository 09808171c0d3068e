use Rattle.std.proofs.Common.{rules, ap}
use Rattle.seat_guard.proofs.Aparts.{none_crossed, none_joined}
use Rattle.seat_guard.proofs.seat.Guard.meet.Goals as goal

pub join_seat-requires : goal.join_seat-requires
join_seat-requires g c = (search rules, search rules, search rules, search rules, none_joined g.S.Content.keeps g.S.Content.board g.S.Content.counts g.S.Content.orders _ _ _ _ c.requires.apart)

pub load-requires : goal.load-requires
load-requires g c = (search rules, search rules, none_crossed g.S.Content.keeps g.S.Content.board g.S.Content.counts g.S.Content.orders _ _ _ c.args.pass.seat.me.0 (ap (λ m. m.0) c.join_seat.ensures.2))
