use Rattle.std.proofs.Common.{rules, ap, arith}
use Rattle.words_rule.proofs.Sessions.{splits}
use Rattle.words_rule.proofs.seat.Guard.split.Goals as goal

pub split_seat-seat-requires : goal.split_seat-seat-requires
split_seat-seat-requires g c = let closing = c.args.closing.now in let w = closing.words_are in let s = ap (λ i. i.words) c.requires.own in let room = c.requires.room in let few = c.requires.few in
    (search rules, omega (arith, w, s), splits g.S.Content.board g.S.Content.free_slots g.S.Content.memo _ closing.seat.me.0 closing.closes.1 closing.closes.0 room few)
