use Rattle.std.proofs.Common.{rules, ap, arith}
use Rattle.words_rule.proofs.Resting.{joins_settled}
use Rattle.words_rule.proofs.seat.Guard.join.Goals as goal

pub join_seat-requires : goal.join_seat-requires
join_seat-requires g c = let closing = c.args.closing.now in let w = closing.words_are in let s = ap (λ i. i.words) c.requires.own in
    (search rules, search rules, search rules, omega (arith, w, s), joins_settled g.S.Content.board g.S.Content.free_slots g.S.Content.memo _ closing.seat.me.0 _ _ closing.closes.1 closing.closes.0 c.requires.other.0.1 c.requires.settled)
