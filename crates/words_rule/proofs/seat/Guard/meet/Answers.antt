use Rattle.std.proofs.Common.{rules, ap, arith}
use Rattle.words_rule.proofs.Aparts.{none_crossed, none_joined}
use Rattle.words_rule.proofs.seat.Guard.meet.Goals as goal

pub join_seat-requires : goal.join_seat-requires
join_seat-requires g c = let w = c.args.pass.words_are in let s = ap (λ i. i.words) c.requires.own.0 in
    (search rules, search rules, search rules, omega (arith, w, s), none_joined g.S.Content.board g.S.Content.free_slots g.S.Content.memo _ _ _ _ c.requires.apart)

pub load-requires : goal.load-requires
load-requires g c = let w = c.args.pass.words_are in let s = ap (λ i. i.words) c.requires.own.0 in
    (search rules, omega (arith, w, s), none_crossed g.S.Content.board g.S.Content.free_slots g.S.Content.memo _ _ _ c.args.pass.seat.me.0 (ap (λ m. m.0) c.join_seat.ensures.2))
