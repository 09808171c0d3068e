use Rattle.std.proofs.Common.{ap, arith}
use Rattle.words_rule.proofs.seat.Guard.peek_turn.Goals as goal

pub peek-requires : goal.peek-requires
peek-requires g c = let w = c.args.pass.now.words_are in let s = ap (λ i. i.words) c.requires.own in let l = c.requires.within in let a = c.turn.ensures in omega (arith, w, s, l, a)
