use Rattle.std.proofs.Common.{ap, ◌∙◌, arith}
use Rattle.words_rule.specs.Layout.{head_at}
use Rattle.words_rule.proofs.seat.Guard.peek_head.Goals as goal

pub peek-requires : goal.peek-requires
peek-requires g c = let w = c.args.pass.now.words_are in let s = ap (λ i. i.words) c.requires.own in let l = c.requires.within in let a = c.head.ensures ∙ ap (λ z. head_at z c.args.head) c.args.pass.now.sizes_are in omega (arith, w, s, l, a)
