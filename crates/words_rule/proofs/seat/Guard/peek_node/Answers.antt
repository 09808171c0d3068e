use Rattle.std.proofs.Common.{ap, ◌∙◌, arith}
use Rattle.words_rule.specs.Layout.{node_at}
use Rattle.words_rule.proofs.seat.Guard.peek_node.Goals as goal

pub peek-requires : goal.peek-requires
peek-requires g c = let w = c.args.pass.now.words_are in let s = ap (λ i. i.words) c.requires.own in let l = c.requires.within in let a = c.node.ensures ∙ ap (λ z. node_at z c.args.slot) c.args.pass.now.sizes_are in omega (arith, w, s, l, a)
