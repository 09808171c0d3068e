use Rattle.std.specs.Prelude.{if◌then◌else◌, int_le, pos}
use Rattle.add_ops.proofs.LeafLaws.{chosen_answer, leaves_are, order_passed, same_choice, zero_leaf}
use Rattle.add_ops.proofs.choices.ReachingPointwise.at_leaves.Goals as goal

pub returns-clause-answer : goal.returns-clause-answer
returns-clause-answer g c =
    let x = c.args.x in let y = c.args.y in let v = g.G.Grow.view c.args._store.now in
    let l = leaves_are v c.args.f c.args._g x y c.requires.first c.requires.second in
    chosen_answer (λ a b. if int_le b a then a else pos 0) v c.args.f c.args._g c.number_zero.result c.chosen.result x y (pos 0) _ c.requires.operands l
    (zero_leaf v c.number_zero.result c.requires.permanent c.number_zero.ensures) (same_choice _ _ x (pos 0) (order_passed c.args.y c.args.x c.ranges.y c.ranges.x)) c.chosen.ensures
