use Rattle.std.specs.Prelude.{if◌then◌else◌, int_le}
use Rattle.add_ops.proofs.LeafLaws.{chosen_answer, leaves_are, order_passed, same_choice, second_leaf}
use Rattle.add_ops.proofs.choices.MinimumPointwise.at_leaves.Goals as goal

pub returns-clause-answer : goal.returns-clause-answer
returns-clause-answer g c =
    let x = c.args.x in let y = c.args.y in let v = g.G.Grow.view c.args._store.now in
    let l = leaves_are v c.args.f c.args.g x y c.requires.first c.requires.second in
    chosen_answer (λ a b. if int_le a b then a else b) v c.args.f c.args.g c.args.g c.chosen.result x y y _ c.requires.operands l
    (second_leaf v c.args.f c.args.g x y c.requires.operands l) (same_choice _ _ x y (order_passed c.args.x c.args.y c.ranges.x c.ranges.y)) c.chosen.ensures
