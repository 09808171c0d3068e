use Rattle.std.proofs.Common.{ℤ, to_z, of_z}
use Rattle.std.specs.Int.{w128}
use Rattle.std.specs.Prelude.{◌-ℤ◌}
use Rattle.add_ops.proofs.LeafLaws.{leaf_answer, leaf_overflow, leaf_due, leaves_are, wide, wide_difference}
use Rattle.add_ops.proofs.arithmetic.SubtractionPointwise.at_leaves.Goals as goal

-- what was computed of the leaves' numbers
abbrev exact : ℤ → ℤ → ℤ
exact x y = to_z w128 (of_z w128 (wide x -ℤ wide y))

pub returns-clause-answer : goal.returns-clause-answer
returns-clause-answer g c =
    let x = c.args.x in let y = c.args.y in let v = g.G.Grow.view c.args.store.now in
    leaf_answer (λ a b. a -ℤ b) v _ c.args._f c.args._g x y (exact x y) c.leaf_of.result (leaves_are v c.args._f c.args._g x y c.requires.first c.requires.second)
    (wide_difference x y c.ranges.x c.ranges.y) c.leaf_of.ensures.leaf

pub returns-clause-overflow : goal.returns-clause-overflow
returns-clause-overflow g c = λ is.
    let x = c.args.x in let y = c.args.y in let v = g.G.Grow.view c.args.store.now in
    leaf_overflow (λ a b. a -ℤ b) v c.args._f c.args._g x y (exact x y) (leaves_are v c.args._f c.args._g x y c.requires.first c.requires.second)
    (wide_difference x y c.ranges.x c.ranges.y) (c.leaf_of.ensures.overflow is)

pub returns-clause-due : goal.returns-clause-due
returns-clause-due g c = λ is.
    let x = c.args.x in let y = c.args.y in let v = g.G.Grow.view c.args.store.now in
    leaf_due (λ a b. a -ℤ b) v c.args._f c.args._g x y (exact x y) _ (leaves_are v c.args._f c.args._g x y c.requires.first c.requires.second)
    (wide_difference x y c.ranges.x c.ranges.y) (c.leaf_of.ensures.due is)
