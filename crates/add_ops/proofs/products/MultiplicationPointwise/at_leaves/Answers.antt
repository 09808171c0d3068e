use Rattle.std.proofs.Common.{rules, SFits, of_z, to_z, w64}
use Rattle.std.specs.Prelude.{◌*ℤ◌}
use Rattle.add_ops.proofs.LeafLaws.{leaf_answer, leaf_overflow, leaf_due, leaves_are, passed_product, wide, wide_product}
use Rattle.add_ops.proofs.products.MultiplicationPointwise.at_leaves.Goals as goal

pub returns-in-Some-clause-answer : goal.returns-in-Some-clause-answer
returns-in-Some-clause-answer g c =
    let x = c.args.x in let y = c.args.y in let exact = c.in-Some.exact in let v = g.G.Grow.view c.args.store.now in
    let fe : SFits w64 c.in-Some.exact = search rules in
    leaf_answer (λ a b. a *ℤ b) v _ c.args._f c.args._g x y (wide exact) c.leaf_of.result (leaves_are v c.args._f c.args._g x y c.requires.first c.requires.second)
    (wide_product x y exact c.ranges.x c.ranges.y fe c.in-Some.ensures.some) c.leaf_of.ensures.leaf

pub returns-in-Some-clause-overflow : goal.returns-in-Some-clause-overflow
returns-in-Some-clause-overflow g c = λ is.
    let x = c.args.x in let y = c.args.y in let exact = c.in-Some.exact in let v = g.G.Grow.view c.args.store.now in
    let fe : SFits w64 c.in-Some.exact = search rules in
    leaf_overflow (λ a b. a *ℤ b) v c.args._f c.args._g x y (wide exact) (leaves_are v c.args._f c.args._g x y c.requires.first c.requires.second)
    (wide_product x y exact c.ranges.x c.ranges.y fe c.in-Some.ensures.some) (c.leaf_of.ensures.overflow is)

pub returns-in-Some-clause-due : goal.returns-in-Some-clause-due
returns-in-Some-clause-due g c = λ is.
    let x = c.args.x in let y = c.args.y in let exact = c.in-Some.exact in let v = g.G.Grow.view c.args.store.now in
    let fe : SFits w64 c.in-Some.exact = search rules in
    leaf_due (λ a b. a *ℤ b) v c.args._f c.args._g x y (wide exact) _ (leaves_are v c.args._f c.args._g x y c.requires.first c.requires.second)
    (wide_product x y exact c.ranges.x c.ranges.y fe c.in-Some.ensures.some) (c.leaf_of.ensures.due is)

pub returns-in-None-clause-overflow : goal.returns-in-None-clause-overflow
returns-in-None-clause-overflow g c = λ is.
    let x = c.args.x in let y = c.args.y in let v = g.G.Grow.view c.args.store.now in
    leaf_overflow (λ a b. a *ℤ b) v c.args._f c.args._g x y (to_z w64 (of_z w64 x) *ℤ to_z w64 (of_z w64 y)) (leaves_are v c.args._f c.args._g x y c.requires.first c.requires.second)
    (passed_product x y c.ranges.x c.ranges.y) c.in-None.ensures.none
