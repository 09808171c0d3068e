use Rattle.std.proofs.Common.{arith, rules, SFits, w64}
use Rattle.std.proofs.lemmas.Int.{to_z-of_z}
use Rattle.node_store.specs.Views.{values_at}
use Rattle.node_store.specs.declared.grow.Opened.TheVariants.{Inner}
use Rattle.node_store.specs.ViewLaws.{Is-grown, IsVariable-grown, Kept-trans, Permanent-grown, level-grown, levels-grown, top-grown, values_at-grown}
use Rattle.node_store.proofs.Operands.{Opens-grown}
use Rattle.node_store.proofs.parts.look.Goals as goal

pub level-requires : goal.level-requires
level-requires g c = let i = c.in-Inner.ensures.opens c.requires.0 c.requires.1 in (c.requires.0, i.in_range)

pub returns-in-Inner-clause-kept : goal.returns-in-Inner-clause-kept
returns-in-Inner-clause-kept g c = Kept-trans c.in-Inner.ensures.kept c.level.ensures.kept

pub returns-in-Inner-clause-permanent : goal.returns-in-Inner-clause-permanent
returns-in-Inner-clause-permanent g c = Permanent-grown c.level.ensures.kept.grown c.in-Inner.ensures.permanent

pub returns-in-Inner-clause-operand : goal.returns-in-Inner-clause-operand
returns-in-Inner-clause-operand g c = λ k d.
    let e = c.in-Inner.ensures in
    let m1 = e.kept.grown in let m2 = c.level.ensures.kept.grown in
    let d1 = Is-grown k m1 d in
    let i = e.opens k d in
    let o = Opens-grown k (values_at k (g.G.Grow.view c.args.store.now) c.args.edge) m2 d1 (Inner c.in-Inner.var c.in-Inner.hi c.in-Inner.lo) i in
    let same = values_at-grown k m1 d in
    let t = top-grown k m2 d1 in
    let l = level-grown m2 c.in-Inner.var in
    let n = levels-grown k m2 in
    let h = i.here in let w = i.within in let v = c.level.ensures.level in
    record {
      is = Is-grown k m2 d1;
      opens = rw (values_at-grown k m2 d1, same) o;
      top = record { in_range = IsVariable-grown k m2 c.in-Inner.var i.in_range; level = omega arith; here = omega arith; within = omega arith };
    }

pub returns-in-Leaf-clause-operand : goal.returns-in-Leaf-clause-operand
returns-in-Leaf-clause-operand g c = λ k d.
    let e = c.in-Leaf.ensures in
    let m = e.kept.grown in
    let i = e.opens k d in
    let fits : SFits w64 c.in-Leaf.value = search rules in
    rw (to_z-of_z w64 c.in-Leaf.value fits) (record {
      is = Is-grown k m d;
      opens = rw (values_at-grown k m d) i;
      top = (c.in-Leaf.value, rw (values_at-grown k m d) i);
    })
