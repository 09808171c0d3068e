use Rattle.std.proofs.Common.{arith}
use Rattle.edge_bits.specs.declared.edges.Kind.TheVariants.{Bdd}
use Rattle.node_store.specs.ViewLaws.{Is-from, Kept-trans}
use Rattle.cover_isop.proofs.IsopCalls.{Levels-more}
use Rattle.cover_isop.proofs.operations.tell_levels.Goals as goal

pub projection-projection-requires : goal.projection-projection-requires
projection-projection-requires g c =
    let l = c.levels-variables.ensures in let e = l.levels in let n = l.kept.grown.vars in let k = c.loop-var.invariant.0.grown.vars in let lt = c.loop-var-test.true in
    let v = c.requires c.loop-var.var (omega (arith, e, n, lt)) in (v.0, (let b = v.1 in omega (arith, b, k)))

pub loop-var-init : goal.loop-var-init
loop-var-init g c = (c.levels-variables.ensures.kept, λ v lt. absurd (omega (arith, lt)))

pub open-node-requires : goal.open-node-requires
open-node-requires g c = (Bdd, Is-from Bdd c.projection-projection.ensures.projection.denotes)

pub loop-var-preserved : goal.loop-var-preserved
loop-var-preserved g c =
    let p = c.projection-projection.ensures in let o = c.open-node.ensures in (
      Kept-trans c.loop-var.invariant.0 (Kept-trans p.kept o.kept),
      Levels-more _ _ _ c.loop-var.var c.projection-projection.result c.open-node.result p.kept.grown o.kept.grown c.loop-var.invariant.1 p.projection (o.opens Bdd (Is-from Bdd p.projection.denotes)),
    )

pub returns-clause-kept : goal.returns-clause-kept
returns-clause-kept g c = c.loop-var.invariant.0

pub returns-clause-levels : goal.returns-clause-levels
returns-clause-levels g c = λ v lt.
    let l = c.levels-variables.ensures in let e = l.levels in let n = l.kept.grown.vars in let k = c.loop-var.invariant.0.grown.vars in let done = c.loop-var-test.false in
    c.loop-var.invariant.1 v (omega (arith, e, n, k, done, lt))
