use Rattle.std.proofs.Common.{sym, subst, arith}
use Rattle.edge_bits.specs.declared.edges.Kind.TheVariants.{Zdd}
use Rattle.node_store.specs.Views.{IsInner, IsLeaf, family_at}
use Rattle.node_store.specs.ViewLaws.{IsVariable-grown, level-grown, top-grown, values_at-grown}
use Rattle.zdd_ops.proofs.QuotientSteps.{Lacks-inner, Lacks-leaf}
use Rattle.zdd_ops.proofs.quotients.divisor_at.Goals as goal
use Rattle.zdd_ops.proofs.quotients.divisor_at.Goals.{In-Inner}
use Rattle.zdd_ops.proofs.quotients.divisor_at.Given as given

opened : (g : given.Over) (c : In-Inner g) → IsInner Zdd (g.G.Grow.view c.open.new.self) c.args.edge (family_at (g.G.Grow.view c.open.new.self) c.args.edge) c.in-Inner.top c.in-Inner.hi c.in-Inner.lo
opened g c = rw (values_at-grown Zdd c.in-Inner.ensures.kept.grown c.requires.edge) (c.in-Inner.ensures.opens Zdd c.requires.edge)

pub returns-then-top-var-clause-divided : goal.returns-then-top-var-clause-divided
returns-then-top-var-clause-divided g c =
    subst (λ x. IsInner Zdd (g.G.Grow.view c.open.new.self) c.args.edge (family_at (g.G.Grow.view c.open.new.self) c.args.edge) x c.in-Inner.hi c.in-Inner.lo) c.if-top-var.true
    (opened g (goal.at.returns-then-top-var-clause-divided g c).In-Inner)

pub returns-else-top-var-clause-divided : goal.returns-else-top-var-clause-divided
returns-else-top-var-clause-divided g c =
    let m = c.in-Inner.ensures.kept.grown in let lv = level-grown m c.args.var in let te = top-grown Zdd m c.requires.edge in let le = c.requires.above in
    Lacks-inner _ c.args.edge c.args.var c.in-Inner.top c.in-Inner.hi c.in-Inner.lo (IsVariable-grown Zdd m c.args.var c.requires.in_range) (omega arith) (opened g (goal.at.returns-else-top-var-clause-divided g c).In-Inner) c.if-top-var.false

pub returns-in-Leaf-clause-divided : goal.returns-in-Leaf-clause-divided
returns-in-Leaf-clause-divided g c =
    let m = c.in-Leaf.ensures.kept.grown in let lv = level-grown m c.args.var in let n = m.elements in let lt = c.requires.within in
    Lacks-leaf _ c.args.edge c.args.var c.in-Leaf.field-0 (omega arith)
    (subst (λ f. IsLeaf Zdd (g.G.Grow.view c.open.new.self) c.args.edge f c.in-Leaf.field-0) (sym (values_at-grown Zdd m c.requires.edge)) (c.in-Leaf.ensures.opens Zdd c.requires.edge))
