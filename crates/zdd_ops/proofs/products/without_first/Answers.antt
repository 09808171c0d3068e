use Rattle.std.proofs.Common.{true, false}
use Rattle.edge_bits.specs.declared.edges.Kind.TheVariants.{Zdd}
use Rattle.node_store.specs.ViewLaws.{Kept-trans}
use Rattle.zdd_ops.proofs.ProductLaws.{CanPart-grown}
use Rattle.zdd_ops.proofs.ProductSteps.{Reopened, Top-can}
use Rattle.zdd_ops.proofs.products.without_first.Goals as goal

pub parts-f0-requires : goal.parts-f0-requires
parts-f0-requires g c = (Zdd, (Top-can _ c.args.task c.args.var c.requires.two c.requires.top).f)

pub parts-g1-requires : goal.parts-g1-requires
parts-g1-requires g c = (Zdd, CanPart-grown _ _ c.args.task.g c.args.var c.parts-f0.ensures.kept.grown (Top-can _ c.args.task c.args.var c.requires.two c.requires.top).g)

pub returns-then-with_second-clause-part : goal.returns-then-with_second-clause-part
returns-then-with_second-clause-part g c = λ p q due.
    let t = c.args.task in let v = c.args.var in let a = c.parts-f0.ensures in let b = c.parts-g1.ensures in let can = Top-can _ t v c.requires.two c.requires.top in
    rw c.if-with_second.true (Reopened p q _ _ _ t v _ _ _ _ c.requires.top a.kept.grown b.kept.grown (a.parts Zdd can.f) (b.parts Zdd (CanPart-grown _ _ t.g v a.kept.grown can.g)) due true c.two.result c.two.ensures.f c.two.ensures.g)

pub returns-else-with_second-clause-part : goal.returns-else-with_second-clause-part
returns-else-with_second-clause-part g c = λ p q due.
    let t = c.args.task in let v = c.args.var in let a = c.parts-f0.ensures in let b = c.parts-g1.ensures in let can = Top-can _ t v c.requires.two c.requires.top in
    rw c.if-with_second.false (Reopened p q _ _ _ t v _ _ _ _ c.requires.top a.kept.grown b.kept.grown (a.parts Zdd can.f) (b.parts Zdd (CanPart-grown _ _ t.g v a.kept.grown can.g)) due false c.two-else-with_second.result c.two-else-with_second.ensures.f c.two-else-with_second.ensures.g)

pub returns-then-with_second-clause-kept : goal.returns-then-with_second-clause-kept
returns-then-with_second-clause-kept g c = Kept-trans c.parts-f0.ensures.kept c.parts-g1.ensures.kept

pub returns-else-with_second-clause-kept : goal.returns-else-with_second-clause-kept
returns-else-with_second-clause-kept g c = Kept-trans c.parts-f0.ensures.kept c.parts-g1.ensures.kept
