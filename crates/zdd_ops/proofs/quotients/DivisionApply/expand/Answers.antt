use Rattle.edge_bits.specs.declared.edges.Kind.TheVariants.{Zdd}
use Rattle.node_store.specs.TwoLaws.{AreTwo-grown}
use Rattle.node_store.specs.ViewLaws.{Grown-trans, Kept-trans, Permanent-grown}
use Rattle.node_store.specs.WorkLaws.{Moves-kept}
use Rattle.zdd_ops.specs.Quotients.{quotient_work}
use Rattle.zdd_ops.specs.QuotientLasts.{QuotientDue-stays}
use Rattle.zdd_ops.proofs.ProductSteps.{Top-can}
use Rattle.zdd_ops.proofs.QuotientSteps.{Quotient-divided, Quotient-memo}
use Rattle.zdd_ops.proofs.quotients.DivisionApply.expand.Goals as goal

pub split_two-requires : goal.split_two-requires
split_two-requires g c = (Zdd, AreTwo-grown Zdd c.in_default-memo_get.ensures.kept.grown c.requires.two)

pub returns-in-Some-memo_get-clause-expanded : goal.returns-in-Some-memo_get-clause-expanded
returns-in-Some-memo_get-clause-expanded g c =
    let e = c.in-Some-memo_get.ensures in
    Quotient-memo c.args.self.now.p c.args.self.now.q c.args.task c.key_of.result _ _ c.in-Some-memo_get.edge e.kept.grown c.key_of.ensures c.requires e.hit

pub unreachable-requires : goal.unreachable-requires
unreachable-requires g c =
    let m = c.in_default-memo_get.ensures.kept.grown in let e = c.in-Leaves.ensures in let later = Grown-trans m e.kept.grown in
    let leaves = e.split Zdd (AreTwo-grown Zdd m c.requires.two) in
    c.in_default.ensures (g.G.Grow.view c.split_two.new.store) (Permanent-grown later c.requires.permanent) (AreTwo-grown Zdd later c.requires.two) _ _ leaves.0 leaves.1

pub divide-requires : goal.divide-requires
divide-requires g c =
    let m = c.in_default-memo_get.ensures.kept.grown in let n = c.in-At.ensures.kept.grown in
    Top-can _ c.args.task c.in-At.halves.top.var (AreTwo-grown Zdd (Grown-trans m n) c.requires.two) ((c.in-At.ensures.split Zdd (AreTwo-grown Zdd m c.requires.two)).top)

pub returns-clause-moved : goal.returns-clause-moved
returns-clause-moved g c =
    Moves-kept _ (quotient_work c.args.self.now.p c.args.self.now.q) _ _ (Kept-trans c.in_default-memo_get.ensures.kept (Kept-trans c.in-At.ensures.kept c.divide.ensures.kept))

pub returns-clause-expanded : goal.returns-clause-expanded
returns-clause-expanded g c =
    let m = c.in_default-memo_get.ensures.kept.grown in let n = c.in-At.ensures.kept.grown in let p = c.args.self.now.p in let q = c.args.self.now.q in
    Quotient-divided p q _ _ c.args.task c.in-At.halves.top.var c.divide.result c.divide.ensures.kept.grown (QuotientDue-stays p q _ _ c.args.task (Grown-trans m n) c.requires)
    ((c.in-At.ensures.split Zdd (AreTwo-grown Zdd m c.requires.two)).top) c.divide.ensures.split
