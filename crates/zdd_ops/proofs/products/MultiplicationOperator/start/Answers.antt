use Rattle.std.proofs.Common.{true, false, refl}
use Rattle.edge_bits.specs.declared.edges.Kind.TheVariants.{Zdd}
use Rattle.node_store.specs.TwoLaws.{AreTwo-grown}
use Rattle.node_store.specs.ViewLaws.{Grown-trans, Kept-trans, Permanent-grown}
use Rattle.node_store.specs.WorkLaws.{Moves-kept}
use Rattle.zdd_ops.specs.Products.{product_work}
use Rattle.zdd_ops.specs.ProductLasts.{ProductDue-stays}
use Rattle.zdd_ops.proofs.ProductSteps.{Product-key, Product-memo, Quarter-at, Split-at}
use Rattle.zdd_ops.proofs.products.MultiplicationOperator.start.Goals as goal

pub memo_get-requires : goal.memo_get-requires
memo_get-requires g c = rw c.key_of.ensures (Product-key _ c.args.task.f c.args.task.g c.requires.due.two)

pub split_two-requires : goal.split_two-requires
split_two-requires g c = (Zdd, AreTwo-grown Zdd c.in_default-memo_get.ensures.kept.grown c.requires.due.two)

pub returns-in-Some-memo_get-clause-moved : goal.returns-in-Some-memo_get-clause-moved
returns-in-Some-memo_get-clause-moved g c =
    record { moves = Moves-kept _ (product_work c.args.self.now.p c.args.self.now.q) _ _ c.in-Some-memo_get.ensures.kept; known = refl; marks = refl }

pub returns-in-Some-memo_get-clause-next : goal.returns-in-Some-memo_get-clause-next
returns-in-Some-memo_get-clause-next g c =
    let e = c.in-Some-memo_get.ensures in
    Product-memo c.args.self.now.p c.args.self.now.q c.args.task c.key_of.result _ _ c.in-Some-memo_get.edge e.kept.grown c.key_of.ensures c.requires.due e.hit

pub unreachable-requires : goal.unreachable-requires
unreachable-requires g c =
    let m = c.in_default-memo_get.ensures.kept.grown in let e = c.in-Leaves.ensures in let later = Grown-trans m e.kept.grown in
    let leaves = e.split Zdd (AreTwo-grown Zdd m c.requires.due.two) in
    c.in_default.ensures (g.G.Grow.view c.split_two.new.store) (Permanent-grown later c.requires.due.permanent) (AreTwo-grown Zdd later c.requires.due.two) _ _ leaves.0 leaves.1

pub returns-clause-moved : goal.returns-clause-moved
returns-clause-moved g c =
    record { moves = Moves-kept _ (product_work c.args.self.now.p c.args.self.now.q) _ _ (Kept-trans c.in_default-memo_get.ensures.kept c.in-At.ensures.kept); known = refl; marks = refl }

pub returns-clause-next : goal.returns-clause-next
returns-clause-next g c =
    let o = c.args.self.now in let t = c.args.task in let m = c.in_default-memo_get.ensures.kept.grown in let h = c.in-At.halves in
    let due = ProductDue-stays o.p o.q _ _ t (Grown-trans m c.in-At.ensures.kept.grown) c.requires.due in
    let split = c.in-At.ensures.split Zdd (AreTwo-grown Zdd m c.requires.due.two) in
    let first = Quarter-at o.p o.q _ t h.top.var h.hi.f h.lo.f h.hi.g h.lo.g due split.top split.f split.g true true h.hi refl refl in
    let second = Quarter-at o.p o.q _ t h.top.var h.hi.f h.lo.f h.hi.g h.lo.g due split.top split.f split.g true false c.two.result c.two.ensures.f c.two.ensures.g in
    record {
      waits = record { same = refl; splits = Split-at _ t h.top.var h.hi.f h.lo.f h.hi.g h.lo.g split.top split.f split.g; wait = (first, second) };
      due = first.due;
      less = first.less;
    }
