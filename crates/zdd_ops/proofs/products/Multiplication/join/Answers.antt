use Rattle.std.proofs.lemmas.Result.{err_from_is_err_and}
use Rattle.edge_bits.specs.declared.edges.Kind.TheVariants.{Zdd}
use Rattle.node_store.proofs.Stops.{full_stop}
use Rattle.node_store.specs.TwoLaws.{AreTwo-grown}
use Rattle.node_store.specs.ViewLaws.{Grown-trans, Permanent-grown}
use Rattle.node_store.specs.WorkLaws.{Moves-kept}
use Rattle.zdd_ops.specs.Products.{product_work}
use Rattle.zdd_ops.specs.ProductLasts.{ProductAnswers-stay}
use Rattle.zdd_ops.proofs.ProductSteps.{Node-answer, Node-can, Node-due, Node-is, Node-moved, None-moved, Product-both, Product-kept, Product-key}
use Rattle.zdd_ops.proofs.products.Multiplication.join.Goals as goal

pub make-requires : goal.make-requires
make-requires g c =
    let o = c.args.self.now in let a = c.in_ok-with.ensures in (Zdd, Node-can o.p o.q _ c.args.task c.args.var c.args.quarters c.requires.parts _ a.moved.grown c.in_ok-with.with a.answer)

pub returns-in_err-edge-clause-moved : goal.returns-in_err-edge-clause-moved
returns-in_err-edge-clause-moved g c =
    let o = c.args.self.now in let e = c.in_err-edge.ensures in Product-both o.p o.q _ _ _ c.in_ok-with.ensures.moved (None-moved o.p o.q _ _ e.grown e.made)

pub returns-in_err-edge-clause-due : goal.returns-in_err-edge-clause-due
returns-in_err-edge-clause-due g c =
    let o = c.args.self.now in let a = c.in_ok-with.ensures in let e = c.in_err-edge.ensures in
    let can = Node-can o.p o.q _ c.args.task c.args.var c.args.quarters c.requires.parts _ a.moved.grown c.in_ok-with.with a.answer in
    let r = err_from_is_err_and c.from_residual-in_err-edge.result c.from_residual-in_err-edge.ensures.1 in rw (r.1, r.2) (λ full.
    Node-due o.p o.q _ c.args.task c.args.var c.args.quarters c.requires.parts _ a.moved.grown c.in_ok-with.with a.answer _ e.grown (e.due (full_stop _ full) Zdd can))

pub memo_put-requires-clause-key : goal.memo_put-requires-clause-key
memo_put-requires-clause-key g c =
    let m = Grown-trans c.in_ok-with.ensures.moved.grown c.in_ok-edge.ensures.grown in
    rw c.key_of-key.ensures (Product-key _ c.args.task.f c.args.task.g (AreTwo-grown Zdd m c.requires.parts.due.two))

pub memo_put-requires-clause-holds : goal.memo_put-requires-clause-holds
memo_put-requires-clause-holds g c =
    let o = c.args.self.now in let a = c.in_ok-with.ensures in let e = c.in_ok-edge.ensures in let m = Grown-trans a.moved.grown e.grown in
    let can = Node-can o.p o.q _ c.args.task c.args.var c.args.quarters c.requires.parts _ a.moved.grown c.in_ok-with.with a.answer in
    let is = Node-is o.p o.q _ c.args.task c.args.var c.args.quarters c.requires.parts _ a.moved.grown c.in_ok-with.with a.answer in
    rw c.key_of-key.ensures (Product-kept _ c.args.task.f c.args.task.g (AreTwo-grown Zdd m c.requires.parts.due.two) c.in_ok-edge.edge (Permanent-grown m c.requires.parts.due.permanent)
    (Node-answer o.p o.q _ c.args.task c.args.var c.args.quarters c.requires.parts _ c.in_ok-edge.edge _ m is (e.ok Zdd can)))

pub returns-clause-moved : goal.returns-clause-moved
returns-clause-moved g c =
    let o = c.args.self.now in let a = c.in_ok-with.ensures in let e = c.in_ok-edge.ensures in
    let can = Node-can o.p o.q _ c.args.task c.args.var c.args.quarters c.requires.parts _ a.moved.grown c.in_ok-with.with a.answer in
    Product-both o.p o.q _ _ _ a.moved (Product-both o.p o.q _ _ _
    (Node-moved o.p o.q _ c.args.task c.args.var c.args.quarters c.requires.parts _ a.moved.grown c.in_ok-with.with a.answer _ c.in_ok-edge.edge e.grown e.made (e.ok Zdd can))
    (Moves-kept _ (product_work o.p o.q) _ _ c.memo_put.ensures.kept))

pub returns-clause-answer : goal.returns-clause-answer
returns-clause-answer g c =
    let o = c.args.self.now in let a = c.in_ok-with.ensures in let e = c.in_ok-edge.ensures in let m = Grown-trans a.moved.grown e.grown in
    let can = Node-can o.p o.q _ c.args.task c.args.var c.args.quarters c.requires.parts _ a.moved.grown c.in_ok-with.with a.answer in
    let is = Node-is o.p o.q _ c.args.task c.args.var c.args.quarters c.requires.parts _ a.moved.grown c.in_ok-with.with a.answer in
    ProductAnswers-stay _ _ c.args.task c.in_ok-edge.edge c.memo_put.ensures.kept.grown (AreTwo-grown Zdd m c.requires.parts.due.two)
    (Node-answer o.p o.q _ c.args.task c.args.var c.args.quarters c.requires.parts _ c.in_ok-edge.edge _ m is (e.ok Zdd can))
