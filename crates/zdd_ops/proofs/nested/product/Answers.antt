use Rattle.node_store.proofs.Running.{lasting, runs, same_scratch}
use Rattle.zdd_ops.specs.ProductLasts.{product_work-back}
use Rattle.zdd_ops.proofs.CallLaws.{product_root, product_value}
use Rattle.zdd_ops.proofs.nested.product.Goals as goal

pub evaluate-requires-clause-due : goal.evaluate-requires-clause-due
evaluate-requires-clause-due g c = product_root _ c.args.p c.args.q c.two.result c.requires.permanent c.requires.operands c.two.ensures.f c.two.ensures.g

pub returns-clause-runs : goal.returns-clause-runs
returns-clause-runs g c =
    let r = c.evaluate.ensures in let m = r.moved.moves.grown in let p = c.args.p in let q = c.args.q in
    rw c.without_overflow.ensures (runs r.moved.moves c.requires.operands (λ F is. product_work-back p q _ _ F m c.requires.operands is)
    (lasting _ _ c.evaluate.result (λ x a. product_value _ _ p q c.two.result x m c.requires.operands c.two.ensures.f c.two.ensures.g a) r.answer) r.overflow r.memory r.full r.due)

pub returns-clause-stack : goal.returns-clause-stack
returns-clause-stack g c = let r = c.evaluate.ensures in same_scratch _ _ r.frames r.free r.moved.known r.moved.marks
