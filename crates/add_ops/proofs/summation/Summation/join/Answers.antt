use Rattle.std.proofs.Common.{Some, ap, ◌∙◌, subst}
use Rattle.std.proofs.lemmas.Result.{err_from_is_err_and}
use Rattle.edge_bits.specs.declared.edges.Kind.TheVariants.{Add}
use Rattle.function_laws.specs.Kinds.{AddFunction}
use Rattle.node_store.specs.Views.{Denotes}
use Rattle.node_store.specs.WorkLaws.{Moves-kept}
use Rattle.node_store.proofs.Frames.{other_err}
use Rattle.add_ops.specs.SumLasts.{SumAnswers-stay, SumDue-stays}
use Rattle.add_ops.proofs.SumLaws.{Sum-both, Sum-can_make, Sum-node, Sum-joined, Sum-moved, Sum-refused, sum_key, sum_memo}
use Rattle.add_ops.proofs.summation.Summation.join.Goals as goal

pub make-requires : goal.make-requires
make-requires g c = let p = c.requires.1 in (Add, Sum-can_make c.args.self.now.var p.splits p.hi_is p.lo_is)

pub returns-in_err-edge-clause-due : goal.returns-in_err-edge-clause-due
returns-in_err-edge-clause-due g c =
    let o = c.args.self.now in let p = c.requires.1 in let e = c.in_err-edge.ensures in
    let q = err_from_is_err_and c.from_residual.result c.from_residual.ensures.1 in rw (q.1, q.2) (λ is.
    Sum-refused o.f o.var o.projection _ _ c.args.task p.due e.grown
    (e.due (other_err _ _ is) Add (Sum-can_make o.var p.splits p.hi_is p.lo_is) ∙ ap (λ x. Some (AddFunction x)) (Sum-node o.var p.splits p.hi_is p.lo_is)))

pub memo_put-requires-clause-key : goal.memo_put-requires-clause-key
memo_put-requires-clause-key g c =
    let o = c.args.self.now in let p = c.requires.1 in let m = c.in_ok-edge.ensures.grown in
    let d = SumDue-stays o.f o.var o.projection _ _ c.args.task m p.due in
    rw c.key_of.ensures (sum_key _ c.args.task.f o.projection o.var d.projection d.edge)

pub memo_put-requires-clause-holds : goal.memo_put-requires-clause-holds
memo_put-requires-clause-holds g c =
    let o = c.args.self.now in let p = c.requires.1 in let e = c.in_ok-edge.ensures in
    let d = SumDue-stays o.f o.var o.projection _ _ c.args.task e.grown p.due in
    rw c.key_of.ensures (sum_memo _ c.args.task.f o.projection o.var c.in_ok-edge.edge d.projection d.edge d.root.in_range
    (Sum-joined o.var p.due.edge p.splits p.hi_is p.lo_is e.grown (e.ok Add (Sum-can_make o.var p.splits p.hi_is p.lo_is))))

pub returns-clause-moved : goal.returns-clause-moved
returns-clause-moved g c =
    let o = c.args.self.now in let p = c.requires.1 in let e = c.in_ok-edge.ensures in
    let made = e.ok Add (Sum-can_make o.var p.splits p.hi_is p.lo_is) in
    Sum-both o.f o.var o.projection _ _ _
    (Sum-moved o.f o.var o.projection _ _ c.args.task c.in_ok-edge.edge p.due e.grown e.made
    (subst (λ x. Denotes Add (g.G.Grow.view c.make.new.self) c.in_ok-edge.edge x) (Sum-node o.var p.splits p.hi_is p.lo_is) made))
    (Moves-kept _ _ _ _ c.memo_put.ensures.kept)

pub returns-clause-answer : goal.returns-clause-answer
returns-clause-answer g c =
    let o = c.args.self.now in let p = c.requires.1 in let e = c.in_ok-edge.ensures in
    let d = SumDue-stays o.f o.var o.projection _ _ c.args.task e.grown p.due in
    SumAnswers-stay o.var _ _ c.args.task c.in_ok-edge.edge c.memo_put.ensures.kept.grown d.edge
    (Sum-joined o.var p.due.edge p.splits p.hi_is p.lo_is e.grown (e.ok Add (Sum-can_make o.var p.splits p.hi_is p.lo_is)))
