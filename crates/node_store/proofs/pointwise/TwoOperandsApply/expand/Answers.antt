use Rattle.std.proofs.Common.{rules, SFits, Ok, Err, w64, ap, sym, subst, arith}
use Rattle.std.proofs.lemmas.Grind.{common_steps}
use Rattle.std.proofs.lemmas.Int.{to_z-of_z}
use Rattle.node_store.specs.Views.{IsLeaf, values_at}
use Rattle.std.proofs.lemmas.Result.{err_from_is_err_and}
use Rattle.node_store.specs.declared.operator.Halt.TheVariants as halt
use Rattle.node_store.specs.ViewLaws.{Grown-trans, Kept-trans, Permanent-grown}
use Rattle.node_store.specs.TwoLaws.{AreTwo-grown}
use Rattle.node_store.specs.WorkLaws.{Moves-kept}
use Rattle.node_store.proofs.Frames.{other_err}
use Rattle.node_store.proofs.TwoParts.{AreTwo-order, Two-split}
use Rattle.node_store.proofs.TwoWork.{Place-hit, IsKey-two, Leaves-moved, Leaves-refused, Leaves-over, Leaves-answer}
use Rattle.node_store.proofs.pointwise.TwoOperandsApply.expand.Goals as goal

pub memo_get-requires : goal.memo_get-requires
memo_get-requires g c =
    let o = g.O.Pointwise in
    let d = AreTwo-order o.kind o.op _ c.args.task.f c.args.task.g _ _ c.arrange-task.ensures.order c.requires.two in
    rw c.key_of-key.ensures (IsKey-two o.kind _ _ c.number.ensures.range.0 c.number.ensures.range.1 d.first d.second c.arrange-task.ensures.unused)

pub returns-in-Some-memo_get-clause-expanded : goal.returns-in-Some-memo_get-clause-expanded
returns-in-Some-memo_get-clause-expanded g c =
    let o = g.O.Pointwise in let e = c.in-Some-memo_get.ensures in
    let holds = c.number.ensures.hit _ _ _ (ap (λ k. k.op) c.key_of-key.ensures) e.hit in
    Place-hit o.kind o.op _ _ c.args.task.f c.args.task.g c.key_of-key.result c.in-Some-memo_get.edge e.kept.grown (rw c.key_of-key.ensures c.arrange-task.ensures.order) holds

pub split_two-requires : goal.split_two-requires
split_two-requires g c =
    let o = g.O.Pointwise in
    (o.kind, AreTwo-grown o.kind c.in_default-memo_get.ensures.kept.grown (AreTwo-order o.kind o.op _ c.args.task.f c.args.task.g _ _ c.arrange-task.ensures.order c.requires.two))

pub at_leaves-requires-clause-operands : goal.at_leaves-requires-clause-operands
at_leaves-requires-clause-operands g c = let o = g.O.Pointwise in AreTwo-grown o.kind c.in-Leaves.ensures.kept.grown (AreTwo-grown o.kind c.in_default-memo_get.ensures.kept.grown (AreTwo-order o.kind o.op _ c.args.task.f c.args.task.g _ _ c.arrange-task.ensures.order c.requires.two))

pub at_leaves-requires-clause-permanent : goal.at_leaves-requires-clause-permanent
at_leaves-requires-clause-permanent g c = Permanent-grown (Grown-trans c.in_default-memo_get.ensures.kept.grown c.in-Leaves.ensures.kept.grown) c.requires.permanent

pub at_leaves-requires-clause-first : goal.at_leaves-requires-clause-first
at_leaves-requires-clause-first g c =
    let o = g.O.Pointwise in let w = g.G.Grow.view c.split_two.new.store in let e = c.arrange-task.result.f in
    let fits : SFits w64 c.in-Leaves.x = search rules in
    subst (λ z. IsLeaf o.kind w e (values_at o.kind w e) z) (sym (to_z-of_z w64 c.in-Leaves.x fits)) (c.in-Leaves.ensures.split o.kind (AreTwo-grown o.kind c.in_default-memo_get.ensures.kept.grown (AreTwo-order o.kind o.op _ c.args.task.f c.args.task.g _ _ c.arrange-task.ensures.order c.requires.two))).0

pub at_leaves-requires-clause-second : goal.at_leaves-requires-clause-second
at_leaves-requires-clause-second g c =
    let o = g.O.Pointwise in let w = g.G.Grow.view c.split_two.new.store in let e = c.arrange-task.result.g in
    let fits : SFits w64 c.in-Leaves.y = search rules in
    subst (λ z. IsLeaf o.kind w e (values_at o.kind w e) z) (sym (to_z-of_z w64 c.in-Leaves.y fits)) (c.in-Leaves.ensures.split o.kind (AreTwo-grown o.kind c.in_default-memo_get.ensures.kept.grown (AreTwo-order o.kind o.op _ c.args.task.f c.args.task.g _ _ c.arrange-task.ensures.order c.requires.two))).1

pub returns-in_err-at_leaves-in-Leaves-clause-moved : goal.returns-in_err-at_leaves-in-Leaves-clause-moved
returns-in_err-at_leaves-in-Leaves-clause-moved g c =
    let o = g.O.Pointwise in let e = c.in_err-at_leaves-in-Leaves.ensures in
    Leaves-moved o.kind o.op c.args.self.now.f c.args.self.now.g _ _ _ c.args.task c.arrange-task.result (Err halt.Overflow) c.requires c.arrange-task.ensures.order
    (Kept-trans c.in_default-memo_get.ensures.kept c.in-Leaves.ensures.kept) e.grown e.made e.answer

pub returns-in_err-at_leaves-in-Leaves-clause-overflow : goal.returns-in_err-at_leaves-in-Leaves-clause-overflow
returns-in_err-at_leaves-in-Leaves-clause-overflow g c =
    let o = g.O.Pointwise in let e = c.in_err-at_leaves-in-Leaves.ensures in
    let q = err_from_is_err_and c.from_residual.result c.from_residual.ensures.1 in rw (q.1, q.2) (λ is.
    Leaves-over o.kind o.op c.args.self.now.f c.args.self.now.g _ _ _ c.args.task c.arrange-task.result c.requires c.arrange-task.ensures.order
    (Kept-trans c.in_default-memo_get.ensures.kept c.in-Leaves.ensures.kept) e.grown (e.overflow (other_err _ _ is)))

pub returns-in_err-at_leaves-in-Leaves-clause-due : goal.returns-in_err-at_leaves-in-Leaves-clause-due
returns-in_err-at_leaves-in-Leaves-clause-due g c =
    let o = g.O.Pointwise in let e = c.in_err-at_leaves-in-Leaves.ensures in
    let q = err_from_is_err_and c.from_residual.result c.from_residual.ensures.1 in rw (q.1, q.2) (λ is.
    Leaves-refused o.kind o.op c.args.self.now.f c.args.self.now.g _ _ _ c.args.task c.arrange-task.result c.requires c.arrange-task.ensures.order
    (Kept-trans c.in_default-memo_get.ensures.kept c.in-Leaves.ensures.kept) e.grown (e.due (other_err _ _ is)))

pub returns-in_ok-at_leaves-in-Leaves-clause-moved : goal.returns-in_ok-at_leaves-in-Leaves-clause-moved
returns-in_ok-at_leaves-in-Leaves-clause-moved g c =
    let o = g.O.Pointwise in let e = c.in_ok-at_leaves-in-Leaves.ensures in
    Leaves-moved o.kind o.op c.args.self.now.f c.args.self.now.g _ _ _ c.args.task c.arrange-task.result (Ok c.in_ok-at_leaves-in-Leaves.field-0) c.requires c.arrange-task.ensures.order
    (Kept-trans c.in_default-memo_get.ensures.kept c.in-Leaves.ensures.kept) e.grown e.made e.answer

pub returns-in_ok-at_leaves-in-Leaves-clause-expanded : goal.returns-in_ok-at_leaves-in-Leaves-clause-expanded
returns-in_ok-at_leaves-in-Leaves-clause-expanded g c =
    let o = g.O.Pointwise in let e = c.in_ok-at_leaves-in-Leaves.ensures in
    Leaves-answer o.kind o.op c.args.self.now.f c.args.self.now.g _ _ _ c.args.task c.arrange-task.result _ c.requires c.arrange-task.ensures.order
    (Kept-trans c.in_default-memo_get.ensures.kept c.in-Leaves.ensures.kept) e.grown e.answer

pub returns-in-At-clause-expanded : goal.returns-in-At-clause-expanded
returns-in-At-clause-expanded g c =
    let o = g.O.Pointwise in let e = c.in-At.ensures in
    Two-split o.kind o.op g.met.O.Pointwise.keeps c.args.self.now.f c.args.self.now.g _ _ c.args.task c.arrange-task.result c.in-At.halves c.requires c.arrange-task.ensures.order
    (Grown-trans c.in_default-memo_get.ensures.kept.grown e.kept.grown) (e.split o.kind (AreTwo-grown o.kind c.in_default-memo_get.ensures.kept.grown (AreTwo-order o.kind o.op _ c.args.task.f c.args.task.g _ _ c.arrange-task.ensures.order c.requires.two)))

pub returns-in-At-clause-moved : goal.returns-in-At-clause-moved
returns-in-At-clause-moved g c =
    Moves-kept _ _ _ _ (Kept-trans c.in_default-memo_get.ensures.kept c.in-At.ensures.kept)

pub returns-in-Some-clause-moved : goal.returns-in-Some-clause-moved
returns-in-Some-clause-moved g c = grind (arith, common_steps)

pub returns-in_err-at_leaves-in-Leaves-clause-full : goal.returns-in_err-at_leaves-in-Leaves-clause-full
returns-in_err-at_leaves-in-Leaves-clause-full g c = grind (arith, common_steps)

pub returns-in_ok-at_leaves-in-Leaves-clause-full : goal.returns-in_ok-at_leaves-in-Leaves-clause-full
returns-in_ok-at_leaves-in-Leaves-clause-full g c = grind (arith, common_steps)
