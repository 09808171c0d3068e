use Rattle.std.proofs.Common.{refl, ap}
use Rattle.node_store.specs.Stacks.{Scratch}
use Rattle.std.proofs.lemmas.Result.{err_from_is_err_and}
use Rattle.node_store.specs.ViewLaws.{Grown-trans, Kept-trans, Permanent-grown}
use Rattle.node_store.specs.WorkLaws.{Moves-kept}
use Rattle.node_store.proofs.Frames.{other_err}
use Rattle.add_ops.specs.SumLasts.{SumDue-stays}
use Rattle.add_ops.proofs.SumLaws.{Sum-both, halves_answer, halves_due, halves_moved, halves_overflow, sum_asked, sum_hit, sum_key}
use Rattle.add_ops.proofs.summation.SummationOperator.start.Goals as goal

pub find-requires : goal.find-requires
find-requires g c = let d = c.requires.due in record { edge = d.edge; in_range = d.root.in_range }

pub place_by_place-requires-clause-operands : goal.place_by_place-requires-clause-operands
place_by_place-requires-clause-operands g c = c.in-Halves.ensures.found.two

pub place_by_place-requires-clause-permanent : goal.place_by_place-requires-clause-permanent
place_by_place-requires-clause-permanent g c = Permanent-grown c.in-Halves.ensures.kept.grown c.requires.due.permanent

pub returns-in_err-sum-in-Halves-clause-moved : goal.returns-in_err-sum-in-Halves-clause-moved
returns-in_err-sum-in-Halves-clause-moved g c =
    let o = c.args.self.now in let h = c.in-Halves.ensures in let e = c.in_err-sum-in-Halves.ensures in
    let d = SumDue-stays o.f o.var o.projection _ _ c.args.task h.kept.grown c.requires.due in
    record {
      moves = Sum-both o.f o.var o.projection _ _ _ (Moves-kept _ _ _ _ h.kept) (halves_moved o.f o.var o.projection _ _ c.args.task c.in-Halves.hi c.in-Halves.lo d h.found e.runs.grown e.runs.work);
      known = ap (λ (s : Scratch). s.answers) e.stack;
      marks = ap (λ (s : Scratch). s.marks) e.stack;
    }

pub returns-in_err-sum-in-Halves-clause-overflow : goal.returns-in_err-sum-in-Halves-clause-overflow
returns-in_err-sum-in-Halves-clause-overflow g c =
    let o = c.args.self.now in let h = c.in-Halves.ensures in let e = c.in_err-sum-in-Halves.ensures in
    let d = SumDue-stays o.f o.var o.projection _ _ c.args.task h.kept.grown c.requires.due in
    let q = err_from_is_err_and c.from_residual.result c.from_residual.ensures.1 in rw (q.1, q.2) (λ is.
    halves_overflow o.f o.var o.projection _ _ c.args.task c.in-Halves.hi c.in-Halves.lo d h.found e.runs.grown (e.runs.overflow (other_err _ _ is)))

pub returns-in_err-sum-in-Halves-clause-due : goal.returns-in_err-sum-in-Halves-clause-due
returns-in_err-sum-in-Halves-clause-due g c =
    let o = c.args.self.now in let h = c.in-Halves.ensures in let e = c.in_err-sum-in-Halves.ensures in
    let d = SumDue-stays o.f o.var o.projection _ _ c.args.task h.kept.grown c.requires.due in
    let q = err_from_is_err_and c.from_residual.result c.from_residual.ensures.1 in rw (q.1, q.2) (λ is.
    halves_due o.f o.var o.projection _ _ c.args.task c.in-Halves.hi c.in-Halves.lo d h.found e.runs.grown _ (e.runs.due (other_err _ _ is)))

pub returns-in_ok-sum-in-Halves-clause-moved : goal.returns-in_ok-sum-in-Halves-clause-moved
returns-in_ok-sum-in-Halves-clause-moved g c =
    let o = c.args.self.now in let h = c.in-Halves.ensures in let e = c.in_ok-sum-in-Halves.ensures in
    let d = SumDue-stays o.f o.var o.projection _ _ c.args.task h.kept.grown c.requires.due in
    record {
      moves = Sum-both o.f o.var o.projection _ _ _ (Moves-kept _ _ _ _ h.kept) (halves_moved o.f o.var o.projection _ _ c.args.task c.in-Halves.hi c.in-Halves.lo d h.found e.runs.grown e.runs.work);
      known = ap (λ (s : Scratch). s.answers) e.stack;
      marks = ap (λ (s : Scratch). s.marks) e.stack;
    }

pub returns-in_ok-sum-in-Halves-clause-next : goal.returns-in_ok-sum-in-Halves-clause-next
returns-in_ok-sum-in-Halves-clause-next g c =
    let o = c.args.self.now in let h = c.in-Halves.ensures in let e = c.in_ok-sum-in-Halves.ensures in
    let d = SumDue-stays o.f o.var o.projection _ _ c.args.task h.kept.grown c.requires.due in
    halves_answer o.f o.var o.projection _ _ c.args.task c.in-Halves.hi c.in-Halves.lo d h.found e.runs.grown c.in_ok-sum-in-Halves.sum e.runs.answer

pub memo_get-requires : goal.memo_get-requires
memo_get-requires g c =
    let o = c.args.self.now in let m = c.in-Parts.ensures.kept.grown in
    let d = SumDue-stays o.f o.var o.projection _ _ c.args.task m c.requires.due in
    rw c.key_of.ensures (sum_key _ c.args.task.f o.projection o.var d.projection d.edge)

pub returns-in-Some-clause-moved : goal.returns-in-Some-clause-moved
returns-in-Some-clause-moved g c = record { moves = Moves-kept _ _ _ _ (Kept-trans c.in-Parts.ensures.kept c.in-Some.ensures.kept); known = refl; marks = refl }

pub returns-in-Some-clause-next : goal.returns-in-Some-clause-next
returns-in-Some-clause-next g c =
    let o = c.args.self.now in
    let d = SumDue-stays o.f o.var o.projection _ _ c.args.task (Grown-trans c.in-Parts.ensures.kept.grown c.in-Some.ensures.kept.grown) c.requires.due in
    sum_hit _ c.args.task.f o.projection o.var c.in-Some.edge d.projection (rw c.key_of.ensures at c.in-Some.ensures.hit)

pub returns-in_default-clause-moved : goal.returns-in_default-clause-moved
returns-in_default-clause-moved g c = record { moves = Moves-kept _ _ _ _ (Kept-trans c.in-Parts.ensures.kept c.in_default.ensures.kept); known = refl; marks = refl }

pub returns-in_default-clause-next : goal.returns-in_default-clause-next
returns-in_default-clause-next g c =
    let o = c.args.self.now in let h = c.in-Parts.ensures in
    let a = sum_asked o.f o.var o.projection _ _ _ c.args.task c.two-in-Parts.result c.two.result c.in-Parts.hi c.in-Parts.lo c.in-Parts.var c.requires.due h.kept.grown c.in_default.ensures.kept.grown h.found
    c.two-in-Parts.ensures.f c.two.ensures.f in
    record { waits = a.waits; due = a.due; less = a.less }
