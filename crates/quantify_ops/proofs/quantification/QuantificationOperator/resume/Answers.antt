use Rattle.std.proofs.Common.{inr, refl, ap}
use Rattle.node_store.specs.ViewLaws.{Grown-refl, Grown-trans, Kept-trans}
use Rattle.node_store.specs.WorkLaws.{Moves-kept}
use Rattle.quantify_ops.specs.Quantified.{AreQuantified, IsQuantifiedValue, PartWaits}
use Rattle.quantify_ops.specs.QuantifiedLasts.{PartWaits-stay, QuantifiedDue-stays, QuantifiedAnswers-stay}
use Rattle.quantify_ops.proofs.QuantifiedLaws.{leads_plain, moved_before, not_first, not_second, part_waits, skip_waits}
use Rattle.quantify_ops.proofs.quantification.QuantificationOperator.resume.Goals as goal
use Rattle.quantify_ops.proofs.quantification.QuantificationOperator.resume.Goals.{In-First, In-Second}
use Rattle.quantify_ops.proofs.quantification.QuantificationOperator.resume.Given as given

-- another task with the same answers
pub keep-requires-clause-due : goal.keep-requires-clause-due
keep-requires-clause-due g c =
    let o = c.args.self.now in let p = c.requires.waits in rw (skip_waits o.f o.g o.cube _ p.0.0 c.args.frame p.0.1 c.in-Only.is p.1.waits).own p.1.due

pub keep-requires-clause-answer : goal.keep-requires-clause-answer
keep-requires-clause-answer g c =
    let o = c.args.self.now in let p = c.requires.waits in let q = skip_waits o.f o.g o.cube _ p.0.0 c.args.frame p.0.1 c.in-Only.is p.1.waits in
    rw q.own (q.passes.gives _ c.args.answer (Grown-refl _) p.1.answers)

pub returns-in-Only-clause-next : goal.returns-in-Only-clause-next
returns-in-Only-clause-next g c = λ root child due q is.
    let o = c.args.self.now in let m = c.keep.ensures.grown in
    QuantifiedAnswers-stay _ _ root c.args.answer m due.operands ((skip_waits o.f o.g o.cube _ root c.args.frame child c.in-Only.is q).passes.gives _ c.args.answer (Grown-refl _) is)

-- the parts
first : (g : given.Over) (c : In-First g) → PartWaits c.args.self.now.f c.args.self.now.g c.args.self.now.cube (g.G.Grow.view c.args.store.now) c.requires.waits.0.0 c.args.frame c.requires.waits.0.1
first g c =
    let o = c.args.self.now in let p = c.requires.waits in part_waits o.f o.g o.cube _ p.0.0 c.args.frame p.0.1 (not_first c.args.frame.wait c.in-First.later c.in-First.is) p.1.waits

second : (g : given.Over) (c : In-Second g) → PartWaits c.args.self.now.f c.args.self.now.g c.args.self.now.cube (g.G.Grow.view c.args.store.now) c.requires.waits.0.0 c.args.frame c.requires.waits.0.1
second g c =
    let o = c.args.self.now in let p = c.requires.waits in part_waits o.f o.g o.cube _ p.0.0 c.args.frame p.0.1 (not_second c.args.frame.wait c.in-Second.hi c.in-Second.is) p.1.waits

pub settles-requires : goal.settles-requires
settles-requires g c =
    let p = c.requires.waits in let q = (first g (goal.at.settles-requires g c).In-First).waiting in
    let a = rw c.in-First.is at q.wait in
    ((p.0.1, c.in-First.later), record { due = q.due; splits = a.splits; first_is = p.1.answers })

pub keep-requires-then-settles-clause-due : goal.keep-requires-then-settles-clause-due
keep-requires-then-settles-clause-due g c =
    let o = c.args.self.now in QuantifiedDue-stays o.f o.g o.cube _ _ c.args.frame.task c.settles.ensures.kept.grown (first g (goal.at.keep-requires-then-settles-clause-due g c).In-First).waiting.due

pub returns-then-settles-clause-moved : goal.returns-then-settles-clause-moved
returns-then-settles-clause-moved g c =
    let o = c.args.self.now in
    record { moves = Moves-kept (λ w. AreQuantified w o.f o.g o.cube) (IsQuantifiedValue o.f o.g o.cube) _ _ (Kept-trans c.settles.ensures.kept c.keep-then-settles.ensures); known = refl; marks = refl }

pub returns-then-settles-clause-next : goal.returns-then-settles-clause-next
returns-then-settles-clause-next g c = λ root child due steps is.
    let o = c.args.self.now in let m = c.settles.ensures.kept.grown in let put = c.keep-then-settles.ensures.grown in
    let q = part_waits o.f o.g o.cube _ root c.args.frame child (not_first c.args.frame.wait c.in-First.later c.in-First.is) steps in
    let here = QuantifiedDue-stays o.f o.g o.cube _ _ c.args.frame.task m q.waiting.due in
    leads_plain _ _ root c.args.frame.task _ c.args.answer q.waiting.leads q.plain (Grown-trans m put)
    (QuantifiedAnswers-stay _ _ c.args.frame.task c.args.answer put here.operands (c.settles.ensures.answer c.if-settles.true))

pub returns-else-settles-clause-next : goal.returns-else-settles-clause-next
returns-else-settles-clause-next g c = λ root child due steps is.
    let o = c.args.self.now in let m = c.settles.ensures.kept.grown in
    let q = part_waits o.f o.g o.cube _ root c.args.frame child (not_first c.args.frame.wait c.in-First.later c.in-First.is) steps in
    let before = rw c.in-First.is at q.waiting.wait in
    let now = PartWaits-stay o.f o.g o.cube _ _ root c.args.frame child m due q in
    let a = rw c.in-First.is at now.waiting.wait in
    let first = QuantifiedAnswers-stay _ _ child c.args.answer m before.hi_due.operands is in
    record {
      waits = inr (record {
        plain = now.plain;
        waiting = record { due = now.waiting.due; leads = now.waiting.leads; wait = (child, record { splits = a.splits; hi_due = a.hi_due; hi_is = first }) };
      });
      due = a.lo_due;
      less = a.lo_less;
    }

pub join-requires-clause-parts : goal.join-requires-clause-parts
join-requires-clause-parts g c =
    let p = c.requires.waits in let q = (second g (goal.at.join-requires-clause-parts g c).In-Second).waiting in
    let a = rw c.in-Second.is at q.wait in
    ((a.0, p.0.1), record { due = q.due; splits = a.1.splits; hi_is = a.1.hi_is; lo_is = p.1.answers })

pub keep-requires-in-Second-clause-due : goal.keep-requires-in-Second-clause-due
keep-requires-in-Second-clause-due g c =
    let o = c.args.self.now in QuantifiedDue-stays o.f o.g o.cube _ _ c.args.frame.task c.in_ok-edge-in-Second.ensures.moved.grown (second g (goal.at.keep-requires-in-Second-clause-due g c).In-Second).waiting.due

pub returns-in_ok-edge-in-Second-clause-moved : goal.returns-in_ok-edge-in-Second-clause-moved
returns-in_ok-edge-in-Second-clause-moved g c =
    let o = c.args.self.now in let e = c.in_ok-edge-in-Second.ensures in
    record { moves = moved_before o.f o.g o.cube _ _ _ e.moved c.keep-in-Second.ensures; known = ap (λ s. s.answers) e.stack; marks = ap (λ s. s.marks) e.stack }

pub returns-in_ok-edge-in-Second-clause-next : goal.returns-in_ok-edge-in-Second-clause-next
returns-in_ok-edge-in-Second-clause-next g c = λ root child due steps is.
    let o = c.args.self.now in let e = c.in_ok-edge-in-Second.ensures in let m = e.moved.grown in let put = c.keep-in-Second.ensures.grown in
    let q = part_waits o.f o.g o.cube _ root c.args.frame child (not_second c.args.frame.wait c.in-Second.hi c.in-Second.is) steps in
    let here = QuantifiedDue-stays o.f o.g o.cube _ _ c.args.frame.task m q.waiting.due in
    leads_plain _ _ root c.args.frame.task _ c.in_ok-edge-in-Second.edge q.waiting.leads q.plain (Grown-trans m put)
    (QuantifiedAnswers-stay _ _ c.args.frame.task c.in_ok-edge-in-Second.edge put here.operands e.answer)
