use Rattle.std.proofs.Common.{sym, ◌∙◌}
use Rattle.ite_core.specs.ImplicationLasts.{ImplicationAnswers-stay}
use Rattle.ite_core.proofs.ImplicationLaws.{Implication-settled, Implication-joined}
use Rattle.ite_core.proofs.implication.ImplicationOperator.resume.Goals as goal

pub keep-requires-clause-answer : goal.keep-requires-clause-answer
keep-requires-clause-answer g c =
    let p = c.requires.waits in
    let a = rw c.in-First.is at p.1.waits.waiting.wait in
    Implication-settled _ c.args.frame.task p.0.1 c.in-First.later c.args.frame.var c.args.answer (sym c.complement.ensures ∙ c.if-complement.true) a.splits p.1.answers

pub returns-then-complement-clause-next : goal.returns-then-complement-clause-next
returns-then-complement-clause-next g c = λ root child due q is.
    let a = rw c.in-First.is at q.waiting.wait in
    rw (sym q.task) (ImplicationAnswers-stay _ _ c.args.frame.task c.args.answer c.keep.ensures.grown q.waiting.due
    (Implication-settled _ c.args.frame.task child c.in-First.later c.args.frame.var c.args.answer (sym c.complement.ensures ∙ c.if-complement.true) a.splits is))

pub returns-else-complement-clause-next : goal.returns-else-complement-clause-next
returns-else-complement-clause-next g c = λ root child due q is.
    let a = rw c.in-First.is at q.waiting.wait in
    record {
      waits = record {
        task = q.task;
        waiting = record { due = q.waiting.due; leads = q.waiting.leads; wait = (child, record { splits = a.splits; hi_due = a.hi_due; hi_is = is }) };
      };
      due = a.lo_due;
      less = a.lo_less;
    }

pub keep-requires-in-Second-clause-answer : goal.keep-requires-in-Second-clause-answer
keep-requires-in-Second-clause-answer g c =
    let p = c.requires.waits in
    let a = rw c.in-Second.is at p.1.waits.waiting.wait in
    rw c.both-edge.ensures (Implication-joined _ c.args.frame.task a.0 p.0.1 c.args.frame.var c.in-Second.first c.args.answer a.1.splits a.1.hi_is p.1.answers)

pub returns-in-Second-clause-next : goal.returns-in-Second-clause-next
returns-in-Second-clause-next g c = λ root child due q is.
    let a = rw c.in-Second.is at q.waiting.wait in
    rw (sym q.task) (ImplicationAnswers-stay _ _ c.args.frame.task c.both-edge.result c.keep-in-Second.ensures.grown q.waiting.due
    (rw c.both-edge.ensures (Implication-joined _ c.args.frame.task a.0 child c.args.frame.var c.in-Second.first c.args.answer a.1.splits a.1.hi_is is)))
