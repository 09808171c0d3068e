use Rattle.std.proofs.Common.{sym, arith}
use Rattle.std.proofs.lemmas.Grind.{common_steps}
use Rattle.add_ops.proofs.summation.SummationOperator.resume.Goals as goal

pub returns-in-First-clause-next : goal.returns-in-First-clause-next
returns-in-First-clause-next g c = λ root child due q is.
    let a = rw c.in-First.is at q.waiting.wait in
    record {
      waits = record {
        task = q.task;
        waiting = record { due = q.waiting.due; leads = q.waiting.leads; wait = (child, record { splits = a.splits; hi_due = a.hi_due; hi_is = is }) };
      };
      due = a.lo_due;
      less = a.lo_less;
    }

pub join-requires : goal.join-requires
join-requires g c =
    let p = c.requires.waits in let q = p.1.waits.waiting in
    let a = rw c.in-Second.is at q.wait in
    ((a.0, p.0.1), record { due = q.due; splits = a.1.splits; hi_is = a.1.hi_is; lo_is = p.1.answers })

pub returns-in_ok-edge-in-Second-clause-next : goal.returns-in_ok-edge-in-Second-clause-next
returns-in_ok-edge-in-Second-clause-next g c = λ root child due q is. rw (sym q.task) c.in_ok-edge-in-Second.ensures.answer

pub returns-in-First-clause-moved : goal.returns-in-First-clause-moved
returns-in-First-clause-moved g c = grind (arith, common_steps)
