use Rattle.std.proofs.Common.{refl}
use Rattle.node_store.specs.States.{state_of}
use Rattle.quantify_ops.proofs.SupportLaws.{Covers-more, walk_remembers}
use Rattle.quantify_ops.proofs.dependence.DependenceOperator.resume.Goals as goal

pub returns-in-First-clause-next : goal.returns-in-First-clause-next
returns-in-First-clause-next g c = λ root child due q is.
    let a = rw c.in-First.is at q.step in
    record {
      waits = record { own = q.own; step = record { child_is = a.later_due.edge; covers = λ d more covers. a.covers d more (Covers-more _ d _ more is) covers } };
      due = a.later_due;
      less = a.less;
    }

pub returns-in-Second-clause-moved : goal.returns-in-Second-clause-moved
returns-in-Second-clause-moved g c =
    let p = c.requires.waits.1 in let a = rw c.in-Second.is at p.waits.step in let r = c.remember.ensures in
    walk_remembers c.args.self.now.f (state_of (g.G.Grow.view c.args._store.now) c.args.stack.now) _ c.args.frame.task c.args.answer refl r.marks r.remembers
    (rw p.waits.own p.due.edge) (rw p.waits.own (a.covers _ (λ v n. n) p.answers))

pub returns-in-Second-clause-next : goal.returns-in-Second-clause-next
returns-in-Second-clause-next g c = λ root child due q is.
    let a = rw c.in-Second.is at q.step in rw c.remember.ensures.marks (a.covers _ (λ v n. n) is)
