use Rattle.std.proofs.Common.{ap, arith}
use Rattle.std.proofs.lemmas.Grind.{common_steps}
use Rattle.node_store.specs.Stacks.{Scratch}
use Rattle.node_store.specs.ViewLaws.{Grown-trans}
use Rattle.node_store.specs.WorkLaws.{Moves-both, Moves-kept}
use Rattle.node_store.proofs.binary.BinaryOperator.resume.Goals as goal

pub join-requires-clause-parts : goal.join-requires-clause-parts
join-requires-clause-parts g c =
    let p = c.requires.waits in
    let q = p.1.waits in
    let a = rw c.in-Second.is at q.wait in
    ((a.0, p.0.1), record { due = q.due; splits = a.1.splits; hi_is = a.1.hi_is; lo_is = p.1.answers })

pub returns-in_ok-edge-in-Second-clause-moved : goal.returns-in_ok-edge-in-Second-clause-moved
returns-in_ok-edge-in-Second-clause-moved g c =
    let a = g.O.Apply in let m = g.met.O.Apply in let op = c.args.self.now.0 in
    let e = c.in_ok-edge-in-Second.ensures in
    record {
      moves = Moves-both (a.roots op) (a.work op) (m.roots_stay op) (m.work_stays op) _ _ _ e.moved (Moves-kept (a.roots op) (a.work op) _ _ c.finish-in-Second.ensures.kept);
      known = ap (λ (s : Scratch). s.answers) e.stack;
      marks = ap (λ (s : Scratch). s.marks) e.stack;
    }

pub returns-in_ok-edge-in-Second-clause-next : goal.returns-in_ok-edge-in-Second-clause-next
returns-in_ok-edge-in-Second-clause-next g c = λ root child due q is.
    let m = g.met.O.Apply in let op = c.args.self.now.0 in
    let e = c.in_ok-edge-in-Second.ensures in
    let put = c.finish-in-Second.ensures.kept.grown in
    let here = m.due_stays op _ _ c.args.frame.task e.moved.grown q.due in
    rw c.finish-in-Second.ensures.flipped (q.leads.gives _ c.in_ok-edge-in-Second.edge (Grown-trans e.moved.grown put) (m.answers_stay op _ _ c.args.frame.task _ put here e.answer))

pub returns-in_default-settled-clause-moved : goal.returns-in_default-settled-clause-moved
returns-in_default-settled-clause-moved g c = grind (arith, common_steps)
