use Rattle.std.proofs.Common.{refl, arith}
use Rattle.std.proofs.lemmas.Grind.{common_steps}
use Rattle.node_store.specs.WorkLaws.{Moves-none}
use Rattle.node_store.specs.RememberingLaws.{RememberingMoves-same, RememberingMoves-more}
use Rattle.node_store.proofs.remembering.RememberingOperator.resume.Goals as goal

pub join-requires-clause-parts : goal.join-requires-clause-parts
join-requires-clause-parts g c =
    let p = c.requires.waits in
    let q = p.1.waits in
    let a = rw c.in-Second.is at q.wait in
    ((a.0, p.0.1), record { due = q.due; splits = a.1.splits; hi_is = a.1.hi_is; lo_is = p.1.answers })

pub returns-in_err-edge-in-Second-clause-moved : goal.returns-in_err-edge-in-Second-clause-moved
returns-in_err-edge-in-Second-clause-moved g c =
    let a = g.O.Apply in let m = g.met.O.Apply in let op = c.args.self.now.0 in
    let e = c.in_err-edge-in-Second.ensures in
    RememberingMoves-same (a.roots op) (a.work op) (a.due op) (a.answers op) (m.due_stays op) (m.answers_stay op) _ _ c.args.stack.now c.join.new.stack e.moved e.stack

pub returns-in_ok-edge-in-Second-clause-moved : goal.returns-in_ok-edge-in-Second-clause-moved
returns-in_ok-edge-in-Second-clause-moved g c =
    let a = g.O.Apply in let m = g.met.O.Apply in let op = c.args.self.now.0 in
    let e = c.in_ok-edge-in-Second.ensures in
    let here = m.due_stays op _ _ c.args.frame.task e.moved.grown c.requires.waits.1.waits.due in
    RememberingMoves-more (a.roots op) (a.work op) (a.due op) (a.answers op) (m.due_stays op) (m.answers_stay op) _ _ c.args.stack.now c.join.new.stack c.remember-in-Second.new.self c.args.frame.task c.in_ok-edge-in-Second.edge
    e.moved e.stack c.remember-in-Second.ensures.remembers c.remember-in-Second.ensures.marks here e.answer

pub returns-in-Some-clause-moved : goal.returns-in-Some-clause-moved
returns-in-Some-clause-moved g c =
    let a = g.O.Apply in let m = g.met.O.Apply in let op = c.args.self.now.0 in
    let p = c.requires.waits in
    let q = p.1.waits in
    let first = rw c.in-First.is at q.wait in
    RememberingMoves-more (a.roots op) (a.work op) (a.due op) (a.answers op) (m.due_stays op) (m.answers_stay op) _ _ c.args.stack.now c.args.stack.now c.remember.new.self c.args.frame.task c.in-Some.edge
    (Moves-none (a.roots op) (a.work op) _) refl c.remember.ensures.remembers c.remember.ensures.marks q.due (c.in-Some.ensures _ p.0.1 _ q.due first.splits first.hi_due p.1.answers)

pub returns-in_default-settled-clause-moved : goal.returns-in_default-settled-clause-moved
returns-in_default-settled-clause-moved g c = grind (arith, common_steps)

pub returns-in_default-settled-clause-next : goal.returns-in_default-settled-clause-next
returns-in_default-settled-clause-next g c = grind (arith, common_steps)
