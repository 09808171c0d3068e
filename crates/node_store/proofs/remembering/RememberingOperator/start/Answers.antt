use Rattle.std.proofs.Common.{refl, arith}
use Rattle.std.proofs.lemmas.Grind.{common_steps}
use Rattle.node_store.specs.RememberingLaws.{Knows-grown, RememberingMoves-same}
use Rattle.node_store.proofs.remembering.RememberingOperator.start.Goals as goal

pub returns-in-Some-clause-next : goal.returns-in-Some-clause-next
returns-in-Some-clause-next g c =
    let r = c.in-Some.ensures in (c.requires.due.1 r.0 _ r.1).1

pub returns-in_err-edge-clause-moved : goal.returns-in_err-edge-clause-moved
returns-in_err-edge-clause-moved g c =
    let a = g.O.Apply in let m = g.met.O.Apply in let op = c.args.self.now.0 in
    RememberingMoves-same (a.roots op) (a.work op) (a.due op) (a.answers op) (m.due_stays op) (m.answers_stay op) _ _ c.args.stack.now c.args.stack.now c.in_err-edge.ensures.moved refl

pub returns-in-Done-clause-moved : goal.returns-in-Done-clause-moved
returns-in-Done-clause-moved g c =
    let a = g.O.Apply in let m = g.met.O.Apply in let op = c.args.self.now.0 in
    RememberingMoves-same (a.roots op) (a.work op) (a.due op) (a.answers op) (m.due_stays op) (m.answers_stay op) _ _ c.args.stack.now c.args.stack.now c.in_ok-edge.ensures.moved refl

pub returns-in-Split-clause-moved : goal.returns-in-Split-clause-moved
returns-in-Split-clause-moved g c =
    let a = g.O.Apply in let m = g.met.O.Apply in let op = c.args.self.now.0 in
    RememberingMoves-same (a.roots op) (a.work op) (a.due op) (a.answers op) (m.due_stays op) (m.answers_stay op) _ _ c.args.stack.now c.args.stack.now c.in_ok-edge.ensures.moved refl

pub returns-in-Split-clause-next : goal.returns-in-Split-clause-next
returns-in-Split-clause-next g c =
    let a = g.O.Apply in let m = g.met.O.Apply in let op = c.args.self.now.0 in
    let b = rw c.in-Split.is at c.in_ok-edge.ensures.expanded in
    record {
      waits = record { due = b.due; leads = b.leads; wait = record { splits = b.splits; hi_due = b.hi_due; lo_due = b.lo_due; lo_less = b.lo_less } };
      due = (b.hi_due, Knows-grown (a.due op) (a.answers op) (m.due_stays op) (m.answers_stay op) _ _ _ c.in_ok-edge.ensures.moved.grown c.requires.due.1);
      less = b.hi_less;
    }

pub returns-in-Some-clause-moved : goal.returns-in-Some-clause-moved
returns-in-Some-clause-moved g c = grind (arith, common_steps)
