use Rattle.std.proofs.Common.{subst}
use Rattle.std.proofs.lemmas.Result.{err_from_is_err_and}
use Rattle.node_store.proofs.Stops.{full_stop}
use Rattle.cover_isop.specs.Isops.{MorrealeAnswers, both_at, high_at, low_at}
use Rattle.cover_isop.specs.IsopLasts.{MorrealeAnswers-stay, MorrealeWaits-stay}
use Rattle.cover_isop.proofs.IsopAnswers.{Isop-due-as, Isop-less-as, Shown-as}
use Rattle.cover_isop.proofs.morreale.MorrealeOperator.resume.Goals as goal

pub returns-in-First-clause-next : goal.returns-in-First-clause-next
returns-in-First-clause-next g c = λ root child due q is.
    let w = g.G.Grow.view c.args.store.now in let t = c.args.frame.task in let x = c.args.frame.var in let a = rw c.in-First.is at q.wait in
    record {
      waits = record { same = q.same; splits = q.splits; wait = (a.1, Shown-as g.W.Wanted.family w (low_at w t x) child c.args.answer a.0.is is) };
      due = a.1.due;
      less = Isop-less-as w t root c.in-First.later q.same a.1.less;
    }

pub third_call-requires-clause-due : goal.third_call-requires-clause-due
third_call-requires-clause-due g c =
    let p = c.requires.waits in Isop-due-as (g.W.Wanted.lower c.args.self.now.0) (g.W.Wanted.upper c.args.self.now.0) _ c.args.frame.task p.0.0 p.1.waits.same p.1.due

pub third_call-requires-clause-split : goal.third_call-requires-clause-split
third_call-requires-clause-split g c = c.requires.waits.1.waits.splits

pub third_call-requires-clause-low : goal.third_call-requires-clause-low
third_call-requires-clause-low g c = let a = rw c.in-Second.is at c.requires.waits.1.waits.wait in a.1

pub third_call-requires-clause-high : goal.third_call-requires-clause-high
third_call-requires-clause-high g c =
    let w = g.G.Grow.view c.args.store.now in let p = c.requires.waits in let a = rw c.in-Second.is at p.1.waits.wait in
    Shown-as g.W.Wanted.family w (high_at w c.args.frame.task c.args.frame.var) p.0.1 c.args.answer a.0.is p.1.answers

pub third_call-requires-clause-room : goal.third_call-requires-clause-room
third_call-requires-clause-room g c = c.requires.room

pub returns-in_ok-child-in-Second-clause-moved : goal.returns-in_ok-child-in-Second-clause-moved
returns-in_ok-child-in-Second-clause-moved g c = let e = c.in_ok-child-in-Second.ensures in record { moves = e.does.moved; marks = e.scratch.marks }

pub returns-in_ok-child-in-Second-clause-next : goal.returns-in_ok-child-in-Second-clause-next
returns-in_ok-child-in-Second-clause-next g c = λ root child due q is.
    let l = g.W.Wanted.lower c.args.self.now.0 in let u = g.W.Wanted.upper c.args.self.now.0 in let v = g.G.Grow.view c.third_call.new.store in
    let t = c.args.frame.task in let x = c.args.frame.var in let e = c.in_ok-child-in-Second.ensures.does in let m = e.moved.grown in
    let before = rw c.in-Second.is at q.wait in
    let now = MorrealeWaits-stay g.W.Wanted.family l u _ v root c.args.frame child m due q in let a = rw c.in-Second.is at now.wait in
    record {
      waits = record {
        same = now.same;
        splits = now.splits;
        wait = (e.answer, a.1, Shown-as g.W.Wanted.family v (high_at v t x) child c.args.answer a.0.is (MorrealeAnswers-stay g.W.Wanted.family _ v child c.args.answer m before.0.due.bounds.two is));
      };
      due = e.answer.due;
      less = Isop-less-as v t root c.in_ok-child-in-Second.child q.same e.answer.less;
    }

pub returns-in_err-child-in-Second-clause-moved : goal.returns-in_err-child-in-Second-clause-moved
returns-in_err-child-in-Second-clause-moved g c = let e = c.in_err-child-in-Second.ensures in record { moves = e.does.moved; marks = e.scratch.marks }

pub returns-in_err-child-in-Second-clause-due : goal.returns-in_err-child-in-Second-clause-due
returns-in_err-child-in-Second-clause-due g c =
    let e = c.in_err-child-in-Second.ensures.does in let q = err_from_is_err_and c.from_residual.result c.from_residual.ensures.1 in rw (q.1, q.2) (λ is. e.due (full_stop _ is))

pub finish-requires-clause-answered : goal.finish-requires-clause-answered
finish-requires-clause-answered g c =
    let w = g.G.Grow.view c.args.store.now in let p = c.requires.waits in let t = c.args.frame.task in let x = c.args.frame.var in let a = rw c.in-Third.is at p.1.waits.wait in
    record {
      due = Isop-due-as (g.W.Wanted.lower c.args.self.now.0) (g.W.Wanted.upper c.args.self.now.0) w t p.0.0 p.1.waits.same p.1.due;
      splits = p.1.waits.splits;
      low_is = a.1;
      high_is = a.2;
      both_is = Shown-as g.W.Wanted.family w (both_at w t x) p.0.1 c.args.answer a.0.is p.1.answers;
    }

pub finish-requires-clause-room : goal.finish-requires-clause-room
finish-requires-clause-room g c = c.requires.room

pub returns-in_ok-edge-in-Third-clause-moved : goal.returns-in_ok-edge-in-Third-clause-moved
returns-in_ok-edge-in-Third-clause-moved g c = let e = c.in_ok-edge-in-Third.ensures in record { moves = e.does.moved; marks = e.scratch.marks }

pub returns-in_ok-edge-in-Third-clause-next : goal.returns-in_ok-edge-in-Third-clause-next
returns-in_ok-edge-in-Third-clause-next g c = λ root child due q is.
    subst (λ t. MorrealeAnswers g.W.Wanted.family (g.G.Grow.view c.finish.new.store) t c.in_ok-edge-in-Third.edge) q.same c.in_ok-edge-in-Third.ensures.does.answer

pub returns-in_err-edge-in-Third-clause-moved : goal.returns-in_err-edge-in-Third-clause-moved
returns-in_err-edge-in-Third-clause-moved g c = let e = c.in_err-edge-in-Third.ensures in record { moves = e.does.moved; marks = e.scratch.marks }

pub returns-in_err-edge-in-Third-clause-due : goal.returns-in_err-edge-in-Third-clause-due
returns-in_err-edge-in-Third-clause-due g c =
    let e = c.in_err-edge-in-Third.ensures.does in let q = err_from_is_err_and c.from_residual-in_err-edge-in-Third.result c.from_residual-in_err-edge-in-Third.ensures.1 in rw (q.1, q.2) (λ is. e.due (full_stop _ is))
