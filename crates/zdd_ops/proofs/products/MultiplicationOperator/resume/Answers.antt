use Rattle.std.proofs.Common.{true, false, refl, ap, subst}
use Rattle.node_store.specs.WorkLaws.{Moves-kept}
use Rattle.zdd_ops.specs.Products.{ProductAnswers, product_work}
use Rattle.zdd_ops.specs.ProductLasts.{ProductAnswers-stay, ProductWaits-stay}
use Rattle.zdd_ops.proofs.ProductSteps.{Answer-is, Due-as, Less-as, Two-as}
use Rattle.zdd_ops.proofs.products.MultiplicationOperator.resume.Goals as goal

pub returns-in-First-clause-next : goal.returns-in-First-clause-next
returns-in-First-clause-next g c = λ root child due q is.
    let o = c.args.self.now in let t = c.args.frame.task in let v = c.args.frame.var in let a = rw c.in-First.is at q.wait in
    record {
      waits = record { same = q.same; splits = q.splits; wait = (a.1, Answer-is o.p o.q _ t v true true child c.args.answer a.0 is) };
      due = a.1.due;
      less = Less-as (g.G.Grow.view c.args.store.now) t root c.in-First.later q.same a.1.less;
    }

pub without_first-child-requires-clause-two : goal.without_first-child-requires-clause-two
without_first-child-requires-clause-two g c = let p = c.requires.waits in Two-as p.1.waits.same p.1.due.two

pub without_first-child-requires-clause-top : goal.without_first-child-requires-clause-top
without_first-child-requires-clause-top g c = c.requires.waits.1.waits.splits.top

pub returns-in-Second-clause-moved : goal.returns-in-Second-clause-moved
returns-in-Second-clause-moved g c =
    record { moves = Moves-kept _ (product_work c.args.self.now.p c.args.self.now.q) _ _ c.without_first-child.ensures.kept; known = refl; marks = refl }

pub returns-in-Second-clause-next : goal.returns-in-Second-clause-next
returns-in-Second-clause-next g c = λ root child due q is.
    let o = c.args.self.now in let t = c.args.frame.task in let v = c.args.frame.var in
    let m = c.without_first-child.ensures.kept.grown in let before = rw c.in-Second.is at q.wait in
    let now = ProductWaits-stay o.p o.q _ _ root c.args.frame child m due q in let a = rw c.in-Second.is at now.wait in
    let next = c.without_first-child.ensures.part o.p o.q (Due-as q.same due) in
    record {
      waits = record {
        same = now.same;
        splits = now.splits;
        wait = (next, a.1, Answer-is o.p o.q _ t v true false child c.args.answer a.0 (ProductAnswers-stay _ _ child c.args.answer m before.0.due.two is));
      };
      due = next.due;
      less = Less-as (g.G.Grow.view c.without_first-child.new.store) t root c.without_first-child.result q.same next.less;
    }

pub without_first-child-requires-in-Third-clause-two : goal.without_first-child-requires-in-Third-clause-two
without_first-child-requires-in-Third-clause-two g c = let p = c.requires.waits in Two-as p.1.waits.same p.1.due.two

pub without_first-child-requires-in-Third-clause-top : goal.without_first-child-requires-in-Third-clause-top
without_first-child-requires-in-Third-clause-top g c = c.requires.waits.1.waits.splits.top

pub returns-in-Third-clause-moved : goal.returns-in-Third-clause-moved
returns-in-Third-clause-moved g c =
    record { moves = Moves-kept _ (product_work c.args.self.now.p c.args.self.now.q) _ _ c.without_first-child-in-Third.ensures.kept; known = refl; marks = refl }

pub returns-in-Third-clause-next : goal.returns-in-Third-clause-next
returns-in-Third-clause-next g c = λ root child due q is.
    let o = c.args.self.now in let t = c.args.frame.task in let v = c.args.frame.var in
    let m = c.without_first-child-in-Third.ensures.kept.grown in let before = rw c.in-Third.is at q.wait in
    let now = ProductWaits-stay o.p o.q _ _ root c.args.frame child m due q in let a = rw c.in-Third.is at now.wait in
    let next = c.without_first-child-in-Third.ensures.part o.p o.q (Due-as q.same due) in
    record {
      waits = record {
        same = now.same;
        splits = now.splits;
        wait = (next, a.1, a.2, Answer-is o.p o.q _ t v false true child c.args.answer a.0 (ProductAnswers-stay _ _ child c.args.answer m before.0.due.two is));
      };
      due = next.due;
      less = Less-as (g.G.Grow.view c.without_first-child-in-Third.new.store) t root c.without_first-child-in-Third.result q.same next.less;
    }

pub join-requires-clause-parts : goal.join-requires-clause-parts
join-requires-clause-parts g c =
    let o = c.args.self.now in let p = c.requires.waits in let a = rw c.in-Fourth.is at p.1.waits.wait in
    record {
      due = Due-as p.1.waits.same p.1.due;
      splits = p.1.waits.splits;
      then_then = a.1;
      then_else = a.2;
      else_then = a.3;
      else_else = Answer-is o.p o.q _ c.args.frame.task c.args.frame.var false false p.0.1 c.args.answer a.0 p.1.answers;
    }

pub returns-in_ok-edge-in-Fourth-clause-moved : goal.returns-in_ok-edge-in-Fourth-clause-moved
returns-in_ok-edge-in-Fourth-clause-moved g c =
    let e = c.in_ok-edge-in-Fourth.ensures in record { moves = e.moved; known = ap (λ s. s.answers) e.stack; marks = ap (λ s. s.marks) e.stack }

pub returns-in_ok-edge-in-Fourth-clause-next : goal.returns-in_ok-edge-in-Fourth-clause-next
returns-in_ok-edge-in-Fourth-clause-next g c = λ root child due q is. subst (λ t. ProductAnswers (g.G.Grow.view c.join.new.store) t c.in_ok-edge-in-Fourth.edge) q.same c.in_ok-edge-in-Fourth.ensures.answer

pub returns-in_err-edge-in-Fourth-clause-moved : goal.returns-in_err-edge-in-Fourth-clause-moved
returns-in_err-edge-in-Fourth-clause-moved g c =
    let e = c.in_err-edge-in-Fourth.ensures in record { moves = e.moved; known = ap (λ s. s.answers) e.stack; marks = ap (λ s. s.marks) e.stack }

pub unreachable-requires : goal.unreachable-requires
unreachable-requires g c = rw c.in-Only.is at c.requires.waits.1.waits.wait
