use Rattle.std.proofs.Common.{inr, refl}
use Rattle.std.proofs.lemmas.Result.{err_from_is_err_and}
use Rattle.edge_bits.specs.declared.edges.Kind.TheVariants.{Bdd}
use Rattle.function_laws.specs.Restrictions.{IsRestriction}
use Rattle.node_store.specs.Splits.{Waiting}
use Rattle.node_store.specs.Views.{CanMake, bdd_at, node_values}
use Rattle.node_store.specs.ViewLaws.{Grown-trans}
use Rattle.node_store.proofs.Stops.{full_stop}
use Rattle.node_store.specs.Two.{two_depth}
use Rattle.quantify_ops.specs.Restricted.{RestrictAnswers, RestrictDue, RestrictSplits}
use Rattle.quantify_ops.specs.RestrictedLasts.{RestrictAnswers-stay, RestrictDue-stays, operands}
use Rattle.quantify_ops.proofs.LiftLaws.{Restrict-both, Restrict-kept}
use Rattle.quantify_ops.proofs.RestrictLaws.{both_node, both_value, first_waits, made_answer, made_due, made_moved, made_none, only_answer, only_due, only_leads, second_parts, second_waits}
use Rattle.quantify_ops.proofs.restriction.RestrictionOperator.resume.Goals as goal
use Rattle.quantify_ops.proofs.restriction.RestrictionOperator.resume.Goals.{In-Second}
use Rattle.quantify_ops.proofs.restriction.RestrictionOperator.resume.Given as given

-- one branch alone
pub keep-requires-clause-due : goal.keep-requires-clause-due
keep-requires-clause-due g c =
    let o = c.args.self.now in let p = c.requires.waits in only_due o.f o.c _ p.0.0 c.args.frame p.0.1 c.in-Only.is p.1.waits

pub keep-requires-clause-answer : goal.keep-requires-clause-answer
keep-requires-clause-answer g c =
    let o = c.args.self.now in let p = c.requires.waits in only_answer o.f o.c _ p.0.0 c.args.frame p.0.1 c.args.answer c.in-Only.is p.1.waits p.1.answers

pub returns-in-Only-clause-next : goal.returns-in-Only-clause-next
returns-in-Only-clause-next g c = λ root child due q is.
    let o = c.args.self.now in let m = c.keep.ensures.kept.grown in
    let d = only_due o.f o.c _ root c.args.frame child c.in-Only.is q in
    rw c.keep.ensures.flipped (only_leads o.f o.c _ _ root c.args.frame child c.args.answer c.in-Only.is q m
    (RestrictAnswers-stay _ _ c.args.frame.task c.args.answer m (operands o.f o.c _ c.args.frame.task d) (only_answer o.f o.c _ root c.args.frame child c.args.answer c.in-Only.is q is)))

-- the first of two
pub returns-in-First-clause-next : goal.returns-in-First-clause-next
returns-in-First-clause-next g c = λ root child due q is.
    let o = c.args.self.now in let w = first_waits o.f o.c _ root c.args.frame child c.in-First.later c.in-First.is q in
    let a = rw c.in-First.is at w.wait in
    record {
      waits = inr (record { due = w.due; leads = w.leads; wait = (child, record { splits = a.splits; hi_due = a.hi_due; hi_is = is }) });
      due = a.lo_due;
      less = a.lo_less;
    }

-- the second of two
waiting : (g : given.Over) (c : In-Second g) → Waiting (RestrictDue c.args.self.now.f c.args.self.now.c) RestrictAnswers (λ w t. ⊥) RestrictSplits (two_depth Bdd) (g.G.Grow.view c.args.store.now)
    c.requires.waits.0.0 c.args.frame c.requires.waits.0.1
waiting g c =
    let o = c.args.self.now in let p = c.requires.waits in second_waits o.f o.c _ p.0.0 c.args.frame p.0.1 c.in-Second.hi c.in-Second.is p.1.waits

node : (g : given.Over) (c : In-Second g) → CanMake Bdd (g.G.Grow.view c.args.store.now) c.args.frame.var c.in-Second.hi c.args.answer
node g c =
    let o = c.args.self.now in let p = c.requires.waits in let a = second_parts o.f o.c _ p.0.0 c.args.frame p.0.1 c.in-Second.hi c.in-Second.is p.1.waits in
    both_node o.f o.c _ c.args.frame.task a.0 p.0.1 c.args.frame.var (waiting g c).due a.1.splits.parts c.in-Second.hi c.args.answer a.1.hi_is p.1.answers

value : (g : given.Over) (c : In-Second g) → let now = g.G.Grow.view c.args.store.now in
    IsRestriction (bdd_at now c.args.frame.task.f) (bdd_at now c.args.frame.task.g) (node_values Bdd now c.args.frame.var c.in-Second.hi c.args.answer)
value g c =
    let o = c.args.self.now in let p = c.requires.waits in let a = second_parts o.f o.c _ p.0.0 c.args.frame p.0.1 c.in-Second.hi c.in-Second.is p.1.waits in
    both_value o.f o.c _ c.args.frame.task a.0 p.0.1 c.args.frame.var (waiting g c).due a.1.splits.parts c.in-Second.hi c.args.answer a.1.hi_is p.1.answers a.1.splits.hi_somewhere a.1.splits.lo_somewhere

pub make-requires : goal.make-requires
make-requires g c = (Bdd, node g (goal.at.make-requires g c).In-Second)

pub returns-in_err-edge-in-Second-clause-moved : goal.returns-in_err-edge-in-Second-clause-moved
returns-in_err-edge-in-Second-clause-moved g c =
    let o = c.args.self.now in let e = c.in_err-edge-in-Second.ensures in record { moves = made_none o.f o.c _ _ e.grown e.made; known = refl; marks = refl }

pub returns-in_err-edge-in-Second-clause-due : goal.returns-in_err-edge-in-Second-clause-due
returns-in_err-edge-in-Second-clause-due g c =
    let o = c.args.self.now in let e = c.in_err-edge-in-Second.ensures in let at = (goal.at.returns-in_err-edge-in-Second-clause-due g c).In-Second in
    let q = err_from_is_err_and c.from_residual.result c.from_residual.ensures.1 in rw (q.1, q.2) (λ is.
    made_due o.f o.c _ _ c.args.frame.task _ (waiting g at).due e.grown (value g at) (e.due (full_stop _ is) Bdd (node g at)))

pub keep-requires-in-Second-clause-due : goal.keep-requires-in-Second-clause-due
keep-requires-in-Second-clause-due g c =
    let o = c.args.self.now in RestrictDue-stays o.f o.c _ _ c.args.frame.task c.in_ok-edge-in-Second.ensures.grown (waiting g (goal.at.keep-requires-in-Second-clause-due g c).In-Second).due

pub keep-requires-in-Second-clause-answer : goal.keep-requires-in-Second-clause-answer
keep-requires-in-Second-clause-answer g c =
    let o = c.args.self.now in let e = c.in_ok-edge-in-Second.ensures in let at = (goal.at.keep-requires-in-Second-clause-answer g c).In-Second in
    made_answer o.f o.c _ _ c.args.frame.task _ (waiting g at).due e.grown (value g at) c.in_ok-edge-in-Second.edge (e.ok Bdd (node g at))

pub returns-in_ok-edge-in-Second-clause-moved : goal.returns-in_ok-edge-in-Second-clause-moved
returns-in_ok-edge-in-Second-clause-moved g c =
    let o = c.args.self.now in let e = c.in_ok-edge-in-Second.ensures in let at = (goal.at.returns-in_ok-edge-in-Second-clause-moved g c).In-Second in
    record {
      moves = Restrict-both o.f o.c _ _ _ (made_moved o.f o.c _ _ c.args.frame.task _ (waiting g at).due e.grown (value g at) c.in_ok-edge-in-Second.edge e.made (e.ok Bdd (node g at)))
          (Restrict-kept o.f o.c _ _ c.keep-in-Second.ensures.kept);
      known = refl;
      marks = refl;
    }

pub returns-in_ok-edge-in-Second-clause-next : goal.returns-in_ok-edge-in-Second-clause-next
returns-in_ok-edge-in-Second-clause-next g c = λ root child due q is.
    let o = c.args.self.now in let e = c.in_ok-edge-in-Second.ensures in let k = c.keep-in-Second.ensures in let at = (goal.at.returns-in_ok-edge-in-Second-clause-next g c).In-Second in
    let w = second_waits o.f o.c _ root c.args.frame child c.in-Second.hi c.in-Second.is q in
    let d = RestrictDue-stays o.f o.c _ _ c.args.frame.task e.grown w.due in
    let a = made_answer o.f o.c _ _ c.args.frame.task _ w.due e.grown (value g at) c.in_ok-edge-in-Second.edge (e.ok Bdd (node g at)) in
    rw k.flipped (w.leads.gives _ c.in_ok-edge-in-Second.edge (Grown-trans e.grown k.kept.grown)
    (RestrictAnswers-stay _ _ c.args.frame.task c.in_ok-edge-in-Second.edge k.kept.grown (operands o.f o.c _ c.args.frame.task d) a))
