use Rattle.std.proofs.Common.{◌≡◌, refl, ap, sym, ◌∙◌, arith}
use Rattle.edge_bits.specs.declared.edges.Kind.TheVariants.{Bdd}
use Rattle.node_store.specs.Views.{View, AreTwo, Grown, IsInner, bdd_at}
use Rattle.node_store.specs.ViewLaws.{Grown-refl, Grown-trans, IsVariable-grown, Kept-trans, Is-grown, level-grown}
use Rattle.node_store.specs.Work.{Moves}
use Rattle.node_store.proofs.ThreeParts.{bdd_leaf_index}
use Rattle.ite_core.proofs.CofactorLaws.{regular_is}
use Rattle.node_store.specs.declared.operator.Task.{Task}
use Rattle.quantify_ops.specs.Restricted.{LeadsLevel, RestrictDue, work_of_restrict}
use Rattle.quantify_ops.specs.RestrictedLasts.{RestrictDue-stays, operands}
use Rattle.quantify_ops.proofs.LiftLaws.{Restrict-both, Restrict-kept}
use Rattle.quantify_ops.proofs.RestrictLaws.{IsKey-restrict, leaf_answer, restrict_hit, start_branch, start_due, start_leads, start_lifts}
use Rattle.quantify_ops.proofs.restriction.RestrictionOperator.start.Goals as goal
use Rattle.quantify_ops.proofs.restriction.RestrictionOperator.start.Goals.{After-level-level, After-lift, In-Inner}
use Rattle.quantify_ops.proofs.restriction.RestrictionOperator.start.Given as given

pub open-requires : goal.open-requires
open-requires g c = (Bdd, regular_is _ c.args.task.f c.regular-f.result c.regular-f.ensures c.requires.due.edge)

pub returns-in_default-clause-next : goal.returns-in_default-clause-next
returns-in_default-clause-next g c =
    let o = c.args.self.now in let d = c.requires.due in let e = c.in_default.ensures in let m = e.kept.grown in
    let leaf = e.opens Bdd (regular_is _ c.args.task.f c.regular-f.result c.regular-f.ensures d.edge) in
    leaf_answer _ e.permanent c.args.task (sym (ap (λ r. r.index) c.regular-f.ensures) ∙ bdd_leaf_index c.regular-f.result _ _ leaf.leaf) (Is-grown Bdd m d.edge) (RestrictDue-stays o.f o.c _ _ c.args.task m d).condition.somewhere

-- the task of the regular function, from there on
module _ (g : given.Over) (c : In-Inner g) (w : View) (m : Grown (g.G.Grow.view c.open.new.self) w) (t : Task) (tf : t.f ≡ c.regular-f.result) (tg : t.g ≡ c.args.task.g) where
  inner : IsInner Bdd (g.G.Grow.view c.open.new.self) c.regular-f.result (bdd_at (g.G.Grow.view c.args.store.now) c.regular-f.result) c.in-Inner.var c.in-Inner.hi c.in-Inner.lo
  inner = c.in-Inner.ensures.opens Bdd (regular_is _ c.args.task.f c.regular-f.result c.regular-f.ensures c.requires.due.edge)

  leads : LeadsLevel w c.args.task c.complement-flip.result t
  leads = rw c.complement-flip.ensures (start_leads c.args.self.now.f c.args.self.now.c _ _ w c.args.task t c.regular-f.result c.in-Inner.hi c.in-Inner.lo c.in-Inner.var c.requires.due c.regular-f.ensures c.in-Inner.ensures.kept.grown inner m tf tg)

  due : RestrictDue c.args.self.now.f c.args.self.now.c w t
  due = start_due c.args.self.now.f c.args.self.now.c _ _ w c.args.task t c.regular-f.result c.in-Inner.hi c.in-Inner.lo c.in-Inner.var c.requires.due c.regular-f.ensures c.in-Inner.ensures.kept.grown inner m tf tg

pub returns-in-Some-clause-next : goal.returns-in-Some-clause-next
returns-in-Some-clause-next g c =
    let o = c.args.self.now in let at = (goal.at.returns-in-Some-clause-next g c).In-Inner in
    let t : Task = record { f = c.regular-f.result; g = c.args.task.g; h = c.regular-f.result } in
    let d = due g at _ (Grown-refl _) t refl refl in
    rw c.flip_if.ensures ((leads g at _ (Grown-refl _) t refl refl).leads.gives _ c.in-Some.edge (Grown-refl _)
    (rw c.in-Some.is at (c.known.ensures _ d.permanent (operands o.f o.c _ t d) d.condition.somewhere)))

pub memo_get-requires : goal.memo_get-requires
memo_get-requires g c =
    let o = c.args.self.now in
    let t : Task = record { f = c.regular-f.result; g = c.args.task.g; h = c.regular-f.result } in
    rw c.key_of.ensures (IsKey-restrict _ c.regular-f.result c.args.task.g (operands o.f o.c _ t (due g (goal.at.memo_get-requires g c).In-Inner _ (Grown-refl _) t refl refl)))

pub returns-in-Some-memo_get-clause-moved : goal.returns-in-Some-memo_get-clause-moved
returns-in-Some-memo_get-clause-moved g c =
    let o = c.args.self.now in
    record { moves = Restrict-kept o.f o.c _ _ (Kept-trans c.in-Inner.ensures.kept c.in-Some-memo_get.ensures.kept); known = refl; marks = refl }

pub returns-in-Some-memo_get-clause-next : goal.returns-in-Some-memo_get-clause-next
returns-in-Some-memo_get-clause-next g c =
    let e = c.in-Some-memo_get.ensures in
    let t : Task = record { f = c.regular-f.result; g = c.args.task.g; h = c.regular-f.result } in
    let l = leads g (goal.at.returns-in-Some-memo_get-clause-next g c).In-Inner _ e.kept.grown t refl refl in
    rw c.flip_if-in-Some-memo_get.ensures (l.leads.gives _ c.in-Some-memo_get.edge (Grown-refl _) (restrict_hit _ t c.in-Some-memo_get.edge (rw c.key_of.ensures at e.hit)))

-- not known and not kept: the step
module _ (g : given.Over) (c : After-level-level g) where
  before_lift : Grown (g.G.Grow.view c.open.new.self) (g.G.Grow.view c.level-level.new.self)
  before_lift = Grown-trans c.memo_get.ensures.kept.grown c.level-level.ensures.kept.grown

  due_before : RestrictDue c.args.self.now.f c.args.self.now.c (g.G.Grow.view c.level-level.new.self) c.args.task
  due_before = RestrictDue-stays c.args.self.now.f c.args.self.now.c _ _ c.args.task (Grown-trans c.in-Inner.ensures.kept.grown before_lift) c.requires.due

pub level-level-requires : goal.level-level-requires
level-level-requires g c = (
  Bdd,
  IsVariable-grown Bdd c.memo_get.ensures.kept.grown c.in-Inner.var (c.in-Inner.ensures.opens Bdd (regular_is _ c.args.task.f c.regular-f.result c.regular-f.ensures c.requires.due.edge)).in_range,
)

pub lift-requires-clause-permanent : goal.lift-requires-clause-permanent
lift-requires-clause-permanent g c = (due_before g (goal.at.lift-requires-clause-permanent g c).After-level-level).permanent

pub lift-requires-clause-roots : goal.lift-requires-clause-roots
lift-requires-clause-roots g c = (due_before g (goal.at.lift-requires-clause-roots g c).After-level-level).roots

pub lift-requires-clause-condition : goal.lift-requires-clause-condition
lift-requires-clause-condition g c = (due_before g (goal.at.lift-requires-clause-condition g c).After-level-level).condition

pub lift-requires-clause-within : goal.lift-requires-clause-within
lift-requires-clause-within g c =
    let within = (c.in-Inner.ensures.opens Bdd (regular_is _ c.args.task.f c.regular-f.result c.regular-f.ensures c.requires.due.edge)).within in
    let is = c.level-level.ensures.level in let same = level-grown c.memo_get.ensures.kept.grown c.in-Inner.var in
    let vars = c.memo_get.ensures.kept.grown.vars in let vars2 = c.level-level.ensures.kept.grown.vars in omega arith

moved : (g : given.Over) (c : After-lift g) → Moves (λ w. AreTwo Bdd w c.args.self.now.f c.args.self.now.c) (work_of_restrict c.args.self.now.f c.args.self.now.c) (g.G.Grow.view c.args.store.now) (g.G.Grow.view c.lift.new.store)
moved g c =
    let o = c.args.self.now in
    Restrict-both o.f o.c _ _ _ (Restrict-kept o.f o.c _ _ (Kept-trans c.in-Inner.ensures.kept (Kept-trans c.memo_get.ensures.kept c.level-level.ensures.kept))) c.lift.ensures.moved

pub returns-in_err-condition-clause-moved : goal.returns-in_err-condition-clause-moved
returns-in_err-condition-clause-moved g c =
    record { moves = moved g (goal.at.returns-in_err-condition-clause-moved g c).After-lift; known = ap (λ s. s.answers) c.lift.ensures.stack; marks = ap (λ s. s.marks) c.lift.ensures.stack }

pub branch-frame-requires : goal.branch-frame-requires
branch-frame-requires g c =
    let at = goal.at.branch-frame-requires g c in let t = c.two-regular in
    let m = Grown-trans (before_lift g at.After-level-level) c.lift.ensures.moved.grown in
    let here = c.in-Inner.ensures.opens Bdd (regular_is _ c.args.task.f c.regular-f.result c.regular-f.ensures c.requires.due.edge) in
    let above = rw c.in_default-2.is at c.in_ok-condition.ensures.lifted in
    let is = c.level-level.ensures.level ∙ sym (level-grown (Grown-trans c.level-level.ensures.kept.grown c.lift.ensures.moved.grown) c.in-Inner.var) in
    start_branch c.args.self.now.f c.args.self.now.c _ _ _ c.args.task t.result c.regular-f.result c.in-Inner.hi c.in-Inner.lo c.in-Inner.var c.requires.due c.regular-f.ensures c.in-Inner.ensures.kept.grown here m
    t.ensures.f t.ensures.g (rw t.ensures.g (omega (arith, is, above)))

pub returns-in_default-2-clause-moved : goal.returns-in_default-2-clause-moved
returns-in_default-2-clause-moved g c =
    let o = c.args.self.now in
    record {
      moves = Restrict-both o.f o.c _ _ _ (moved g (goal.at.returns-in_default-2-clause-moved g c).After-lift) (Restrict-kept o.f o.c _ _ c.branch-frame.ensures.kept);
      known = ap (λ s. s.answers) c.lift.ensures.stack;
      marks = ap (λ s. s.marks) c.lift.ensures.stack;
    }

pub returns-in_default-2-clause-next : goal.returns-in_default-2-clause-next
returns-in_default-2-clause-next g c =
    let at = goal.at.returns-in_default-2-clause-next g c in let t = c.two-regular in
    let a = c.branch-frame.ensures.asks c.args.task (leads g at.In-Inner _ (Grown-trans (before_lift g at.After-level-level) c.lift.ensures.moved.grown) t.result t.ensures.f t.ensures.g) in
    record { waits = a.waits; due = a.due; less = a.less }

pub returns-clause-moved : goal.returns-clause-moved
returns-clause-moved g c =
    record { moves = moved g (goal.at.returns-clause-moved g c).After-lift; known = ap (λ s. s.answers) c.lift.ensures.stack; marks = ap (λ s. s.marks) c.lift.ensures.stack }

pub returns-clause-next : goal.returns-clause-next
returns-clause-next g c =
    let at = goal.at.returns-clause-next g c in let t = c.two-regular in let b = c.two in
    let m = Grown-trans (before_lift g at.After-level-level) c.lift.ensures.moved.grown in
    let here = c.in-Inner.ensures.opens Bdd (regular_is _ c.args.task.f c.regular-f.result c.regular-f.ensures c.requires.due.edge) in
    let lifted = rw c.in-Some-2.is at c.in_ok-condition.ensures.lifted in
    let is = c.level-level.ensures.level ∙ sym (level-grown (Grown-trans c.level-level.ensures.kept.grown c.lift.ensures.moved.grown) c.in-Inner.var) in
    let a = start_lifts c.args.self.now.f c.args.self.now.c _ _ _ c.args.task t.result c.regular-f.result c.in-Inner.hi c.in-Inner.lo c.in-Inner.var c.requires.due c.regular-f.ensures c.in-Inner.ensures.kept.grown here m
    t.ensures.f t.ensures.g b.result c.in-Some-2.condition c.level-level.result c.in-Inner.var (b.ensures.f ∙ sym t.ensures.f) b.ensures.g is (rw t.ensures.g lifted) in
    rw c.complement-flip.ensures (record { waits = a.waits; due = a.due; less = a.less })

pub returns-in_default-clause-moved : goal.returns-in_default-clause-moved
returns-in_default-clause-moved g c = record { moves = Restrict-kept c.args.self.now.f c.args.self.now.c _ _ c.in_default.ensures.kept; known = refl; marks = refl }

pub returns-in-Some-clause-moved : goal.returns-in-Some-clause-moved
returns-in-Some-clause-moved g c = record { moves = Restrict-kept c.args.self.now.f c.args.self.now.c _ _ c.in-Inner.ensures.kept; known = refl; marks = refl }
