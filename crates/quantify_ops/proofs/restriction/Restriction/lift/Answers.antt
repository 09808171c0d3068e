use Rattle.std.proofs.Common.{arith, subst, sym}
use Rattle.std.proofs.lemmas.Result.{err_from_is_err_and}
use Rattle.edge_bits.specs.declared.edges.Kind.TheVariants.{Bdd}
use Rattle.node_store.specs.ViewLaws.{Grown-trans, Is-from, Is-grown, Kept-trans, Permanent-grown, level-grown, top-grown, values_at-grown}
use Rattle.node_store.specs.TwoLaws.{AreTwo-grown}
use Rattle.node_store.specs.Views.{View, AreTwo, Grown, IsInner, bdd_at}
use Rattle.node_store.proofs.Frames.{other_err}
use Rattle.node_store.proofs.Running.{Serves-memory}
use Rattle.quantify_ops.specs.Restricted.{IsCondition}
use Rattle.quantify_ops.specs.RestrictedLasts.{IsCondition-grown}
use Rattle.quantify_ops.proofs.LiftLaws.{IsInner-grown, Restrict-both, Restrict-kept, step_due, step_lifted, step_moved}
use Rattle.quantify_ops.proofs.restriction.Restriction.lift.Goals as goal
use Rattle.quantify_ops.proofs.restriction.Restriction.lift.Goals.{In-Inner}
use Rattle.quantify_ops.proofs.restriction.Restriction.lift.Given as given

pub returns-in_default-clause-lifted : goal.returns-in_default-clause-lifted
returns-in_default-clause-lifted g c =
    let e = c.in_default.ensures in let here = (e.opens Bdd c.requires.condition.edge).here in let vars = e.kept.grown.vars in let within = c.requires.within in omega arith

-- the opened condition, after its level is read
module _ (g : given.Over) (c : In-Inner g) where
  inner : IsInner Bdd (g.G.Grow.view c.open.new.self) c.args.condition (bdd_at (g.G.Grow.view c.open.new.self) c.args.condition) c.in-Inner.var c.in-Inner.hi c.in-Inner.lo
  inner = subst (λ h. IsInner Bdd (g.G.Grow.view c.open.new.self) c.args.condition h c.in-Inner.var c.in-Inner.hi c.in-Inner.lo) (sym (values_at-grown Bdd c.in-Inner.ensures.kept.grown c.requires.condition.edge))
      (c.in-Inner.ensures.opens Bdd c.requires.condition.edge)

  module _ (w : View) (m : Grown (g.G.Grow.view c.open.new.self) w) where
    before : Grown (g.G.Grow.view c.args.store.now) w
    before = Grown-trans c.in-Inner.ensures.kept.grown m

    inner_at : IsInner Bdd w c.args.condition (bdd_at w c.args.condition) c.in-Inner.var c.in-Inner.hi c.in-Inner.lo
    inner_at = IsInner-grown _ w c.args.condition c.in-Inner.hi c.in-Inner.lo c.in-Inner.var m (Is-grown Bdd c.in-Inner.ensures.kept.grown c.requires.condition.edge) inner

    condition_at : IsCondition c.args.self.now.c w c.args.condition
    condition_at = IsCondition-grown c.args.self.now.c _ w c.args.condition before c.requires.roots.second c.requires.condition

    roots_at : AreTwo Bdd w c.args.self.now.f c.args.self.now.c
    roots_at = AreTwo-grown Bdd before c.requires.roots

pub level-requires : goal.level-requires
level-requires g c = (Bdd, (inner g (goal.at.level-requires g c).In-Inner).in_range)

pub returns-then-level-clause-lifted : goal.returns-then-level-clause-lifted
returns-then-level-clause-lifted g c =
    let i = inner g (goal.at.returns-then-level-clause-lifted g c).In-Inner in let here = i.here in
    let top = top-grown Bdd (Grown-trans c.in-Inner.ensures.kept.grown c.level.ensures.kept.grown) c.requires.condition.edge in
    let top0 = top-grown Bdd c.in-Inner.ensures.kept.grown c.requires.condition.edge in
    let test = c.if-level.true in let is = c.level.ensures.level in omega arith

pub or-requires-clause-operands : goal.or-requires-clause-operands
or-requires-clause-operands g c =
    let s = (inner_at g (goal.at.or-requires-clause-operands g c).In-Inner _ c.level.ensures.kept.grown).splits in record { first = s.hi_is; second = s.lo_is }

pub or-requires-clause-permanent : goal.or-requires-clause-permanent
or-requires-clause-permanent g c = Permanent-grown (Grown-trans c.in-Inner.ensures.kept.grown c.level.ensures.kept.grown) c.requires.permanent

pub returns-in_err-lifted-clause-moved : goal.returns-in_err-lifted-clause-moved
returns-in_err-lifted-clause-moved g c =
    let o = c.args.self.now in let k = c.level.ensures.kept in let e = c.in_err-lifted.ensures in let at = (goal.at.returns-in_err-lifted-clause-moved g c).In-Inner in
    Restrict-both o.f o.c _ _ _ (Restrict-kept o.f o.c _ _ (Kept-trans c.in-Inner.ensures.kept k))
    (step_moved o.f o.c _ _ c.args.condition c.in-Inner.hi c.in-Inner.lo c.in-Inner.var (roots_at g at _ k.grown) (condition_at g at _ k.grown) (inner_at g at _ k.grown) e.runs.grown e.runs.work)

pub returns-in_err-lifted-clause-due : goal.returns-in_err-lifted-clause-due
returns-in_err-lifted-clause-due g c =
    let o = c.args.self.now in let k = c.level.ensures.kept in let e = c.in_err-lifted.ensures in let at = (goal.at.returns-in_err-lifted-clause-due g c).In-Inner in
    let q = err_from_is_err_and c.from_residual.result c.from_residual.ensures.1 in rw (q.1, q.2) (λ is.
    step_due o.f o.c _ _ c.args.condition c.in-Inner.hi c.in-Inner.lo c.in-Inner.var (roots_at g at _ k.grown) (condition_at g at _ k.grown) (inner_at g at _ k.grown) e.runs.grown _ (e.runs.due (other_err _ _ is)))

pub returns-in_err-lifted-clause-memory : goal.returns-in_err-lifted-clause-memory
returns-in_err-lifted-clause-memory g c =
    let q = err_from_is_err_and c.from_residual.result c.from_residual.ensures.1 in rw (q.1, q.2) (λ is.
    c.in-Inner.ensures.kept.grown.wants (c.level.ensures.kept.grown.wants (Serves-memory _ c.in_err-lifted.ensures.runs (other_err _ _ is))))

pub returns-in_err-lifted-clause-full : goal.returns-in_err-lifted-clause-full
returns-in_err-lifted-clause-full g c =
    let q = err_from_is_err_and c.from_residual.result c.from_residual.ensures.1 in rw (q.1, q.2) (λ is few.
    (let a = c.in_err-lifted.ensures.runs.full (other_err _ _ is) few in let k = c.level.ensures.kept.fulls in let m = c.in-Inner.ensures.kept.fulls in omega arith))

pub returns-clause-moved : goal.returns-clause-moved
returns-clause-moved g c =
    let o = c.args.self.now in let k = c.level.ensures.kept in let e = c.in_ok-lifted.ensures in let at = (goal.at.returns-clause-moved g c).In-Inner in
    Restrict-both o.f o.c _ _ _ (Restrict-kept o.f o.c _ _ (Kept-trans c.in-Inner.ensures.kept k)) (Restrict-both o.f o.c _ _ _
    (step_moved o.f o.c _ _ c.args.condition c.in-Inner.hi c.in-Inner.lo c.in-Inner.var (roots_at g at _ k.grown) (condition_at g at _ k.grown) (inner_at g at _ k.grown) e.runs.grown e.runs.work)
    (Restrict-kept o.f o.c _ _ c.open-top.ensures.kept))

pub returns-clause-lifted : goal.returns-clause-lifted
returns-clause-lifted g c =
    let o = c.args.self.now in let k = c.level.ensures.kept in let e = c.in_ok-lifted.ensures in let n = c.open-top.ensures in let at = (goal.at.returns-clause-lifted g c).In-Inner in
    step_lifted o.f o.c _ _ c.args.condition c.in-Inner.hi c.in-Inner.lo c.in-Inner.var (roots_at g at _ k.grown) (condition_at g at _ k.grown) (inner_at g at _ k.grown) e.runs.grown c.in_ok-lifted.lifted e.runs.answer
    _ n.kept.grown c.open-top.result c.args.level (n.opens Bdd (Is-from Bdd e.runs.answer))
    (let test = c.if-level.false in let is = c.level.ensures.level in let same = level-grown k.grown c.in-Inner.var in omega arith)

pub returns-in_default-clause-moved : goal.returns-in_default-clause-moved
returns-in_default-clause-moved g c = Restrict-kept c.args.self.now.f c.args.self.now.c _ _ c.in_default.ensures.kept

pub returns-then-level-clause-moved : goal.returns-then-level-clause-moved
returns-then-level-clause-moved g c = Restrict-kept c.args.self.now.f c.args.self.now.c _ _ (Kept-trans c.in-Inner.ensures.kept c.level.ensures.kept)
