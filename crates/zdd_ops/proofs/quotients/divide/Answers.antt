use Rattle.std.proofs.Common.{refl, subst}
use Rattle.node_store.specs.Views.{PartsAt}
use Rattle.node_store.specs.ViewLaws.{values_at-grown, Kept-trans}
use Rattle.edge_bits.specs.declared.edges.Kind.TheVariants.{Zdd}
use Rattle.zdd_ops.proofs.ProductLaws.{CanPart-grown}
use Rattle.zdd_ops.proofs.QuotientSteps.{Split-has, Split-lacks}
use Rattle.zdd_ops.proofs.quotients.divide.Goals as goal

pub divisor_at-requires : goal.divisor_at-requires
divisor_at-requires g c = CanPart-grown _ _ c.args.task.g c.args.var c.parts-f1.ensures.kept.grown c.requires.g

pub returns-in-Has-clause-split : goal.returns-in-Has-clause-split
returns-in-Has-clause-split g c =
    let a = c.parts-f1.ensures in let can = c.requires in
    Split-has _ _ _ c.args.task c.args.var _ c.parts-f1.result.0 c.parts-f1.result.1 c.in-Has.g1 c.in-Has.g0 can a.kept.grown c.in-Has.ensures.kept.grown (subst (λ h. PartsAt Zdd (g.G.Grow.view c.parts-f1.new.store) c.args.task.f h c.args.var c.parts-f1.result.0 c.parts-f1.result.1) (values_at-grown Zdd a.kept.grown can.f.edge) (a.parts Zdd can.f)) c.in-Has.ensures.divided
    refl refl refl c.two.ensures.f c.two.ensures.g c.two-in-Has.ensures.f c.two-in-Has.ensures.g

pub returns-in-Lacks-clause-split : goal.returns-in-Lacks-clause-split
returns-in-Lacks-clause-split g c =
    let a = c.parts-f1.ensures in let can = c.requires in
    Split-lacks _ _ _ c.args.task c.args.var _ c.parts-f1.result.0 c.parts-f1.result.1 can a.kept.grown c.in-Lacks.ensures.kept.grown (subst (λ h. PartsAt Zdd (g.G.Grow.view c.parts-f1.new.store) c.args.task.f h c.args.var c.parts-f1.result.0 c.parts-f1.result.1) (values_at-grown Zdd a.kept.grown can.f.edge) (a.parts Zdd can.f)) c.in-Lacks.ensures.divided
    refl refl refl c.two-in-Lacks.ensures.f c.two-in-Lacks.ensures.g c.two-in-Lacks-2.ensures.f c.two-in-Lacks-2.ensures.g

pub returns-in-Has-clause-kept : goal.returns-in-Has-clause-kept
returns-in-Has-clause-kept g c = Kept-trans c.parts-f1.ensures.kept c.in-Has.ensures.kept

pub returns-in-Lacks-clause-kept : goal.returns-in-Lacks-clause-kept
returns-in-Lacks-clause-kept g c = Kept-trans c.parts-f1.ensures.kept c.in-Lacks.ensures.kept
