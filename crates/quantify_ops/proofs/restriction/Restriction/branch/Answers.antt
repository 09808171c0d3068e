use Rattle.std.proofs.Common.{subst}
use Rattle.edge_bits.specs.declared.edges.Kind.TheVariants.{Bdd}
use Rattle.node_store.specs.Views.{PartsAt, bdd_at}
use Rattle.node_store.specs.ViewLaws.{Grown-trans, Is-grown, values_at-grown, Kept-trans}
use Rattle.quantify_ops.proofs.RestrictLaws.{PartsAt-grown, asks_else, asks_first, asks_then}
use Rattle.quantify_ops.proofs.restriction.Restriction.branch.Goals as goal
use Rattle.quantify_ops.proofs.restriction.Restriction.branch.Goals.{After-parts}
use Rattle.quantify_ops.proofs.restriction.Restriction.branch.Given as given

-- the parts of the condition
parts_at : (g : given.Over) (c : After-parts g) → PartsAt Bdd (g.G.Grow.view c.parts.new.store) c.args.task.g (bdd_at (g.G.Grow.view c.args.store.now) c.args.task.g) c.args.var c.parts.result.0 c.parts.result.1
parts_at g c =
    let i = c.requires.inner in
    subst (λ f. PartsAt Bdd (g.G.Grow.view c.parts.new.store) c.args.task.g f c.args.var c.parts.result.0 c.parts.result.1) (values_at-grown Bdd c.parts.ensures.kept.grown c.requires.due.condition.edge)
    (c.parts.ensures.parts Bdd (record { edge = c.requires.due.condition.edge; in_range = i.in_range; above = c.requires.above; within = i.within }))

pub is_false-requires : goal.is_false-requires
is_false-requires g c = (parts_at g (goal.at.is_false-requires g c).After-parts).splits.hi_is

pub is_false-requires-2 : goal.is_false-requires-2
is_false-requires-2 g c = Is-grown Bdd c.is_false.ensures.kept.grown (parts_at g (goal.at.is_false-requires-2 g c).After-parts).splits.lo_is

pub returns-then-is_false-clause-asks : goal.returns-then-is_false-clause-asks
returns-then-is_false-clause-asks g c = λ root leads.
    let o = c.args.self.now in let a = c.two-then_task in let b = c.two-else_task in let m = c.parts.ensures.kept.grown in let n = c.is_false.ensures.kept.grown in
    asks_else o.f o.c _ _ root c.args.task a.result b.result c.args.var c.args.flip c.args.hi c.args.lo c.parts.result.0 c.parts.result.1 (Grown-trans m n) c.requires
    (PartsAt-grown Bdd n (parts_at g (goal.at.returns-then-is_false-clause-asks g c).After-parts)) a.ensures.f a.ensures.g b.ensures.f b.ensures.g leads
    (rw a.ensures.g (c.is_false.ensures.yes c.if-is_false.true))

pub returns-then-is_false-2-clause-asks : goal.returns-then-is_false-2-clause-asks
returns-then-is_false-2-clause-asks g c = λ root leads.
    let o = c.args.self.now in let a = c.two-then_task in let b = c.two-else_task in let m = c.parts.ensures.kept.grown in
    let n = Grown-trans c.is_false.ensures.kept.grown c.is_false-2.ensures.kept.grown in
    asks_then o.f o.c _ _ root c.args.task a.result b.result c.args.var c.args.flip c.args.hi c.args.lo c.parts.result.0 c.parts.result.1 (Grown-trans m n) c.requires
    (PartsAt-grown Bdd n (parts_at g (goal.at.returns-then-is_false-2-clause-asks g c).After-parts)) a.ensures.f a.ensures.g b.ensures.f b.ensures.g leads
    (rw b.ensures.g (c.is_false-2.ensures.yes c.if-is_false-2.true))

pub returns-clause-asks : goal.returns-clause-asks
returns-clause-asks g c = λ root leads.
    let o = c.args.self.now in let a = c.two-then_task in let b = c.two-else_task in let m = c.parts.ensures.kept.grown in
    let n = Grown-trans c.is_false.ensures.kept.grown c.is_false-2.ensures.kept.grown in
    let parts = parts_at g (goal.at.returns-clause-asks g c).After-parts in
    asks_first o.f o.c _ _ root c.args.task a.result b.result c.args.var c.args.flip c.args.hi c.args.lo c.parts.result.0 c.parts.result.1 (Grown-trans m n) c.requires
    (PartsAt-grown Bdd n parts) a.ensures.f a.ensures.g b.ensures.f b.ensures.g leads
    (rw (a.ensures.g, values_at-grown Bdd c.is_false-2.ensures.kept.grown (Is-grown Bdd c.is_false.ensures.kept.grown parts.splits.hi_is)) (c.is_false.ensures.no c.if-is_false.false))
    (rw b.ensures.g (c.is_false-2.ensures.no c.if-is_false-2.false))

pub returns-then-is_false-clause-kept : goal.returns-then-is_false-clause-kept
returns-then-is_false-clause-kept g c = Kept-trans c.parts.ensures.kept c.is_false.ensures.kept

pub returns-then-is_false-2-clause-kept : goal.returns-then-is_false-2-clause-kept
returns-then-is_false-2-clause-kept g c = Kept-trans c.parts.ensures.kept (Kept-trans c.is_false.ensures.kept c.is_false-2.ensures.kept)

pub returns-clause-kept : goal.returns-clause-kept
returns-clause-kept g c = Kept-trans c.parts.ensures.kept (Kept-trans c.is_false.ensures.kept c.is_false-2.ensures.kept)
