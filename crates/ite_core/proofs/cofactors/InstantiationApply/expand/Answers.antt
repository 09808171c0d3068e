use Rattle.std.proofs.Common.{refl}
use Rattle.edge_bits.specs.declared.edges.Kind.TheVariants.{Bdd}
use Rattle.node_store.specs.ViewLaws.{Grown-trans, Kept-trans, Denotes-grown, Is-grown}
use Rattle.node_store.specs.WorkLaws.{Moves-kept}
use Rattle.ite_core.proofs.CofactorLaws.{regular_is, regular_answer, IsKey-literal, Cofactor-hit, Cofactor-branches}
use Rattle.ite_core.proofs.cofactors.InstantiationApply.expand.Goals as goal

pub find-requires : goal.find-requires
find-requires g c = record { edge = regular_is _ c.args.task.f _ c.regular-f.ensures c.requires.edge; in_range = c.requires.root.in_range }

pub returns-in-Answer-clause-expanded : goal.returns-in-Answer-clause-expanded
returns-in-Answer-clause-expanded g c =
    let o = c.args.self.now in let e = c.in-Answer.ensures in
    rw (c.flip_if.ensures, c.complement-flip.ensures) (regular_answer _ c.args.task.f c.regular-f.result c.in-Answer.edge o.var o.bit c.regular-f.ensures (Is-grown Bdd e.kept.grown c.requires.edge) e.found)

pub memo_get-requires : goal.memo_get-requires
memo_get-requires g c =
    let o = c.args.self.now in let e = c.in-Parts.ensures in let m = e.kept.grown in
    rw c.key_of-key.ensures (IsKey-literal _ c.regular-f.result o.literal o.var o.bit (Denotes-grown Bdd m c.requires.literal)
    (regular_is _ c.args.task.f _ c.regular-f.ensures (Is-grown Bdd m c.requires.edge)))

pub returns-in-Some-clause-moved : goal.returns-in-Some-clause-moved
returns-in-Some-clause-moved g c = Moves-kept _ _ _ _ (Kept-trans c.in-Parts.ensures.kept c.in-Some.ensures.kept)

pub returns-in-Some-clause-expanded : goal.returns-in-Some-clause-expanded
returns-in-Some-clause-expanded g c =
    let o = c.args.self.now in let e = c.in-Some.ensures in let m = Grown-trans c.in-Parts.ensures.kept.grown e.kept.grown in
    let holds = rw c.key_of-key.ensures at e.hit in
    rw (c.flip_if-in-Some.ensures, c.complement-flip.ensures) (regular_answer _ c.args.task.f c.regular-f.result c.in-Some.edge o.var o.bit c.regular-f.ensures (Is-grown Bdd m c.requires.edge) (Cofactor-hit _ c.regular-f.result o.literal o.var o.bit c.in-Some.edge (Denotes-grown Bdd m c.requires.literal) holds))

pub returns-in-None-clause-moved : goal.returns-in-None-clause-moved
returns-in-None-clause-moved g c = Moves-kept _ _ _ _ (Kept-trans c.in-Parts.ensures.kept c.in-None.ensures.kept)

pub returns-in-None-clause-expanded : goal.returns-in-None-clause-expanded
returns-in-None-clause-expanded g c =
    let o = c.args.self.now in let e = c.in-Parts.ensures in
    Cofactor-branches o.f o.var o.bit o.literal _ _ _ c.args.task c.regular-f.result c.in-Parts.hi c.in-Parts.lo c.in-Parts.var _ c.requires e.kept.grown c.in-None.ensures.kept.grown c.regular-f.ensures e.found
    c.two.ensures.f c.complement-flip.ensures refl c.two-in-None.ensures.f c.two-in-None-2.ensures.f
