use Rattle.std.proofs.Common.{ap}
use Rattle.node_store.specs.ViewLaws.{Grown-trans, Kept-trans}
use Rattle.node_store.specs.WorkLaws.{Moves-kept}
use Rattle.node_store.specs.Three.{CanSplit}
use Rattle.node_store.specs.ThreeLaws.{AreThree-grown}
use Rattle.node_store.proofs.ThreeParts.{Three-branches}
use Rattle.node_store.proofs.ThreeWork.{Ite-hit}
use Rattle.node_store.proofs.conditional.ThreeOperandsApply.expand.Goals as goal

pub branch-store-requires : goal.branch-store-requires
branch-store-requires g c =
    let k = g.O.IfThenElse.kind in
    let n = c.in-Normal.ensures _ c.requires.permanent c.requires.three in
    (k, record { on_variables = g.met.O.IfThenElse.on_variables; three = AreThree-grown k c.in-None.ensures.kept.grown n.three; inner = n.inner })

pub returns-in-Some-clause-expanded : goal.returns-in-Some-clause-expanded
returns-in-Some-clause-expanded g c =
    let k = g.O.IfThenElse.kind in
    let n = c.in-Normal.ensures _ c.requires.permanent c.requires.three in
    let e = c.in-Some.ensures in let key = c.key_of-key.ensures in
    let holds = c.number.ensures.hit _ _ _ (ap (λ x. x.op) key) e.hit in
    rw c.flip_if.ensures
    (Ite-hit k _ _ c.args.task c.in-Normal.normal c.in-Normal.flip c.key_of-key.result c.in-Some.edge e.kept.grown c.requires.three n (ap (λ x. x.f) key) (ap (λ x. x.g) key) (ap (λ x. x.h) key) holds)

pub returns-in-None-clause-expanded : goal.returns-in-None-clause-expanded
returns-in-None-clause-expanded g c =
    let k = g.O.IfThenElse.kind in let on = g.met.O.IfThenElse.on_variables in let o = c.args.self.now in
    let n = c.in-Normal.ensures _ c.requires.permanent c.requires.three in
    let m = c.in-None.ensures.kept.grown in
    let can : CanSplit k (g.G.Grow.view c.memo_get.new.self) c.in-Normal.normal = record { on_variables = on; three = AreThree-grown k m n.three; inner = n.inner } in
    Three-branches k on o.f o.g o.h _ _ c.args.task c.in-Normal.normal c.in-Normal.flip c.branch-store.result c.requires (Grown-trans m c.branch-store.ensures.kept.grown) n (c.branch-store.ensures.branch k can)

pub returns-in-None-clause-moved : goal.returns-in-None-clause-moved
returns-in-None-clause-moved g c = Moves-kept _ _ _ _ (Kept-trans c.in-None.ensures.kept c.branch-store.ensures.kept)
