use Rattle.std.proofs.Common.{rules, SFits, w64, sym}
use Rattle.std.proofs.lemmas.Int.{to_z-of_z}
use Rattle.node_store.specs.ViewLaws.{Is-grown, Kept-trans}
use Rattle.node_store.specs.WorkLaws.{Moves-kept}
use Rattle.add_ops.proofs.ConversionLaws.{One-branches, One-leaf}
use Rattle.add_ops.proofs.conversion.OneOperandApply.expand.Goals as goal

pub returns-in-Leaf-clause-expanded : goal.returns-in-Leaf-clause-expanded
returns-in-Leaf-clause-expanded g c =
    let o = g.C.Conversion in let e = c.in-Leaf.ensures in
    let fx : SFits w64 c.in-Leaf.number = search rules in
    One-leaf o.source o.target (o.op c.args.self.now.op) _ _ c.args.task c.in-Leaf.number _ c.at_leaf.result e.kept.grown c.requires.edge (e.opens o.source c.requires.edge) (sym (to_z-of_z w64 c.in-Leaf.number fx))
    (c.at_leaf.ensures _ e.permanent c.args.task.f _)

pub known-requires : goal.known-requires
known-requires g c = Is-grown g.C.Conversion.source c.in-Inner.ensures.kept.grown c.requires.edge

pub returns-in-Some-clause-moved : goal.returns-in-Some-clause-moved
returns-in-Some-clause-moved g c = Moves-kept _ _ _ _ (Kept-trans c.in-Inner.ensures.kept c.in-Some.ensures.kept)

pub returns-in-None-clause-moved : goal.returns-in-None-clause-moved
returns-in-None-clause-moved g c = Moves-kept _ _ _ _ (Kept-trans c.in-Inner.ensures.kept c.in-None.ensures.kept)

pub returns-in-None-clause-expanded : goal.returns-in-None-clause-expanded
returns-in-None-clause-expanded g c =
    let o = g.C.Conversion in let m = g.met.C.Conversion in let s = c.args.self.now in let e = c.in-Inner.ensures in
    One-branches o.source o.target m.from_variables m.on_variables (o.op s.op) s.f _ _ _ c.args.task c.two.result c.two-in-None.result c.in-Inner.var c.in-Inner.hi c.in-Inner.lo c.requires e.kept.grown
    (e.opens o.source c.requires.edge) c.in-None.ensures.kept.grown c.two.ensures.f c.two-in-None.ensures.f
