use Rattle.std.proofs.Common.{Some, ap, ap₂, ◌∙◌, set, arith}
use Rattle.edge_bits.specs.declared.edges.Kind.TheVariants.{Bdd}
use Rattle.node_store.specs.ViewLaws.{Grown-trans, Is-from, IsProjection-grown, IsVariable-grown, Kept-trans}
use Rattle.quantify_ops.proofs.ProductLaws.{mark_of, no_projection_leaf}
use Rattle.quantify_ops.proofs.products.mark.Goals as goal

pub look-requires : goal.look-requires
look-requires g c = (Bdd, Is-from Bdd c.projection-projection.ensures.projection.denotes)

pub unreachable-requires : goal.unreachable-requires
unreachable-requires g c =
    let p = c.projection-projection.ensures in let l = c.look.ensures in
    let o = l.operand Bdd (Is-from Bdd p.projection.denotes) in
    let leaf = rw c.in_default.is at o.top in
    no_projection_leaf _ c.args.var c.look.result.edge leaf.0 (rw l.edge (IsProjection-grown l.kept.grown p.projection)) leaf.1

pub mark-requires : goal.mark-requires
mark-requires g c =
    let p = c.projection-projection.ensures in let l = c.look.ensures in
    let top = rw c.in-Some.is at (l.operand Bdd (Is-from Bdd p.projection.denotes)).top in
    let level = top.level in let within = top.within in let m = p.kept.grown.vars in let n = l.kept.grown.vars in let room = c.requires.room in omega arith

pub returns-clause-marks : goal.returns-clause-marks
returns-clause-marks g c =
    let p = c.projection-projection.ensures in let l = c.look.ensures in
    let o = l.operand Bdd (Is-from Bdd p.projection.denotes) in
    let top = rw c.in-Some.is at o.top in
    let k = mark_of _ c.args.var c.look.result c.in-Some.top (IsVariable-grown Bdd (Grown-trans p.kept.grown l.kept.grown) c.args.var c.requires.in_range)
    (rw l.edge (IsProjection-grown l.kept.grown p.projection)) o top in
    c.mark.ensures.marks ∙ ap₂ (λ j x. set c.args.stack.now.marks j (Some x)) (top.level ∙ ap (g.G.Grow.view c.look.new.store).level k.0) k.0

pub returns-clause-is_mark : goal.returns-clause-is_mark
returns-clause-is_mark g c =
    let p = c.projection-projection.ensures in let l = c.look.ensures in
    let o = l.operand Bdd (Is-from Bdd p.projection.denotes) in
    (mark_of _ c.args.var c.look.result c.in-Some.top (IsVariable-grown Bdd (Grown-trans p.kept.grown l.kept.grown) c.args.var c.requires.in_range)
    (rw l.edge (IsProjection-grown l.kept.grown p.projection)) o (rw c.in-Some.is at o.top)).1

pub returns-clause-kept : goal.returns-clause-kept
returns-clause-kept g c = Kept-trans c.projection-projection.ensures.kept c.look.ensures.kept
