use Rattle.edge_bits.specs.declared.edges.Kind.TheVariants.{Bdd}
use Rattle.node_store.specs.ViewLaws.{Is-grown, Kept-trans}
use Rattle.node_store.specs.TwoLaws.{AreTwo-grown}
use Rattle.cover_isop.specs.IsopLasts.{top_grown}
use Rattle.cover_isop.proofs.EdgeSteps.{Sides-are, can-lower, can-upper}
use Rattle.cover_isop.proofs.calls.sides_of.Goals as goal

pub parts-lower_hi-requires : goal.parts-lower_hi-requires
parts-lower_hi-requires g c = (Bdd, can-lower _ c.args.task c.args.var c.requires.two c.requires.top)

pub parts-upper_hi-requires : goal.parts-upper_hi-requires
parts-upper_hi-requires g c =
    let m = c.parts-lower_hi.ensures.kept.grown in (Bdd, can-upper _ c.args.task c.args.var (AreTwo-grown Bdd m c.requires.two) (top_grown m c.args.task.f c.args.task.g c.args.var c.requires.two c.requires.top))

pub returns-clause-kept : goal.returns-clause-kept
returns-clause-kept g c = Kept-trans c.parts-lower_hi.ensures.kept c.parts-upper_hi.ensures.kept

pub returns-clause-sides : goal.returns-clause-sides
returns-clause-sides g c =
    let m = c.parts-lower_hi.ensures.kept.grown in let k = c.parts-upper_hi.ensures.kept.grown in let t = c.args.task in let x = c.args.var in
    Sides-are _ _ t x (record { hi = c.two.result; lo = c.two-2.result }) k (Is-grown Bdd m c.requires.two.first)
    (rw (c.two.ensures.f, c.two-2.ensures.f) (c.parts-lower_hi.ensures.parts Bdd (can-lower _ t x c.requires.two c.requires.top)))
    (rw (c.two.ensures.g, c.two-2.ensures.g) (c.parts-upper_hi.ensures.parts Bdd (can-upper _ t x (AreTwo-grown Bdd m c.requires.two) (top_grown m t.f t.g x c.requires.two c.requires.top))))
