use Rattle.std.proofs.Common.{Some, refl, ap, sym, ◌∙◌, subst}
use Rattle.std.proofs.lemmas.Result.{err_from_is_err_and}
use Rattle.edge_bits.specs.declared.edges.Kind.TheVariants.{Zdd}
use Rattle.function_laws.specs.Kinds.{ZddFamily}
use Rattle.node_store.specs.Views.{Denotes}
use Rattle.node_store.specs.ViewLaws.{Grown-trans}
use Rattle.node_store.proofs.Stops.{full_stop}
use Rattle.zdd_ops.specs.Subsets.{SubsetDue-stays, subset_at-grown}
use Rattle.zdd_ops.proofs.SubsetLaws.{Moves-refused, Subset-branches, Subset-moved-kept, Subset-refused, here_is}
use Rattle.zdd_ops.proofs.subsets.OneElementApply.expand.Goals as goal

pub returns-in_ok-edge-in-Here-clause-moved : goal.returns-in_ok-edge-in-Here-clause-moved
returns-in_ok-edge-in-Here-clause-moved g c =
    let o = g.O.ByElement in let l = g.met.O.ByElement in let el = c.args.self.now.element in let root = c.args.self.now.family in
    let k = c.in-Here.ensures.kept in let e = c.in_ok-edge-in-Here.ensures in
    Subset-moved-kept o.part l.other l.lacks el root _ _ _ c.args.task c.in_ok-edge-in-Here.edge c.requires k e.grown e.made
    (subst (λ f. Denotes Zdd (g.G.Grow.view c.answer.new.store) c.in_ok-edge-in-Here.edge f) (here_is o.part _ _ el c.args.task.f c.in-Here.hi c.in-Here.lo k.grown c.requires.family c.in-Here.ensures.place) e.answer)

pub returns-in_ok-edge-in-Here-clause-expanded : goal.returns-in_ok-edge-in-Here-clause-expanded
returns-in_ok-edge-in-Here-clause-expanded g c =
    let o = g.O.ByElement in let el = c.args.self.now.element in let root = c.args.self.now.family in
    let k = c.in-Here.ensures.kept in let e = c.in_ok-edge-in-Here.ensures in
    subst (λ f. Denotes Zdd (g.G.Grow.view c.answer.new.store) c.in_ok-edge-in-Here.edge f)
    (here_is o.part _ _ el c.args.task.f c.in-Here.hi c.in-Here.lo k.grown c.requires.family c.in-Here.ensures.place ∙ sym (subset_at-grown o.part el root _ _ (Grown-trans k.grown e.grown) c.requires.family)) e.answer

pub returns-in_err-edge-in-Here-clause-due : goal.returns-in_err-edge-in-Here-clause-due
returns-in_err-edge-in-Here-clause-due g c =
    let o = g.O.ByElement in let l = g.met.O.ByElement in let el = c.args.self.now.element in let root = c.args.self.now.family in
    let k = c.in-Here.ensures.kept in let e = c.in_err-edge-in-Here.ensures in
    let q = err_from_is_err_and c.from_residual.result c.from_residual.ensures.1 in rw (q.1, q.2) (λ is.
    Subset-refused o.part l.other l.lacks el root _ _ c.args.task c.requires (Grown-trans k.grown e.grown)
    (e.due (full_stop _ is) ∙ ap (λ f. Some (ZddFamily f)) (here_is o.part _ _ el c.args.task.f c.in-Here.hi c.in-Here.lo k.grown c.requires.family c.in-Here.ensures.place)))

pub returns-in-Above-clause-expanded : goal.returns-in-Above-clause-expanded
returns-in-Above-clause-expanded g c =
    let o = g.O.ByElement in let l = g.met.O.ByElement in let el = c.args.self.now.element in let root = c.args.self.now.family in
    let m = c.in-Above.ensures.kept.grown in let p = c.in-Above.ensures.place in
    Subset-branches o.part l.other l.lacks el root _ c.args.task _ c.in-Above.hi c.in-Above.lo (SubsetDue-stays o.part el root _ _ c.args.task m c.requires) p.0 p.1 refl refl c.two.ensures.f c.two-in-Above.ensures.f

pub returns-in_err-edge-in-Here-clause-moved : goal.returns-in_err-edge-in-Here-clause-moved
returns-in_err-edge-in-Here-clause-moved g c = let e = c.in_err-edge-in-Here.ensures in Moves-refused _ _ _ _ _ c.in-Here.ensures.kept e.grown e.made
