use Rattle.std.proofs.Common.{◌≡◌, subst, ℕ, Bool}
use Rattle.edge_bits.specs.declared.edges.Kind.TheVariants.{Bdd}
use Rattle.function_laws.specs.Kinds.{BddFunction}
use Rattle.node_store.specs.Operations.{Runs}
use Rattle.node_store.specs.ViewLaws.{Kept-trans, Permanent-grown}
use Rattle.node_store.proofs.Running.{Serves-after}
use Rattle.quantify_ops.proofs.ProductLaws.{none_marked}
use Rattle.quantify_ops.specs.WorksLasts.{in_range_lasts}
use Rattle.quantify_ops.proofs.products.product.Goals as goal

pub mark_all-requires-clause-in_range : goal.mark_all-requires-clause-in_range
mark_all-requires-clause-in_range g c = in_range_lasts _ _ c.args.vars.now c.levels-levels.ensures.kept.grown c.requires.in_range

pub mark_all-requires-clause-none : goal.mark_all-requires-clause-none
mark_all-requires-clause-none g c = rw c.clear_marks.ensures.marks (none_marked _)

pub product_of_marks-requires-clause-permanent : goal.product_of_marks-requires-clause-permanent
product_of_marks-requires-clause-permanent g c = Permanent-grown c.mark_all.ensures.kept.grown c.levels-levels.ensures.permanent

pub returns-clause-runs : goal.returns-clause-runs
returns-clause-runs g c =
    Serves-after (Kept-trans c.levels-levels.ensures.kept c.mark_all.ensures.kept)
    (subst (λ (h : ℕ → Bool). Runs Bdd h (λ F. F ≡ BddFunction h) (g.G.Grow.view c.mark_all.new.store) (g.G.Grow.view c.product_of_marks.new.store) c.product_of_marks.result) c.mark_all.ensures.product c.product_of_marks.ensures.runs)
