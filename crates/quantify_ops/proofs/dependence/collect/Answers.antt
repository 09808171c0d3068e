use Rattle.std.proofs.Common.{◌≡◌, ap, sym, ◌∙◌, subst}
use Rattle.std.proofs.lemmas.Result.{err_from_is_err_and}
use Rattle.edge_bits.specs.declared.edges.Kind.TheVariants.{Bdd}
use Rattle.function_laws.specs.Cubes.{IsSupport}
use Rattle.function_laws.specs.Kinds.{BddFunction}
use Rattle.function_laws.specs.Values.{support}
use Rattle.node_store.specs.Views.{Denotes, Kept, bdd_at}
use Rattle.node_store.specs.ViewLaws.{Denotes-grown, Grown-trans, Is-grown, Kept-trans, values_at-grown}
use Rattle.node_store.proofs.Running.{Serves-after, Serves-kept, Serves-named}
use Rattle.quantify_ops.specs.Products.{marked_product}
use Rattle.quantify_ops.proofs.OperationLaws.{Serves-failed, Serves-then}
use Rattle.quantify_ops.proofs.ProductLaws.{AreMarks-grown}
use Rattle.quantify_ops.proofs.SupportLaws.{support_hit, support_is, support_is_key, support_keeps}
use Rattle.quantify_ops.proofs.dependence.collect.Goals as goal
use Rattle.quantify_ops.proofs.dependence.collect.Goals.{In_ok-_reached, After-levels-levels}
use Rattle.quantify_ops.proofs.dependence.collect.Given as given

pub returns-in-Some-clause-runs : goal.returns-in-Some-clause-runs
returns-in-Some-clause-runs g c =
    let e = c.in-Some.ensures in Serves-kept c.in-Some.edge e.kept (support_hit _ _ c.args.f c.in-Some.edge e.kept.grown c.requires.operand (rw c.key_of-key.ensures at e.hit))

pub product_of_marks-requires-clause-marks : goal.product_of_marks-requires-clause-marks
product_of_marks-requires-clause-marks g c = AreMarks-grown _ _ _ c.levels-levels.ensures.kept.grown c.in_ok-_reached.ensures.marks

-- the marks are those of the support
module _ (g : given.Over) (c : After-levels-levels g) where
  kept : Kept (g.G.Grow.view c.args.store.now) (g.G.Grow.view c.levels-levels.new.self)
  kept = Kept-trans c.in_default.ensures.kept (Kept-trans c.in_ok-_reached.ensures.kept c.levels-levels.ensures.kept)

  marks_support : IsSupport (bdd_at (g.G.Grow.view c.args.store.now) c.args.f) (marked_product c.mark_support.new.stack.marks)
  marks_support = rw (values_at-grown Bdd c.in_default.ensures.kept.grown c.requires.operand) at c.in_ok-_reached.ensures.support

  marks_are : marked_product c.mark_support.new.stack.marks ≡ support (g.G.Grow.view c.args.store.now).vars (bdd_at (g.G.Grow.view c.args.store.now) c.args.f)
  marks_are = support_is _ c.args.f _ c.requires.operand marks_support

pub returns-in_err-cube-clause-runs : goal.returns-in_err-cube-clause-runs
returns-in_err-cube-clause-runs g c =
    let at = (goal.at.returns-in_err-cube-clause-runs g c).After-levels-levels in
    let q = err_from_is_err_and c.from_residual-in_err-cube.result c.from_residual-in_err-cube.ensures.1 in rw (q.1, q.2)
    (Serves-failed (λ F is. is ∙ ap BddFunction (marks_are g at)) (Serves-after (kept g at) c.in_err-cube.ensures.runs))

pub memo_put-requires-clause-key : goal.memo_put-requires-clause-key
memo_put-requires-clause-key g c =
    let at = (goal.at.memo_put-requires-clause-key g c).After-levels-levels in
    rw c.key_of-key.ensures (support_is_key _ c.args.f (Is-grown Bdd (Grown-trans (kept g at).grown c.in_ok-cube.ensures.runs.grown) c.requires.operand))

pub memo_put-requires-clause-holds : goal.memo_put-requires-clause-holds
memo_put-requires-clause-holds g c =
    let at = (goal.at.memo_put-requires-clause-holds g c).After-levels-levels in
    let m = Grown-trans (kept g at).grown c.in_ok-cube.ensures.runs.grown in
    rw c.key_of-key.ensures (support_keeps _ c.args.f c.in_ok-cube.cube _ (Is-grown Bdd m c.requires.operand) c.in_ok-cube.ensures.runs.answer
    (subst (λ h. IsSupport h (marked_product c.mark_support.new.stack.marks)) (sym (values_at-grown Bdd m c.requires.operand)) (marks_support g at)))

pub returns-clause-runs : goal.returns-clause-runs
returns-clause-runs g c =
    let at = (goal.at.returns-clause-runs g c).After-levels-levels in let e = c.in_ok-cube.ensures.runs in let k = c.memo_put.ensures.kept in
    Serves-then (Serves-after (kept g at) (Serves-named (λ x is. is) (λ bad. bad) (λ F is. is ∙ ap BddFunction (marks_are g at)) e))
    (Serves-kept c.in_ok-cube.cube k (subst (λ h. Denotes Bdd (g.G.Grow.view c.memo_put.new.self) c.in_ok-cube.cube h) (marks_are g at) (Denotes-grown Bdd k.grown e.answer)))
