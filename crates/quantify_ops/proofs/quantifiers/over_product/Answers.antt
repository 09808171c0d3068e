use Rattle.std.proofs.Common.{inl, inr, ℕ, Bool, subst}
use Rattle.std.proofs.lemmas.Result.{err_from_is_err_and}
use Rattle.edge_bits.specs.declared.edges.Kind.TheVariants.{Bdd}
use Rattle.node_store.specs.Views.{Denotes}
use Rattle.node_store.specs.ViewLaws.{Permanent-grown}
use Rattle.node_store.specs.TwoLaws.{AreTwo-grown}
use Rattle.quantify_ops.specs.WorksLasts.{both_back, work_back}
use Rattle.node_store.proofs.Running.{Serves-named}
use Rattle.quantify_ops.proofs.OperationLaws.{Serves-failed, Serves-then}
use Rattle.quantify_ops.proofs.quantifiers.over_product.Goals as goal

pub quantify-requires-clause-operands : goal.quantify-requires-clause-operands
quantify-requires-clause-operands g c = AreTwo-grown Bdd c.in_ok-cube.ensures.runs.grown c.requires.operands

pub quantify-requires-clause-cube : goal.quantify-requires-clause-cube
quantify-requires-clause-cube g c = (c.args.vars.now, c.in_ok-cube.ensures.runs.answer)

pub quantify-requires-clause-permanent : goal.quantify-requires-clause-permanent
quantify-requires-clause-permanent g c = Permanent-grown c.in_ok-cube.ensures.runs.grown c.requires.permanent

pub returns-clause-runs : goal.returns-clause-runs
returns-clause-runs g c =
    let e = c.in_ok-cube.ensures.runs in let vars = c.args.vars.now in let two = c.requires.operands in
    Serves-then (Serves-named (λ _ is. is) (λ bad. bad) (λ F is. inr is) e)
    (Serves-named (λ x is. subst (λ (h : ℕ → Bool). Denotes Bdd (g.G.Grow.view c.quantify.new.store) x h) (both_back _ _ c.args.f c.args.g vars e.grown two) is) (λ bad. bad)
    (λ F is. inl (work_back _ _ c.args.f c.args.g vars e.grown two F is)) (c.quantify.ensures.runs vars e.answer))

pub returns-in_err-cube-clause-runs : goal.returns-in_err-cube-clause-runs
returns-in_err-cube-clause-runs g c =
    let q = err_from_is_err_and c.from_residual.result c.from_residual.ensures.1 in rw (q.1, q.2)
    (Serves-failed (λ F is. inr is) c.in_err-cube.ensures.runs)
