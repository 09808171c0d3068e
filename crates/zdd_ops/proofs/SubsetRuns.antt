-- Runs of an operation by one element on a stack that is handed in.
use Rattle.std.proofs.Common.{◌≡◌, ℕ, Bool, true, inl, inr, Some, Result, Ok, Err, IfOk, refl, ap, ◌∙◌, subst}
use Rattle.std.specs.Prelude.{◌⊎◌, IsErrOf, IsOkAnd}
use Rattle.edge_bits.specs.declared.edges.Edge.{Edge}
use Rattle.edge_bits.specs.declared.edges.Kind.TheVariants.{Zdd}
use Rattle.function_laws.specs.Kinds.{ZddFamily}
use Rattle.node_store.specs.Operations.{Runs, RunsTo, halts}
use Rattle.node_store.specs.Views.{View, Denotes, Grown, Is, Kept, Rose}
use Rattle.node_store.specs.Work.{IsWork, whole}
use Rattle.node_store.specs.WorkLaws.{IsWork-due, IsWork-edge}
use Rattle.node_store.specs.declared.grow.Stop.{Stop}
use Rattle.node_store.specs.declared.grow.Stop.TheVariants.{Memory, Full}
use Rattle.node_store.specs.declared.operator.Halt.{Halt}
use Rattle.node_store.proofs.Running.{Serves-after, Serves-named}
use Rattle.zdd_ops.specs.Subsets.{ElementOperation, subset_at, subset_at-grown, subset_work}

-- one node is made
pub make_runs : {v w : View} (value : ℕ → Bool) (r : Result Edge Stop) → Grown v w → ((s : ℕ) → w.made s ≡ true → (v.made s ≡ true) ⊎ IsOkAnd r (λ e. e.index ≡ s)) → IfOk r (λ e. Denotes Zdd w e value)
    → (IsErrOf r Memory → v.may_want_memory ≡ true) → (IsErrOf r Full → Rose v w) → (IsErrOf r Full → w.due ≡ Some (ZddFamily value)) → Runs Zdd value (λ F. F ≡ ZddFamily value) v w (halts r)
make_runs {v} {w} value (Ok e) m made ok memory full due = record {
  grown = m;
  room = tt;
  answer = ok;
  overflow = λ is. cc;
  work = λ s here. elim (made s here) [ inl old ↦ inl old | inr same ↦ inr (subst (λ x. IsWork w (λ F. F ≡ ZddFamily value) (w.content x)) same (IsWork-edge Zdd w (λ F. F ≡ ZddFamily value) e value value refl whole ok)) ];
  memory = λ is. cc;
  full = λ is. cc;
  due = λ is. cc;
}
make_runs {v} {w} value (Err Memory) m made ok memory full due = record {
  grown = m;
  room = tt;
  answer = tt;
  overflow = λ is. cc;
  work = λ s here. elim (made s here) [ inl old ↦ inl old | inr never ↦ absurd never ];
  memory = λ is. inr (memory refl);
  full = λ is. cc;
  due = λ is. cc;
}
make_runs {v} {w} value (Err Full) m made ok memory full due = record {
  grown = m;
  room = tt;
  answer = tt;
  overflow = λ is. cc;
  work = λ s here. elim (made s here) [ inl old ↦ inl old | inr never ↦ absurd never ];
  memory = λ is. cc;
  full = λ is. full refl;
  due = λ is. IsWork-due Zdd w (λ F. F ≡ ZddFamily value) value value refl whole (due refl);
}

-- a run from a later view, as one of an earlier one
pub Subset-named : {v u w : View} {O P : Type 0} (part : ElementOperation) (el : ℕ) (p : Edge) (r : Result Edge Halt) → Kept v u → Is Zdd v p → (O → P)
    → RunsTo (λ e. Denotes Zdd w e (subset_at part el u p)) O (subset_work part el p u) u w r → RunsTo (λ e. Denotes Zdd w e (subset_at part el v p)) P (subset_work part el p v) v w r
Subset-named {v} {u} {w} part el p r k d over run =
    let same = subset_at-grown part el p v u k.grown d in
    Serves-after k (Serves-named (λ e is. subst (Denotes Zdd w e) same is) over (λ F told. told ∙ ap ZddFamily same) run)
