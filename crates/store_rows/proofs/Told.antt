-- What is told of rows, by what is told of their edges.
use Rattle.std.proofs.Common.{◌≡◌, ℕ, ℤ, Bool, true, IsTrue, Result, Ok, Err, IfOk, ap, sym, subst, ◌∙◌, ◌↔◌}
use Rattle.edge_bits.specs.declared.edges.Edge.{Edge}
use Rattle.edge_bits.specs.declared.edges.Kind.{Kind}
use Rattle.edge_bits.specs.declared.edges.Kind.TheVariants.{Bdd}
use Rattle.function_laws.specs.declared.history.Name.{Name}
use Rattle.function_laws.specs.Kinds.{ValueOf}
use Rattle.node_store.specs.Listed.{number_of}
use Rattle.node_store.specs.Memo.{Implies}
use Rattle.node_store.specs.ViewLaws.{Is-from, values_at-is}
use Rattle.node_store.specs.Views.{AreTwo, Denotes, bdd_at, values_at}
use Rattle.store_rows.specs.RowStores.{IsLiveAs, Names, RowStoreView, edge_in, view_of}
use Rattle.store_rows.proofs.Rows.{one-kind}

pub if-ok : {T E : Type 0} (r : Result T E) (P Q : T → Type 0) → IfOk r P → ((x : T) → P x → Q x) → IfOk r Q
if-ok (Ok x) P Q is then = then x is
if-ok (Err e) P Q is then = tt

module _ (d : RowStoreView) where
  own_denotes : (k : Kind) (h : Name) (e : Edge) (f : ℕ → ValueOf k) → e ≡ edge_in d.rows.live h → Names d k h f → Denotes k (view_of d) e f
  own_denotes k h e f own names = subst (λ (x : Edge). Denotes k (view_of d) x f) (sym own) names.1

  pub own_values : (k : Kind) (h : Name) (e : Edge) (f : ℕ → ValueOf k) → e ≡ edge_in d.rows.live h → Names d k h f → values_at k (view_of d) e ≡ f
  own_values k h e f own names = values_at-is k (own_denotes k h e f own names)

  -- two rows are told as the same
  pub same-told : (f g : Name) (e i : Edge) (told : Bool) → e ≡ edge_in d.rows.live f → i ≡ edge_in d.rows.live g
      → ((k : Kind) → AreTwo k (view_of d) e i → IsTrue told ↔ (values_at k (view_of d) e ≡ values_at k (view_of d) i))
      → (k : Kind) (a b : ℕ → ValueOf k) → Names d k f a → Names d k g b → IsTrue told ↔ (a ≡ b)
  same-told f g e i told own_f own_g tells k a b first second =
      let t = tells k (record { first = Is-from k (own_denotes k f e a own_f first); second = Is-from k (own_denotes k g i b own_g second) }) in
      let x = own_values k f e a own_f first in
      let y = own_values k g i b own_g second in
      ((λ yes. sym x ∙ t.0 yes ∙ y), (λ same. t.1 (x ∙ same ∙ sym y)))

  -- a row's value
  pub value-told : (h : Name) (l : Kind) (e : Edge) (z : ℤ) (at : ℕ) → IsLiveAs l d.rows.live h → e ≡ edge_in d.rows.live h → z ≡ number_of l (values_at l (view_of d) e at)
      → (k : Kind) (f : ℕ → ValueOf k) → Names d k h f → z ≡ number_of k (f at)
  value-told h l e z at named own is k f names =
      subst (λ (j : Kind). z ≡ number_of j (values_at j (view_of d) e at)) (one-kind d.rows.live h l k named names.0) is
      ∙ ap (λ (g : ℕ → ValueOf k). number_of k (g at)) (own_values k h e f own names)

  -- and whether one is true wherever another is
  pub implies-told : (f g : Name) (e i : Edge) (told : Bool) → e ≡ edge_in d.rows.live f → i ≡ edge_in d.rows.live g → (told ≡ true) ↔ Implies (bdd_at (view_of d) e) (bdd_at (view_of d) i)
      → (a b : ℕ → Bool) → Names d Bdd f a → Names d Bdd g b → (told ≡ true) ↔ Implies a b
  implies-told f g e i told own_f own_g is a b first second =
      let x = own_values Bdd f e a own_f first in
      let y = own_values Bdd g i b own_g second in
      subst (λ (z : (ℕ → Bool) × (ℕ → Bool)). (told ≡ true) ↔ Implies z.0 z.1) (λ j. (x j, y j)) is
