-- What is told of two rows.
use Rattle.std.proofs.Common.{◌≡◌, inl, inr, ℕ, Bool, true, false, IsTrue, ◌↔◌, pos, sym, subst}
use Rattle.std.specs.Prelude.{MatchBool}
use Rattle.edge_bits.specs.declared.edges.Kind.{Kind}
use Rattle.function_laws.specs.Kinds.{ValueOf}
use Rattle.store_rows.proofs.Changes.{same-refl}
use Rattle.store_rows.specs.RowStores.{IsLive, IsLiveAs, Names, RowStoreView}
use Rattle.dd_manager.specs.declared.requests.Answer.{Answer}
use Rattle.dd_manager.specs.declared.requests.Request.{Request}
use Rattle.dd_manager.specs.declared.statuses.Status.TheVariants as statuses
use Rattle.dd_manager.specs.Requests.{first, second}
use Rattle.dd_manager.specs.Answers.{Says}
use Rattle.dd_manager.specs.RowCalls.{TellsSame}

pub unmatched : (b : Bool) (P Q : Type 0) → MatchBool b P Q → b ≡ false → Q
unmatched true P Q is told = absurd (let z : true ≡ false = told in cc)
unmatched false P Q is told = is

pub matched : (b : Bool) (P Q : Type 0) → MatchBool b P Q → b ≡ true → P
matched true P Q is told = is
matched false P Q is told = absurd (let z : false ≡ true = told in cc)

module _ (b : Bool) (d : RowStoreView) (r : Request) (a : Answer) (own : b ≡ false) (k : Kind) (one : IsLiveAs k d.rows.live (first r)) where
  pub told-kinds : IsLive d.rows.live (second r) → (IsLiveAs k d.rows.live (second r) → ⊥) → Says statuses.Kind a → TellsSame b d r d a
  told-kinds live other status = subst (λ c. TellsSame c d r d a) (sym own) (same-refl d, inr (inl (k, one, live, other, status)))

  pub told-same : (told : Bool) → IsLiveAs k d.rows.live (second r) → Says statuses.Done a → (a.value ≡ pos 1) ↔ IsTrue told
      → ((l : Kind) (f g : ℕ → ValueOf l) → Names d l (first r) f → Names d l (second r) g → IsTrue told ↔ (f ≡ g)) → TellsSame b d r d a
  told-same told two status value tells = subst (λ c. TellsSame c d r d a) (sym own) (same-refl d, inr (inr (k, one, two, status, λ f g x y. let t = tells k f g x y in ((λ is. t.0 (value.0 is)), (λ same. value.1 (t.1 same))))))
