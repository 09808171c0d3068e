-- Items and entries, one by one.
use Rattle.std.proofs.Common.{◌≡◌, ℕ, zero, suc, ◌+◌, ◌<◌, ◌≤◌, Bool, true, false, nat_lt, List, [], ◌∷◌, ◌++◌, get_or, length, length-append, Bor, refl, sym, subst, arith}
use Rattle.std.proofs.lemmas.Bool.Decides.{nat_tests}
use Rattle.std.proofs.lemmas.List.{get_or_append_left, get_or_push}
use Rattle.std.proofs.lemmas.Option.{slice_get_within}
use Rattle.blif_models.specs.declared.numbered.Entry.{Entry}
use Rattle.blif_models.specs.declared.numbered.NumberedModel.{NumberedModel}
use Rattle.blif_models.specs.Layouts.{model_at, no_model}
use Rattle.blif_formals.specs.declared.calls.Call.{Call}
use Rattle.blif_drafts.specs.declared.drafts.DraftItem.{DraftItem}
use Rattle.blif_drafts.specs.declared.drafts.DraftItem.TheVariants as drafts
use Rattle.blif_formals.specs.declared.formals.Callees.{Callees}
use Rattle.blif_drafts.specs.Entries.{AreEntriesBy, AreKnown, IsEntryBy, IsKnownItem, instances_among, step_of}

module _ (callees : Callees) (calls : List Call) (joined : List (List (Bor (List ℕ)))) where
  pub known_at : (front : List DraftItem) (item : DraftItem) (rest : List DraftItem) (p : ℕ) → AreKnown callees calls joined p (front ++ item ∷ rest) → IsKnownItem callees calls joined (p + instances_among front) item
  known_at [] item rest p k = subst (λ n. IsKnownItem callees calls joined n item) (omega arith) k.0
  known_at (one ∷ front) item rest p k =
      let same : (p + step_of one) + instances_among front ≡ p + (step_of one + instances_among front) = omega arith in
      subst (λ n. IsKnownItem callees calls joined n item) same (known_at front item rest (p + step_of one) k.1)

  pub one_entry : (items : List DraftItem) (others : List Entry) (item : DraftItem) (entry : Entry) (p : ℕ) → AreEntriesBy callees calls joined p items others → IsEntryBy callees calls joined (p + instances_among items) item entry
      → AreEntriesBy callees calls joined p (items ++ item ∷ []) (others ++ entry ∷ [])
  one_entry [] [] item entry p a e = (subst (λ n. IsEntryBy callees calls joined n item entry) (omega arith) e, tt)
  one_entry [] (other ∷ others) item entry p a e = absurd a
  one_entry (one ∷ items) [] item entry p a e = absurd a
  one_entry (one ∷ items) (other ∷ others) item entry p a e =
      let same : p + (step_of one + instances_among items) ≡ (p + step_of one) + instances_among items = omega arith in
      (a.0, one_entry items others item entry (p + step_of one) a.1 (subst (λ n. IsEntryBy callees calls joined n item entry) same e))

  -- the place of an instance is one of the calls'
  pub place_within : (item : DraftItem) (p : ℕ) → p ≤ length calls → IsKnownItem callees calls joined p item → p + step_of item ≤ length calls
  place_within (drafts.Cover cover) p le k = omega (arith, le)
  place_within (drafts.Latch latch) p le k = omega (arith, le)
  place_within (drafts.Instance found) p le k = let within = slice_get_within calls p k.call k.call_is in omega (arith, within)

  pub total_more : (items : List DraftItem) (item : DraftItem) → instances_among (items ++ item ∷ []) ≡ instances_among items + step_of item
  total_more [] item = omega arith
  total_more (one ∷ items) item = let more = total_more items item in omega (arith, more)

-- one model more: what is told of each by its number
pub one_more : (Q : ℕ → NumberedModel → Type 0) (models : List NumberedModel) (one : NumberedModel) (k : ℕ) → k ≡ length models → ((m : ℕ) → m < length models → Q m (model_at models m)) → Q k one
    → (m : ℕ) → m < length (models ++ one ∷ []) → Q m (model_at (models ++ one ∷ []) m)
one_more Q models one k e before here m lt = by_test (nat_lt m (length models)) refl
  where
    by_test : (t : Bool) → nat_lt m (length models) ≡ t → Q m (model_at (models ++ one ∷ []) m)
    by_test true f =
        let less : m < length models = grind (arith, nat_tests) in
        subst (Q m) (sym (get_or_append_left models (one ∷ []) no_model m less)) (before m less)
    by_test false f =
        let past : length models ≤ m = grind (arith, nat_tests) in
        let many = length-append models (one ∷ []) in
        let same : k ≡ m = omega (arith, past, lt, many, e) in
        subst (Q m) (sym (get_or_push models one no_model m (omega (arith, same, e)))) (subst (λ n. Q n one) same here)

-- what stands at the seam of two lists
pub seam : {X : Type 0} (front : List X) (one : X) (rest : List X) (d : X) (k : ℕ) → k ≡ length front → get_or (front ++ one ∷ rest) k d ≡ one
seam [] one rest d zero e = refl
seam [] one rest d (suc k) e = absurd (omega (arith, e))
seam (x ∷ front) one rest d zero e = absurd (omega (arith, e))
seam (x ∷ front) one rest d (suc k) e = seam front one rest d k (omega (arith, e))
