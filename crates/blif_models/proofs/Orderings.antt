-- The places of models in an order, and what they have in all.
use Rattle.std.proofs.Common.{◌≡◌, ℕ, zero, suc, ◌+◌, ◌==◌, ◌<◌, ◌≤◌, ◌||◌, Bool, true, false, List, [], ◌∷◌, ◌++◌, length, get_or, refl, ap, sym, ◌∙◌, subst, inl, inr, ⊎_elim, arith, if◌then◌else◌}
use Rattle.std.specs.Prelude.{◌⊎◌, sum_by}
use Rattle.std.proofs.lemmas.Bool.{false≢true, or_right}
use Rattle.std.proofs.lemmas.List.Sums.{sum_by-cons}
use Rattle.blif_order.specs.Orders.{Ordered, is_in, reads_of}
use Rattle.blif_order.proofs.Walks.{in_last, or_cases, own, same_number}
use Rattle.blif_models.specs.Graphs.{total_within}
use Rattle.blif_models.specs.Orderings.{PlacesAreRanks, TotalsAreCounts, place_in}
use Rattle.blif_models.proofs.CappedSums.{in_all}
use Rattle.blif_models.proofs.Counts.{counts_are_totals}

-- what a model holds stands in the order before it
behind : (holds : List (List ℕ)) (before order : List ℕ) → Ordered holds before order → (m n : ℕ) → is_in order m ≡ true → is_in (reads_of holds m) n ≡ true
    → (is_in before n ≡ true) ⊎ ((place_in order n < place_in order m) × (is_in order n ≡ true))
behind holds before [] o m n e f = absurd (false≢true e)
behind holds before (c ∷ order) o m n e f = by_cases (c == m) refl e (λ here. behind holds (before ++ c ∷ []) order o.1 m n here f)
  where
    among : (b : Bool) → (c == n) ≡ b → (place_in order n < place_in order m) × (is_in order n ≡ true) → ((if b then 0 else suc (place_in order n)) < suc (place_in order m)) × ((b || is_in order n) ≡ true)
    among true g h = (omega arith, refl)
    among false g h = (omega (arith, h.0), h.1)

    first : (b : Bool) → (c == n) ≡ b → b ≡ true → ((if b then 0 else suc (place_in order n)) < suc (place_in order m)) × ((b || is_in order n) ≡ true)
    first true g h = (omega arith, refl)
    first false g h = absurd (false≢true h)

    by_cases : (b : Bool) → (c == m) ≡ b → (b || is_in order m) ≡ true → (is_in order m ≡ true → (is_in (before ++ c ∷ []) n ≡ true) ⊎ ((place_in order n < place_in order m) × (is_in order n ≡ true)))
        → (is_in before n ≡ true) ⊎ (((if c == n then 0 else suc (place_in order n)) < (if b then 0 else suc (place_in order m))) × ((c == n || is_in order n) ≡ true))
    by_cases true g h more = inl (in_all before (reads_of holds c) n o.0 (subst (λ k. is_in (reads_of holds k) n ≡ true) (sym (same_number c m g)) f))
    by_cases false g h more =
        ⊎_elim (λ earlier. ⊎_elim (λ old. inl old) (λ (same : (c == n) ≡ true). inr (first (c == n) refl same)) (or_cases (is_in before n) (c == n) (sym (in_last before n c) ∙ earlier))) (λ later. inr (among (c == n) refl later)) (more h)

inner : (holds : List (List ℕ)) (order : List ℕ) → Ordered holds [] order → (m n : ℕ) → is_in order m ≡ true → is_in (reads_of holds m) n ≡ true → (place_in order n < place_in order m) × (is_in order n ≡ true)
inner holds order o m n e f = ⊎_elim (λ bad. absurd (false≢true bad)) (λ both. both) (behind holds [] order o m n e f)

pub places_are_ranks : PlacesAreRanks
places_are_ranks holds order o m n e f = (inner holds order o m n e f).0

-- a total is steady from a model's place on

sums_same : (f g : ℕ → ℕ) (ns : List ℕ) → ((n : ℕ) → is_in ns n ≡ true → f n ≡ g n) → sum_by f ns ≡ sum_by g ns
sums_same f g [] h = refl
sums_same f g (n ∷ ns) h = omega (arith, sum_by-cons f n ns, sum_by-cons g n ns, h n (ap (λ b. b || is_in ns n) (own n)), sums_same f g ns (λ k e. h k (or_right (n == k) (is_in ns k) e)))

none_held : (f : ℕ → ℕ) (ns : List ℕ) → ((n : ℕ) → is_in ns n ≡ true → ⊥) → sum_by f ns ≡ 0
none_held f [] h = refl
none_held f (n ∷ ns) h = absurd (h n (ap (λ b. b || is_in ns n) (own n)))

module _ (holds : List (List ℕ)) (noted order : List ℕ) (o : Ordered holds [] order) where
  pub steady : (l m : ℕ) → is_in order m ≡ true → place_in order m ≤ l → total_within holds noted l m ≡ total_within holds noted (suc l) m
  unfolding total_within
  steady zero m e le = omega (arith, none_held (total_within holds noted zero) (reads_of holds m) (λ n f. let low : place_in order n < 0 = omega (arith, (inner holds order o m n e f).0, le) in omega (arith, low)))
  steady (suc l) m e le =
      ap (λ k. get_or noted m 0 + k) (sums_same (total_within holds noted l) (total_within holds noted (suc l)) (reads_of holds m) (λ n f. let both = inner holds order o m n e f in steady l n both.1 (omega (arith, both.0, le))))

  steady_by : (d l m : ℕ) → is_in order m ≡ true → place_in order m ≤ l → total_within holds noted l m ≡ total_within holds noted (d + l) m
  steady_by zero l m e le = let same : l ≡ 0 + l = omega arith in ap (λ k. total_within holds noted k m) same
  steady_by (suc d) l m e le =
      let same : suc (d + l) ≡ suc d + l = omega arith in
      steady_by d l m e le ∙ steady (d + l) m e (omega (arith, le)) ∙ ap (λ k. total_within holds noted k m) same

pub totals_are_counts : TotalsAreCounts
totals_are_counts models among holds own_c own_s order copies signals graph noted_c noted_s o all totals_c totals_s few = record {
  copies = λ levels m model in_it at le.
      let more : length order ≤ length order + levels = omega arith in
      let total = totals_c (length order + levels) m more (all m in_it) in
      let same = steady_by holds own_c order o (length order) levels m (all m in_it) le in
      let counts = counts_are_totals.copies models among holds own_c graph noted_c levels m model in_it at in
      omega (arith, total, same, counts, few m in_it);
  signals = λ levels m model in_it at le none.
      let more : length order ≤ length order + levels = omega arith in
      let total = totals_s (length order + levels) m more (all m in_it) in
      let same = steady_by holds own_s order o (length order) levels m (all m in_it) le in
      let counts = counts_are_totals.signals models among holds own_s graph noted_s levels m model in_it at in
      omega (arith, total, same, counts, none);
}
