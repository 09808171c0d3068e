-- What models have in all: sums that are capped, and sums in an order.
use Rattle.std.proofs.Common.{◌≡◌, ℕ, zero, suc, ◌+◌, ◌==◌, ◌<◌, ◌≤◌, ◌||◌, Bool, true, false, List, [], ◌∷◌, ◌++◌, length, set, take, append_assoc, append-nil, refl, ap, sym, ◌∙◌, subst, inl, inr, ⊎_elim, arith}
use Rattle.std.specs.Prelude.{◌⊎◌, get_or, sum_by}
use Rattle.std.specs.List.{list_all}
use Rattle.std.proofs.lemmas.Bool.{and_parts, false≢true}
use Rattle.std.proofs.lemmas.Bool.Decides.{nat_tests}
use Rattle.std.proofs.lemmas.List.{get_or-set_same, get_or-set_other, take_more, length_push}
use Rattle.std.proofs.lemmas.List.Sums.{sum_by-cons}
use Rattle.blif_order.specs.Orders.{is_in, reads_of, Ordered}
use Rattle.blif_order.proofs.Walks.{in_last, or_cases, own as self_same, same_number, same_or_not}
use Rattle.blif_models.specs.Graphs.{total_within, capped, AreTotals}

capped_more : (a b : ℕ) → capped (a + capped b) ≡ capped (a + b)
capped_more a b = omega arith

pub capped_step : (a b : ℕ) → capped (capped a + b) ≡ capped (a + b)
capped_step a b = omega arith

-- a sum of capped numbers, capped
capped_sum : (f g : ℕ → ℕ) (a : ℕ) (ms : List ℕ) → ((m : ℕ) → is_in ms m ≡ true → f m ≡ capped (g m)) → capped (a + sum_by f ms) ≡ capped (a + sum_by g ms)
capped_sum f g a [] h = refl
capped_sum f g a (m ∷ ms) h =
    ap (λ n. capped (a + n)) (sum_by-cons f m ms)
    ∙ ap (λ n. capped (a + (n + sum_by f ms))) (h m (ap (λ b. b || is_in ms m) (self_same m)))
    ∙ swap_in (g m) (sum_by f ms)
    ∙ capped_sum f g (a + g m) ms (λ k e. h k (or_more (m == k) (is_in ms k) e))
    ∙ ap capped (omega arith)
    ∙ ap (λ n. capped (a + n)) (sym (sum_by-cons g m ms))
  where
    or_more : (a b : Bool) → b ≡ true → (a || b) ≡ true
    or_more true b e = refl
    or_more false b e = e

    swap_in : (b s : ℕ) → capped (a + (capped b + s)) ≡ capped (a + b + s)
    swap_in b s = omega arith

pub in_all : (before ms : List ℕ) (m : ℕ) → list_all (is_in before) ms ≡ true → is_in ms m ≡ true → is_in before m ≡ true
in_all before [] m h k = absurd (false≢true k)
in_all before (n ∷ ms) m h k =
    let both = and_parts (is_in before n) (list_all (is_in before) ms) h in
    ⊎_elim (λ same. subst (λ t. is_in before t ≡ true) (same_number n m same) both.0) (λ more. in_all before ms m both.1 more) (or_cases (n == m) (is_in ms m) k)

-- what stands at a place of an order holds only what stands before it
ordered_at : (holds : List (List ℕ)) (before order : List ℕ) (i : ℕ) → i < length order → Ordered holds before order → list_all (is_in (before ++ take i order)) (reads_of holds (get_or order i 0)) ≡ true
ordered_at holds before [] i lt o = absurd (omega (arith, lt))
ordered_at holds before (c ∷ order) zero lt o = subst (λ (xs : List ℕ). list_all (is_in xs) (reads_of holds c) ≡ true) (sym (append-nil before)) o.0
ordered_at holds before (c ∷ order) (suc i) lt o =
    subst (λ (xs : List ℕ). list_all (is_in xs) (reads_of holds (get_or order i 0)) ≡ true) (append_assoc before (c ∷ []) (take i order)) (ordered_at holds (before ++ c ∷ []) order i (omega (arith, lt)) o.1)

-- what a model holds
pub held_at : (holds : List (List ℕ)) (m : ℕ) (d : List ℕ) → m < length holds → reads_of holds m ≡ get_or holds m d
held_at [] m d lt = absurd (omega (arith, lt))
held_at (held ∷ holds) zero d lt = refl
held_at (held ∷ holds) (suc m) d lt = held_at holds m d (omega (arith, lt))

-- one more model of the order has its total
pub totals_more : (holds : List (List ℕ)) (own order totals seen held : List ℕ) (i value : ℕ) → i < length order → Ordered holds [] order → get_or order i 0 < length totals
    → seen ≡ totals → held ≡ reads_of holds (get_or order i 0) → value ≡ capped (get_or own (get_or order i 0) 0 + sum_by (λ m. get_or seen m 0) held)
    → AreTotals holds own (take i order) totals → AreTotals holds own (take (i + 1) order) (set totals (get_or order i 0) value)
unfolding total_within
totals_more holds own order totals seen held i value lt o within same_totals same_held is before levels m far among = by_cases levels longer (same_or_not m c)
  where
    c : ℕ
    c = get_or order i 0

    more : take (i + 1) order ≡ take i order ++ c ∷ []
    more = take_more order i 0 lt

    longer : length (take i order) + 1 ≤ levels
    longer = omega (arith, far, ap length more, length_push (take i order) c)

    earlier : ((m == c) ≡ false) → is_in (take i order) m ≡ true
    earlier apart = which (or_cases (is_in (take i order) m) (c == m) (sym (in_last (take i order) m c) ∙ sym (ap (λ (xs : List ℕ). is_in xs m) more) ∙ among))
      where
        which : (is_in (take i order) m ≡ true) ⊎ ((c == m) ≡ true) → is_in (take i order) m ≡ true
        which (inl e) = e
        which (inr e) = grind (arith, nat_tests)

    by_cases : (levels : ℕ) → length (take i order) + 1 ≤ levels → (m ≡ c) ⊎ ((m == c) ≡ false) → get_or (set totals c value) m 0 ≡ capped (total_within holds own levels m)
    by_cases zero far (inl same) = absurd (omega (arith, far))
    by_cases (suc levels) far (inl same) =
        ap (λ n. get_or (set totals c value) n 0) same
        ∙ get_or-set_same totals c value 0 within
        ∙ is
        ∙ (λ j. capped (get_or own c 0 + sum_by (λ n. get_or (same_totals j) n 0) (same_held j)))
        ∙ capped_sum (λ n. get_or totals n 0) (total_within holds own levels) (get_or own c 0) (reads_of holds c) (λ n e. before levels n (omega (arith, far)) (in_all (take i order) (reads_of holds c) n (ordered_at holds [] order i lt o) e))
        ∙ ap (λ n. capped (total_within holds own (suc levels) n)) (sym same)
    by_cases levels far (inr apart) = get_or-set_other totals c m value 0 (λ e. absurd (false≢true (sym apart ∙ ap (λ n. n == c) e ∙ self_same c))) ∙ before levels m (omega (arith, far)) (earlier apart)
