-- An order that has each number once is a permutation, and so is what it picks of a list.
use Rattle.std.proofs.Common.{◌≡◌, ℕ, zero, suc, ◌+◌, ◌==◌, ◌<◌, ◌||◌, Bool, true, false, List, [], ◌∷◌, ◌++◌, inl, inr, refl, ap, sym, ◌∙◌, subst, arith}
use Rattle.std.specs.Prelude.{◌⊎◌, IsPermutation}
use Rattle.std.specs.List.{range_with_len}
use Rattle.std.proofs.lemmas.Bool.{false≢true}
use Rattle.std.proofs.lemmas.Bool.Decides.{nat_tests}
use Rattle.std.proofs.lemmas.List.Sorted.{IsPermutation-cons, IsPermutation-middle, IsPermutation-refl, IsPermutation-sym, IsPermutation-trans}
use Rattle.blif_order.specs.Orders.{Once, is_in}
use Rattle.blif_order.proofs.Walks.{or_cases, or_false, own, same_number}

turned : (a b : ℕ) → (a == b) ≡ false → (b == a) ≡ false
turned a b e = grind (arith, nat_tests)

-- where a number stands
pub split_at : (c : ℕ) (ys : List ℕ) → is_in ys c ≡ true → (front back : List ℕ) × (ys ≡ front ++ c ∷ back)
split_at c [] h = absurd (false≢true h)
split_at c (y ∷ ys) h = by_kind (or_cases (y == c) (is_in ys c) h) (λ k. split_at c ys k)
  where
    by_kind : ((y == c) ≡ true) ⊎ (is_in ys c ≡ true) → (is_in ys c ≡ true → (front back : List ℕ) × (ys ≡ front ++ c ∷ back)) → (front back : List ℕ) × (y ∷ ys ≡ front ++ c ∷ back)
    by_kind (inl e) more = ([], ys, ap (λ t. t ∷ ys) (same_number y c e))
    by_kind (inr e) more = let rest = more e in (y ∷ rest.0, rest.1, ap (λ t. y ∷ t) rest.2)

in_middle : (front back : List ℕ) (c d : ℕ) → is_in (front ++ c ∷ back) d ≡ ((c == d) || is_in (front ++ back) d)
in_middle [] back c d = refl
in_middle (x ∷ front) back c d = ap (λ b. (x == d) || b) (in_middle front back c d) ∙ swapped (x == d) (c == d) (is_in (front ++ back) d)
  where
    swapped : (a b t : Bool) → (a || (b || t)) ≡ (b || (a || t))
    swapped true true t = refl
    swapped true false t = refl
    swapped false b t = refl

once_middle : (front back : List ℕ) (c : ℕ) → Once (front ++ c ∷ back) → Once (front ++ back) × (is_in (front ++ back) c ≡ false)
once_middle [] back c h = (h.1, h.0)
once_middle (x ∷ front) back c h =
    let both = or_false (c == x) (is_in (front ++ back) x) (sym (in_middle front back c x) ∙ h.0) in
    let rest = once_middle front back c h.1 in
    ((both.1, rest.0), ap (λ b. b || is_in (front ++ back) c) (turned c x both.0) ∙ rest.1)

-- two lists with the same numbers, each once
pub same_numbers : (xs ys : List ℕ) → Once xs → Once ys → ((c : ℕ) → is_in xs c ≡ is_in ys c) → IsPermutation xs ys
same_numbers [] [] o o' h = IsPermutation-refl []
same_numbers [] (y ∷ ys) o o' h = absurd (false≢true (h y ∙ ap (λ b. b || is_in ys y) (own y)))
same_numbers (x ∷ xs) ys o o' h =
    let at = split_at x ys (sym (h x) ∙ ap (λ b. b || is_in xs x) (own x)) in
    let once = once_middle at.0 at.1 x (subst Once at.2 o') in
    let same : (c : ℕ) → is_in xs c ≡ is_in (at.0 ++ at.1) c =
    λ c. strip (x == c) (is_in xs c) (is_in (at.0 ++ at.1) c) (h c ∙ ap (λ (t : List ℕ). is_in t c) at.2 ∙ in_middle at.0 at.1 x c)
    (λ e. subst (λ (t : ℕ). is_in xs t ≡ false) (same_number x c e) o.0) (λ e. subst (λ (t : ℕ). is_in (at.0 ++ at.1) t ≡ false) (same_number x c e) once.1) refl in
    IsPermutation-trans (x ∷ xs) (x ∷ (at.0 ++ at.1)) ys (IsPermutation-cons x xs (at.0 ++ at.1) (same_numbers xs (at.0 ++ at.1) o.1 once.0 same))
    (IsPermutation-sym ys (x ∷ (at.0 ++ at.1)) (subst (λ (t : List ℕ). IsPermutation t (x ∷ (at.0 ++ at.1))) (sym at.2) (IsPermutation-middle at.0 x at.1)))
  where
    strip : (b p q : Bool) → (b || p) ≡ (b || q) → (b ≡ true → p ≡ false) → (b ≡ true → q ≡ false) → b ≡ b → p ≡ q
    strip true p q e f g r = f refl ∙ sym (g refl)
    strip false p q e f g r = e

pub range_once : (a n : ℕ) → Once (range_with_len a n)
range_once a zero = tt
range_once a (suc n) = (not_later (a + 1) n a (omega arith), range_once (a + 1) n)
  where
    not_later : (b m c : ℕ) → c < b → is_in (range_with_len b m) c ≡ false
    not_later b zero c h = refl
    not_later b (suc m) c h = ap (λ t. t || is_in (range_with_len (b + 1) m) c) (differ b c h) ∙ not_later (b + 1) m c (omega (arith, h))
      where
        differ : (p q : ℕ) → q < p → (p == q) ≡ false
        differ p q k = grind (arith, nat_tests)
