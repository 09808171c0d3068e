-- Lists of numbers of which none stands twice.
use Rattle.std.proofs.Common.{◌≡◌, ℕ, ◌==◌, ◌<◌, ◌≤◌, ◌&&◌, ◌||◌, Bool, true, false, cond, not, List, [], ◌∷◌, filter, length, nat_lt, refl, ap, sym, ◌∙◌, subst, ⊎_elim, arith}
use Rattle.std.specs.Prelude.{nat_eq}
use Rattle.std.specs.Cmp.{IsEquivalence}
use Rattle.std.specs.List.{AllByRecursion, IsDistinct}
use Rattle.std.specs.List.Sorted.{IsNonDecreasing, IsPermutation}
use Rattle.std.specs.Set.{is_member}
use Rattle.std.proofs.lemmas.Bool.{false≢true, or_right}
use Rattle.std.proofs.lemmas.Bool.Decides.{nat_tests}
use Rattle.std.proofs.lemmas.List.Sorted.{IsNonDecreasingBy-drop}
use Rattle.std.proofs.lemmas.Map.Keys.{IsDistinct-IsPermutation}
use Rattle.std.proofs.lemmas.Map.Made.{length-le_from_is_member}
use Rattle.blif_order.specs.Orders.{is_in}
use Rattle.blif_order.proofs.Walks.{or_cases, own, same_number}
use Rattle.blif_formals.specs.Joining.{is_once, is_rising}

pub flips : (a b : ℕ) → nat_eq a b ≡ nat_eq b a
flips a b = by_cases (nat_eq a b) refl (nat_eq b a) refl
  where
    by_cases : (s : Bool) → nat_eq a b ≡ s → (t : Bool) → nat_eq b a ≡ t → s ≡ t
    by_cases true e true f = refl
    by_cases false e false f = refl
    by_cases true e false f = absurd (false≢true (sym f ∙ subst (λ k. nat_eq k a ≡ true) (same_number a b e) (own a)))
    by_cases false e true f = absurd (false≢true (sym e ∙ subst (λ k. nat_eq k b ≡ true) (same_number b a f) (own b)))

same_tests : IsEquivalence nat_eq
same_tests = record {
  refl = own;
  symm = flips;
  congr = λ x y z e. ap (λ k. nat_eq k z) (same_number x y e);
}

member : (xs : List ℕ) (n : ℕ) → is_member nat_eq xs n ≡ is_in xs n
member [] n = refl
member (x ∷ xs) n = λ j. flips n x j || member xs n j

apart : (n : ℕ) (ns : List ℕ) → is_in ns n ≡ false → AllByRecursion (λ m. nat_eq n m ≡ false) ns
apart n [] e = tt
apart n (m ∷ ns) e = by_cases (m == n) refl e (apart n ns)
  where
    by_cases : (t : Bool) → (m == n) ≡ t → (t || is_in ns n) ≡ false → (is_in ns n ≡ false → AllByRecursion (λ k. nat_eq n k ≡ false) ns) → (nat_eq n m ≡ false) × AllByRecursion (λ k. nat_eq n k ≡ false) ns
    by_cases true f g more = absurd (false≢true (sym g))
    by_cases false f g more = (flips n m ∙ f, more g)

distinct : (ns : List ℕ) → is_once ns ≡ true → IsDistinct nat_eq ns
unfolding IsDistinct
distinct [] e = tt
distinct (n ∷ ns) e = by_cases (is_in ns n) refl e (distinct ns)
  where
    by_cases : (t : Bool) → is_in ns n ≡ t → (not t && is_once ns) ≡ true → (is_once ns ≡ true → IsDistinct nat_eq ns) → AllByRecursion (λ m. nat_eq n m ≡ false) ns × IsDistinct nat_eq ns
    by_cases true f g more = absurd (false≢true g)
    by_cases false f g more = (apart n ns f, more g)

absent : (n : ℕ) (ns : List ℕ) → AllByRecursion (λ m. nat_eq n m ≡ false) ns → is_in ns n ≡ false
absent n [] a = refl
absent n (m ∷ ns) a = λ j. (flips m n ∙ a.0) j || absent n ns a.1 j

once : (ns : List ℕ) → IsDistinct nat_eq ns → is_once ns ≡ true
unfolding IsDistinct
once [] d = refl
once (n ∷ ns) d = λ j. not (absent n ns d.0 j) && once ns d.1 j

-- numbers stay apart where they change their places
pub once_moved : (xs ys : List ℕ) → IsPermutation xs ys → IsPermutation ys xs → is_once xs ≡ is_once ys
once_moved xs ys moved back = by_cases (is_once xs) refl (is_once ys) refl
  where
    by_cases : (s : Bool) → is_once xs ≡ s → (t : Bool) → is_once ys ≡ t → s ≡ t
    by_cases true e true f = refl
    by_cases false e false f = refl
    by_cases true e false f = sym (sym f ∙ once ys (IsDistinct-IsPermutation nat_eq flips xs ys moved (distinct xs e)))
    by_cases false e true f = sym e ∙ once xs (IsDistinct-IsPermutation nat_eq flips ys xs back (distinct ys f))

-- none is longer than a list in which its numbers stand
pub no_longer : (xs ys : List ℕ) → is_once xs ≡ true → ((n : ℕ) → is_in xs n ≡ true → is_in ys n ≡ true) → length xs ≤ length ys
no_longer xs ys e h = length-le_from_is_member same_tests xs ys (distinct xs e) (λ n f. member ys n ∙ h n (sym (member xs n) ∙ f))

-- numbers in order stand once where they rise

above : (n m : ℕ) (ns : List ℕ) → n < m → IsNonDecreasing (m ∷ ns) → is_in (m ∷ ns) n ≡ false
above n m [] lt up =
    let test : (m == n) ≡ false = grind (arith, nat_tests) in
    ap (λ b. b || false) test
above n m (k ∷ ns) lt up =
    let test : (m == n) ≡ false = grind (arith, nat_tests) in
    let next : m ≤ k = up 0 1 0 (omega arith) (omega arith) in
    λ j. test j || above n k ns (omega (arith, lt, next)) (IsNonDecreasingBy-drop (λ x. x) 1 (m ∷ k ∷ ns) up) j

pub once_rising : (ns : List ℕ) → IsNonDecreasing ns → is_once ns ≡ is_rising ns
once_rising [] up = refl
once_rising (n ∷ []) up = refl
once_rising (n ∷ m ∷ ns) up = by_cases (nat_lt n m) refl (once_rising (m ∷ ns) (IsNonDecreasingBy-drop (λ x. x) 1 (n ∷ m ∷ ns) up))
  where
    by_cases : (t : Bool) → nat_lt n m ≡ t → is_once (m ∷ ns) ≡ is_rising (m ∷ ns) → is_once (n ∷ m ∷ ns) ≡ (t && is_rising (m ∷ ns))
    by_cases true e more =
        let lt : n < m = grind (arith, nat_tests) in
        (λ j. not (above n m ns lt (IsNonDecreasingBy-drop (λ x. x) 1 (n ∷ m ∷ ns) up) j) && is_once (m ∷ ns)) ∙ more
    by_cases false e more =
        let le : n ≤ m = up 0 1 0 (omega arith) (omega arith) in
        let same : (m == n) ≡ true = grind (arith, nat_tests) in
        λ j. not (same j || is_in ns n) && is_once (m ∷ ns)

-- what is left of a list

pub in_filter : (p : ℕ → Bool) (ns : List ℕ) (n : ℕ) → is_in (filter p ns) n ≡ true → (is_in ns n ≡ true) × (p n ≡ true)
in_filter p [] n e = absurd (false≢true e)
in_filter p (m ∷ ns) n e = by_cases (p m) refl e (in_filter p ns n)
  where
    later : (is_in ns n ≡ true) × (p n ≡ true) → (is_in (m ∷ ns) n ≡ true) × (p n ≡ true)
    later h = (or_right (m == n) (is_in ns n) h.0, h.1)

    by_cases : (t : Bool) → p m ≡ t → is_in (cond t (m ∷ filter p ns) (filter p ns)) n ≡ true → (is_in (filter p ns) n ≡ true → (is_in ns n ≡ true) × (p n ≡ true)) → (is_in (m ∷ ns) n ≡ true) × (p n ≡ true)
    by_cases true f g more =
        ⊎_elim (λ same. (ap (λ b. b || is_in ns n) same, subst (λ k. p k ≡ true) (same_number m n same) f)) (λ rest. later (more rest)) (or_cases (m == n) (is_in (filter p ns) n) g)
    by_cases false f g more = later (more g)

pub filter_in : (p : ℕ → Bool) (ns : List ℕ) (n : ℕ) → is_in ns n ≡ true → p n ≡ true → is_in (filter p ns) n ≡ true
filter_in p [] n e f = e
filter_in p (m ∷ ns) n e f = by_cases (p m) refl (λ rest. filter_in p ns n rest f)
  where
    by_cases : (t : Bool) → p m ≡ t → (is_in ns n ≡ true → is_in (filter p ns) n ≡ true) → is_in (cond t (m ∷ filter p ns) (filter p ns)) n ≡ true
    by_cases true g more = ⊎_elim (λ same. ap (λ b. b || is_in (filter p ns) n) same) (λ rest. or_right (m == n) (is_in (filter p ns) n) (more rest)) (or_cases (m == n) (is_in ns n) e)
    by_cases false g more = ⊎_elim (λ same. absurd (false≢true (sym g ∙ subst (λ k. p k ≡ true) (sym (same_number m n same)) f))) more (or_cases (m == n) (is_in ns n) e)

none_in : (p : ℕ → Bool) (ns : List ℕ) (n : ℕ) → is_in ns n ≡ false → is_in (filter p ns) n ≡ false
none_in p ns n e = by_cases (is_in (filter p ns) n) refl
  where
    by_cases : (t : Bool) → is_in (filter p ns) n ≡ t → t ≡ false
    by_cases true f = sym (in_filter p ns n f).0 ∙ e
    by_cases false f = refl

pub once_filter : (p : ℕ → Bool) (ns : List ℕ) → is_once ns ≡ true → is_once (filter p ns) ≡ true
once_filter p [] e = refl
once_filter p (n ∷ ns) e = by_cases (is_in ns n) refl e (once_filter p ns) (p n)
  where
    by_cases : (t : Bool) → is_in ns n ≡ t → (not t && is_once ns) ≡ true → (is_once ns ≡ true → is_once (filter p ns) ≡ true) → (s : Bool) → is_once (cond s (n ∷ filter p ns) (filter p ns)) ≡ true
    by_cases true f g more s = absurd (false≢true g)
    by_cases false f g more true = λ j. not (none_in p ns n f j) && more g j
    by_cases false f g more false = more g
