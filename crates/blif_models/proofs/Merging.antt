-- Two lists by rising lines are one by lines.
use Rattle.std.proofs.Common.{◌≡◌, ℕ, zero, suc, ◌+◌, ◌<◌, ◌≤◌, Bool, true, false, List, [], ◌∷◌, ◌++◌, Some, length, drop, get_or, append_assoc, nat_lt, refl, ap, sym, ◌∙◌, subst, arith, if◌then◌else◌}
use Rattle.std.specs.Prelude.{slice_get}
use Rattle.std.proofs.lemmas.Bool.{false≢true}
use Rattle.std.proofs.lemmas.Bool.Decides.{nat_tests}
use Rattle.std.proofs.lemmas.Option.{slice_get-get_or}
use Rattle.blif_models.specs.declared.limits.Adding.{Adding}
use Rattle.blif_models.specs.Additions.{AreFrom, AreRising, goes_first}
use Rattle.blif_models.specs.ModelFaults.{by_line, put_by_line}

from_less : (n m : ℕ) (xs : List Adding) → n ≤ m → AreFrom m xs → AreFrom n xs
from_less n m [] le h = tt
from_less n m (x ∷ xs) le h = (omega (arith, le, h.0), from_less n m xs le h.1)

from_both : (n : ℕ) (xs ys : List Adding) → AreFrom n xs → AreFrom n ys → AreFrom n (xs ++ ys)
from_both n [] ys h k = k
from_both n (x ∷ xs) ys h k = (h.0, from_both n xs ys h.1 k)

not_lower : (a b : ℕ) → a ≤ b → nat_lt b a ≡ false
not_lower a b le = grind (arith, nat_tests)

lower : (a b : ℕ) → b < a → nat_lt b a ≡ true
lower a b lt = grind (arith, nat_tests)

from_put : (n : ℕ) (one : Adding) (xs : List Adding) → n ≤ one.line → AreFrom n xs → AreFrom n (put_by_line one xs)
from_put n one [] le h = (le, tt)
from_put n one (x ∷ xs) le h = by_cases (nat_lt x.line one.line)
    (from_put n one xs le h.1)
  where
    by_cases : (b : Bool) → AreFrom n (put_by_line one xs) → AreFrom n (if b then x ∷ put_by_line one xs else one ∷ (x ∷ xs))
    by_cases true rest = (h.0, rest)
    by_cases false rest = (le, h)

from_by_line : (n : ℕ) (xs : List Adding) → AreFrom n xs → AreFrom n (by_line xs)
from_by_line n [] h = tt
from_by_line n (x ∷ xs) h = from_put n x (by_line xs) h.0 (from_by_line n xs h.1)

put_least : (one : Adding) (xs : List Adding) → AreFrom one.line xs → put_by_line one xs ≡ one ∷ xs
put_least one [] h = refl
put_least one (x ∷ xs) h = ap (λ (b : Bool). if b then x ∷ put_by_line one xs else one ∷ (x ∷ xs)) (not_lower one.line x.line h.0)

-- the first of the one list comes first
first_one : (a : Adding) (front back : List Adding) → AreRising (a ∷ front) → AreRising back → goes_first (Some a) (slice_get back 0) ≡ true → by_line (a ∷ (front ++ back)) ≡ a ∷ by_line (front ++ back)
first_one a front back ra rb e = put_least a (by_line (front ++ back)) (from_by_line a.line (front ++ back) (from_both a.line front back (from_less a.line (suc a.line) front (omega arith) ra.0) (rest back rb e)))
  where
    rest : (back : List Adding) → AreRising back → goes_first (Some a) (slice_get back 0) ≡ true → AreFrom a.line back
    rest [] r f = tt
    rest (b ∷ back) r f = let le : a.line ≤ b.line = grind (arith, nat_tests) in (le, from_less a.line (suc b.line) back (omega (arith, le)) r.0)

-- the first of the other
first_other : (front : List Adding) (b : Adding) (back : List Adding) → AreRising front → AreRising (b ∷ back) → goes_first (slice_get front 0) (Some b) ≡ false → by_line (front ++ b ∷ back) ≡ b ∷ by_line (front ++ back)
first_other front b back ra rb e = passed front (later front ra e)
  where
    later : (front : List Adding) → AreRising front → goes_first (slice_get front 0) (Some b) ≡ false → AreFrom (suc b.line) front
    later [] r f = tt
    later (a ∷ front) r f = let lt : b.line < a.line = grind (arith, nat_tests) in (omega (arith, lt), from_less (suc b.line) (suc a.line) front (omega (arith, lt)) r.0)

    passed : (front : List Adding) → AreFrom (suc b.line) front → by_line (front ++ b ∷ back) ≡ b ∷ by_line (front ++ back)
    passed [] h = put_least b (by_line back) (from_by_line b.line back (from_less b.line (suc b.line) back (omega arith) rb.0))
    passed (a ∷ front) h =
        ap (put_by_line a) (passed front h.1)
        ∙ ap (λ (t : Bool). if t then b ∷ put_by_line a (by_line (front ++ back)) else a ∷ (b ∷ by_line (front ++ back))) (lower a.line b.line (omega (arith, h.0)))

-- what is left of lists

rising_rest : (xs : List Adding) (i : ℕ) → AreRising xs → AreRising (drop i xs)
rising_rest xs zero r = r
rising_rest [] (suc i) r = tt
rising_rest (x ∷ xs) (suc i) r = rising_rest xs i r.1

rest_at : (xs : List Adding) (i : ℕ) (x : Adding) → slice_get xs i ≡ Some x → drop i xs ≡ x ∷ drop (i + 1) xs
rest_at [] i x e = cc
rest_at (y ∷ xs) zero x e = let same : y ≡ x = cc in ap (λ (t : Adding). t ∷ xs) same
rest_at (y ∷ xs) (suc i) x e = let same : suc (i + 1) ≡ suc i + 1 = omega arith in rest_at xs i x e ∙ ap (λ n. x ∷ drop n (y ∷ xs)) same

rest_first : (xs : List Adding) (i : ℕ) → slice_get (drop i xs) 0 ≡ slice_get xs i
rest_first xs zero = refl
rest_first [] (suc i) = refl
rest_first (x ∷ xs) (suc i) = rest_first xs i

-- the steps of the loop that merges

pub one_taken : (whole all ones others : List Adding) (i j : ℕ) (x : Adding) → AreRising ones → AreRising others → slice_get ones i ≡ Some x → goes_first (slice_get ones i) (slice_get others j) ≡ true → whole ≡ all ++ by_line (drop i ones ++ drop j others)
    → whole ≡ (all ++ x ∷ []) ++ by_line (drop (i + 1) ones ++ drop j others)
one_taken whole all ones others i j x r s at first is =
    let left = rest_at ones i x at in
    is
    ∙ ap (λ (xs : List Adding). all ++ xs) (ap (λ (xs : List Adding). by_line (xs ++ drop j others)) left
    ∙ first_one x (drop (i + 1) ones) (drop j others) (subst AreRising left (rising_rest ones i r)) (rising_rest others j s) ((λ k. goes_first (sym at k) (rest_first others j k)) ∙ first))
    ∙ sym (append_assoc all (x ∷ []) (by_line (drop (i + 1) ones ++ drop j others)))

pub other_taken : (whole all ones others : List Adding) (i j : ℕ) (x : Adding) → AreRising ones → AreRising others → slice_get others j ≡ Some x → goes_first (slice_get ones i) (slice_get others j) ≡ false → whole ≡ all ++ by_line (drop i ones ++ drop j others)
    → whole ≡ (all ++ x ∷ []) ++ by_line (drop i ones ++ drop (j + 1) others)
other_taken whole all ones others i j x r s at second is =
    let left = rest_at others j x at in
    is
    ∙ ap (λ (xs : List Adding). all ++ xs) (ap (λ (xs : List Adding). by_line (drop i ones ++ xs)) left
    ∙ first_other (drop i ones) x (drop (j + 1) others) (rising_rest ones i r) (subst AreRising left (rising_rest others j s)) ((λ k. goes_first (rest_first ones i k) (sym at k)) ∙ second))
    ∙ sym (append_assoc all (x ∷ []) (by_line (drop i ones ++ drop (j + 1) others)))

-- where the first list does not go on, the other does if anything is left
pub other_is_left : (ones others : List Adding) (i j : ℕ) → goes_first (slice_get ones i) (slice_get others j) ≡ false → i < length ones → j < length others
other_is_left [] others i j e lt = absurd (omega (arith, lt))
other_is_left (one ∷ ones) others zero j e lt = there others j e
  where
    there : (others : List Adding) (j : ℕ) → goes_first (Some one) (slice_get others j) ≡ false → j < length others
    there [] j f = absurd (false≢true (sym f))
    there (x ∷ xs) zero f = omega arith
    there (x ∷ xs) (suc j) f = omega (arith, there xs j f)
other_is_left (one ∷ ones) others (suc i) j e lt = other_is_left ones others i j e (omega (arith, lt))

pub one_is_left : (ones others : List Adding) (i j : ℕ) → goes_first (slice_get ones i) (slice_get others j) ≡ true → i < length ones
one_is_left [] others i j e = absurd (false≢true e)
one_is_left (one ∷ ones) others zero j e = omega arith
one_is_left (one ∷ ones) others (suc i) j e = omega (arith, one_is_left ones others i j e)

-- the same of what is pushed
pub one_pushed : (whole all ones others : List Adding) (i j : ℕ) (d : Adding) → AreRising ones → AreRising others → goes_first (slice_get ones i) (slice_get others j) ≡ true → whole ≡ all ++ by_line (drop i ones ++ drop j others)
    → (after : List Adding) → after ≡ all ++ get_or ones i d ∷ [] → whole ≡ after ++ by_line (drop (i + 1) ones ++ drop j others)
one_pushed whole all ones others i j d r s first is after e =
    one_taken whole all ones others i j (get_or ones i d) r s (slice_get-get_or ones i d (one_is_left ones others i j first)) first is ∙ (λ k. sym e k ++ by_line (drop (i + 1) ones ++ drop j others))

pub other_pushed : (whole all ones others : List Adding) (i j : ℕ) (d : Adding) → AreRising ones → AreRising others → j < length others → goes_first (slice_get ones i) (slice_get others j) ≡ false → whole ≡ all ++ by_line (drop i ones ++ drop j others)
    → (after : List Adding) → after ≡ all ++ get_or others j d ∷ [] → whole ≡ after ++ by_line (drop i ones ++ drop (j + 1) others)
other_pushed whole all ones others i j d r s lt second is after e =
    other_taken whole all ones others i j (get_or others j d) r s (slice_get-get_or others j d lt) second is ∙ (λ k. sym e k ++ by_line (drop i ones ++ drop (j + 1) others))
