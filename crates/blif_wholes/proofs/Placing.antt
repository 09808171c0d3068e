-- Signals of covers that are taken one by one in an order that has each once.
use Rattle.std.proofs.Common.{◌≡◌, ℕ, zero, suc, ◌+◌, ◌==◌, ◌<◌, Bool, true, false, List, [], ◌∷◌, length, get_or, set, Some, refl, ap, sym, ◌∙◌, arith}
use Rattle.std.specs.Prelude.{slice_get}
use Rattle.std.proofs.lemmas.Bool.{false≢true, or_left, or_right}
use Rattle.std.proofs.lemmas.Bool.Decides.{nat_tests}
use Rattle.std.proofs.lemmas.Option.{same_Some, slice_get-get_or}
use Rattle.blif_order.specs.Orders.{Once, is_in}
use Rattle.blif_order.proofs.Walks.{own}

pub got_in : (xs : List ℕ) (q c : ℕ) → slice_get xs q ≡ Some c → is_in xs c ≡ true
got_in [] q c h = cc
got_in (x ∷ xs) zero c h = or_left (x == c) (is_in xs c) (ap (λ n. n == c) (same_Some x c h) ∙ own c)
got_in (x ∷ xs) (suc q) c h = or_right (x == c) (is_in xs c) (got_in xs q c h)

-- no number stands at two places
pub once_apart : (order : List ℕ) → Once order → (p q c : ℕ) → slice_get order p ≡ Some c → slice_get order q ≡ Some c → p ≡ q
once_apart [] o p q c h k = cc
once_apart (x ∷ order) o zero zero c h k = refl
once_apart (x ∷ order) o zero (suc q) c h k = let same : x ≡ c = cc in absurd (false≢true (sym o.0 ∙ ap (is_in order) same ∙ got_in order q c k))
once_apart (x ∷ order) o (suc p) zero c h k = let same : x ≡ c = cc in absurd (false≢true (sym o.0 ∙ ap (is_in order) same ∙ got_in order p c h))
once_apart (x ∷ order) o (suc p) (suc q) c h k = ap suc (once_apart order o.1 p q c h k)

get_set : (xs : List ℕ) (i v : ℕ) → i < length xs → slice_get (set xs i v) i ≡ Some v
get_set [] i v h = absurd (omega (arith, h))
get_set (x ∷ xs) zero v h = refl
get_set (x ∷ xs) (suc i) v h = get_set xs i v (omega (arith, h))

get_other : (xs : List ℕ) (i j v : ℕ) → (j ≡ i → ⊥) → slice_get (set xs i v) j ≡ slice_get xs j
get_other [] i j v h = refl
get_other (x ∷ xs) zero zero v h = absurd (h refl)
get_other (x ∷ xs) zero (suc j) v h = refl
get_other (x ∷ xs) (suc i) zero v h = refl
get_other (x ∷ xs) (suc i) (suc j) v h = get_other xs i j v (λ e. h (ap suc e))

-- one more cover has its signal
pub placed_more : (order xs : List ℕ) (i first signal : ℕ) → Once order → i < length order → get_or order i 0 < length xs → signal ≡ first + i
    → ((p c : ℕ) → p < i → slice_get order p ≡ Some c → slice_get xs c ≡ Some (first + p))
    → (p c : ℕ) → p < i + 1 → slice_get order p ≡ Some c → slice_get (set xs (get_or order i 0) signal) c ≡ Some (first + p)
placed_more order xs i first signal o lt room e before p c h k = by_cases (p == i) refl
  where
    is_same : (p == i) ≡ true → p ≡ i
    is_same f = grind (arith, nat_tests)

    is_less : (p == i) ≡ false → p < i
    is_less f = grind (arith, nat_tests, h)

    by_cases : (b : Bool) → (p == i) ≡ b → slice_get (set xs (get_or order i 0) signal) c ≡ Some (first + p)
    by_cases true f =
        let same : Some c ≡ Some (get_or order i 0) = sym k ∙ ap (slice_get order) (is_same f) ∙ slice_get-get_or order i 0 lt in
        let here : c ≡ get_or order i 0 = cc in
        ap (slice_get (set xs (get_or order i 0) signal)) here ∙ get_set xs (get_or order i 0) signal room ∙ ap Some (e ∙ ap (λ n. first + n) (sym (is_same f)))
    by_cases false f =
        get_other xs (get_or order i 0) c signal (λ s. differs (is_less f) (once_apart order o p i c k (slice_get-get_or order i 0 lt ∙ ap Some (sym s)))) ∙ before p c (is_less f) k
      where
        differs : p < i → p ≡ i → ⊥
        differs a b = omega (arith, a, b)
