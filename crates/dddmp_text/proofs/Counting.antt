-- A count over the numbers below one more, and lines that are counted on.
use Rattle.std.proofs.Common.{◌≡◌, ◌≤◌, ℕ, zero, suc, ◌+◌, Bool, List, [], ◌∷◌, ◌++◌, length, ap, sym, ◌∙◌, arith, if◌then◌else◌, add-zero, add-one, zero-add}
use Rattle.std.proofs.lemmas.List.Sums.{count_by-le-length, sum_by-append}
use Rattle.std.proofs.lemmas.List.FromFn.{length-range_with_len}
use Rattle.std.specs.List.{count_by, enumerate_from, range_with_len}

range-more : (a n : ℕ) → range_with_len a (suc n) ≡ range_with_len a n ++ (a + n) ∷ []
range-more a zero = ap (λ x. x ∷ []) (sym (add-zero a))
range-more a (suc n) =
    let shift : (a + 1) + n ≡ a + suc n = omega arith in
    ap (λ xs. a ∷ xs) (range-more (a + 1) n ∙ ap (λ x. range_with_len (a + 1) n ++ x ∷ []) shift)

-- of the numbers below n + 1
pub count-more : (p : ℕ → Bool) (n : ℕ) → count_by p (range_with_len 0 (n + 1)) ≡ count_by p (range_with_len 0 n) + (if p n then 1 else 0)
count-more p n =
    ap (λ k. count_by p (range_with_len 0 k)) (add-one n) ∙ ap (count_by p) (range-more 0 n ∙ ap (λ x. range_with_len 0 n ++ x ∷ []) (zero-add n))
    ∙ sum_by-append (λ x. if p x then 1 else 0) (range_with_len 0 n) (n ∷ []) ∙ ap (λ x. count_by p (range_with_len 0 n) + x) (zero-add (if p n then 1 else 0))

-- a count that goes one number further
pub count-step : (p : ℕ → Bool) (n before after : ℕ) (b : Bool) → before ≡ count_by p (range_with_len 0 n) → p n ≡ b → after ≡ before + (if b then 1 else 0)
    → after ≡ count_by p (range_with_len 0 (n + 1))
count-step p n before after b counted test next =
    next ∙ ap (λ k. k + (if b then 1 else 0)) counted ∙ ap (λ c. count_by p (range_with_len 0 n) + (if c then 1 else 0)) (sym test) ∙ sym (count-more p n)

-- it counts no more than there are
pub count-most : (p : ℕ → Bool) (n : ℕ) → count_by p (range_with_len 0 n) ≤ n
count-most p n = omega (arith, count_by-le-length p (range_with_len 0 n), length-range_with_len 0 n)

pub enumerate-append : {X : Type 0} (n : ℕ) (xs ys : List X) → enumerate_from n (xs ++ ys) ≡ enumerate_from n xs ++ enumerate_from (n + length xs) ys
enumerate-append n [] ys = ap (λ k. enumerate_from k ys) (sym (add-zero n))
enumerate-append n (x ∷ xs) ys =
    let shift : (n + 1) + length xs ≡ n + suc (length xs) = omega arith in
    ap (λ rest. (n, x) ∷ rest) (enumerate-append (n + 1) xs ys ∙ ap (λ k. enumerate_from (n + 1) xs ++ enumerate_from k ys) shift)
