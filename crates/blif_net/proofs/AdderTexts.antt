-- Texts, written number by number.
use Rattle.std.proofs.Common.{◌≡◌, ℕ, zero, suc, ◌+◌, append_assoc, List, [], ◌∷◌, ◌++◌, sym, ap, ◌∙◌, arith}
use Rattle.std.specs.List.{flat_map, range_with_len}
use Rattle.std.proofs.lemmas.List.{flat_map_more}

-- one more number
range_more : (from n j : ℕ) → from + n ≡ j → range_with_len from (suc n) ≡ range_with_len from n ++ j ∷ []
range_more from zero j e = let same : from ≡ j = omega (arith, e) in ap (λ i. i ∷ []) same
range_more from (suc n) j e = ap (λ (rest : List ℕ). from ∷ rest) (range_more (from + 1) n j (omega (arith, e)))

pub one_more_number : (f : ℕ → List ℕ) (n : ℕ) (start before after : List ℕ) → before ≡ start ++ flat_map f (range_with_len 0 n) → after ≡ before ++ f n
    → after ≡ start ++ flat_map f (range_with_len 0 (n + 1))
one_more_number f n start before after so_far next =
    let more : suc n ≡ n + 1 = omega arith in
    next ∙ ap (λ text. text ++ f n) so_far ∙ flat_map_more f start (range_with_len 0 n) n
    ∙ ap (λ numbers. start ++ flat_map f numbers) (sym (range_more 0 n n (omega arith)))
    ∙ ap (λ count. start ++ flat_map f (range_with_len 0 count)) more

-- the names of a bit's outputs
pub bit_outputs : (sum zeros complement : List ℕ)
    → 32 ∷ 115 ∷ (sum ++ 32 ∷ 100 ∷ (zeros ++ 32 ∷ 110 ∷ complement)) ≡ (32 ∷ 115 ∷ sum) ++ (32 ∷ 100 ∷ zeros) ++ (32 ∷ 110 ∷ complement)
bit_outputs sum zeros complement = simp append_assoc
