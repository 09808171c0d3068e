-- The value of digits.
use Rattle.std.proofs.Common.{◌≡◌, ℕ, ◌+◌, ◌-◌, ◌*◌, ◌<◌, ◌==◌, ◌&&◌, ◌||◌, not, Bool, true, false, List, length, min, take, get_or, refl, ap, sym, ◌∙◌, arith}
use Rattle.std.specs.Prelude.{slice_index}
use Rattle.std.specs.List.{list_all}
use Rattle.std.specs.Char.{is_ascii_digit, digit_value}
use Rattle.std.specs.Str.Parse.{digits_value}
use Rattle.std.proofs.lemmas.Bool.{false≢true}
use Rattle.std.proofs.lemmas.Bool.Decides.{nat_tests}
use Rattle.std.proofs.lemmas.List.Folds.{list_all_at}
use Rattle.std.proofs.lemmas.Int.Digits.{digits_value_more}
use Rattle.job_words.specs.Text.{is_number}

pub all_at : (p : ℕ → Bool) (xs : List ℕ) (i : ℕ) → list_all p xs ≡ true → i < length xs → p (get_or xs i 0) ≡ true
all_at p xs i h k = by_cases (p (get_or xs i 0)) refl
  where
    by_cases : (b : Bool) → p (get_or xs i 0) ≡ b → p (get_or xs i 0) ≡ true
    by_cases true e = e
    by_cases false e = absurd (false≢true (sym (list_all_at p xs i 0 k e) ∙ h))

digit_lem : (c : ℕ) → is_ascii_digit c ≡ true → digit_value c ≡ c - 48
digit_lem c h = grind (arith, nat_tests)

capped : (v d digits : ℕ) → v ≡ min digits 100000000000000000 → min (v * 10 + d) 100000000000000000 ≡ min (digits * 10 + d) 100000000000000000
capped v d digits h = omega arith

pub digits_step : (word : List ℕ) (i v b : ℕ) → list_all is_ascii_digit word ≡ true → i < length word → v ≡ min (digits_value 10 (take i word)) 100000000000000000 → b ≡ get_or word i 0
    → min (v * 10 + (b - 48)) 100000000000000000 ≡ min (digits_value 10 (take (i + 1) word)) 100000000000000000
digits_step word i v b all h e at =
    let d : digit_value (get_or word i 0) ≡ get_or word i 0 - 48 = digit_lem (get_or word i 0) (all_at is_ascii_digit word i all h) in
    capped v (b - 48) (digits_value 10 (take i word)) e
    ∙ ap (λ t. min (digits_value 10 (take i word) * 10 + t) 100000000000000000) (ap (λ t. t - 48) at ∙ sym d)
    ∙ ap (λ t. min t 100000000000000000) (sym (digits_value_more 10 word i h))

-- a number has digits
and_true : (a b c : Bool) → (a && b && c) ≡ true → b ≡ true
and_true true true c h = refl
and_true true false c h = h
and_true false b c h = absurd (false≢true h)

pub digits_in : (word : List ℕ) → is_number word ≡ true → list_all is_ascii_digit word ≡ true
unfolding is_number
digits_in word h = and_true (not (length word == 0)) (list_all is_ascii_digit word) (not (slice_index word 0 == 48) || length word == 1) h
