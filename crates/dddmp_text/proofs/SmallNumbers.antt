-- Numbers below 2 ^ 31, as job_words reads them.
use Rattle.std.proofs.Common.{◌≡◌, ℕ, suc, ◌-◌, ◌<◌, ◌≤◌, ◌^◌, ◌==◌, nat_le, nat_lt, Bool, true, false, ◌&&◌, [], ◌∷◌, ℤ, pos, negsuc, neg_ℤ, min, drop, nat_abs, refl, sym, ◌∙◌, ap, arith, if◌then◌else◌}
use Rattle.std.specs.Prelude.{int_le, int_lt}
use Rattle.std.specs.Char.{is_ascii_digit}
use Rattle.std.specs.List.{list_all}
use Rattle.std.specs.Str.Parse.{digits_value}
use Rattle.std.proofs.lemmas.Bool.Decides.{nat_tests}
use Rattle.edge_bits.specs.Permanent.{least_value, value_end}
use Rattle.job_words.specs.Text.{Word, integer_value, is_integer, is_negative, is_number}
use Rattle.dddmp_text.specs.Fields.{is_small, is_small_integer}
use Rattle.dddmp_text.proofs.Spelled.{and_first, and_second}

clash : {A : Type 0} → true ≡ false → A
clash c = cc

digit_sign : (b : ℕ) → is_ascii_digit b ≡ true → (b == 45) ≡ false
digit_sign b h = grind (arith, nat_tests)

not_negative : (word : Word) → is_number word ≡ true → is_negative word ≡ false
unfolding is_number
not_negative [] h = refl
not_negative (b ∷ rest) h = digit_sign b (and_first (is_ascii_digit b) (list_all is_ascii_digit rest) (and_second _ _ (and_first _ _ h)))

-- a number has no sign
number-value : (word : Word) → is_number word ≡ true → integer_value word ≡ pos (digits_value 10 word)
number-value word h =
    ap (λ (b : Bool). if b then neg_ℤ (pos (digits_value 10 (if b then drop 1 word else word))) else pos (digits_value 10 (if b then drop 1 word else word))) (not_negative word h)

less : (n m : ℕ) → n < m → nat_lt n m ≡ true
less n m h = grind (arith, nat_tests)

not-less : (n m : ℕ) → m ≤ n → nat_lt n m ≡ false
not-less n m h = grind (arith, nat_tests)

less_from : (n m : ℕ) → nat_lt n m ≡ true → n < m
less_from n m h = grind (arith, nat_tests)

not-less_from : (n m : ℕ) → nat_lt n m ≡ false → m ≤ n
not-less_from n m h = grind (arith, nat_tests)

le_from : (n m : ℕ) → nat_le n m ≡ false → m < n
le_from n m h = grind (arith, nat_tests)

pub no-number : (word : Word) → is_number word ≡ false → is_small word ≡ false
no-number word h = ap (λ b. b && nat_lt (digits_value 10 word) (2 ^ 31)) h

pub small-number : (word : Word) (value : ℕ) → is_number word ≡ true → value ≡ min (digits_value 10 word) 4000000000 → value < 2 ^ 31 → (is_small word ≡ true) × (integer_value word ≡ pos value)
small-number word value h is below =
    let same : value ≡ digits_value 10 word = omega (arith, is, below) in
    let under : digits_value 10 word < 2 ^ 31 = omega (arith, same, below) in
    (ap (λ b. b && nat_lt (digits_value 10 word) (2 ^ 31)) h ∙ less (digits_value 10 word) (2 ^ 31) under, number-value word h ∙ ap pos (sym same))

pub great-number : (word : Word) (value : ℕ) → is_number word ≡ true → value ≡ min (digits_value 10 word) 4000000000 → 2 ^ 31 ≤ value → is_small word ≡ false
great-number word value h is above =
    let over : 2 ^ 31 ≤ digits_value 10 word = omega (arith, is, above) in
    ap (λ b. b && nat_lt (digits_value 10 word) (2 ^ 31)) h ∙ not-less (digits_value 10 word) (2 ^ 31) over

-- what is out of the range that job_words reads is no small number
pub out-of-range : (z : ℤ) (bound : ℕ) → bound ≤ 2 ^ 31 → (int_le least_value z && int_lt z value_end) ≡ false → nat_lt (nat_abs z) bound ≡ false
out-of-range (pos n) bound few h = not-less n bound (let far = not-less_from n (2 ^ 46) h in omega (arith, far, few))
out-of-range (negsuc n) bound few h = by_test (nat_le n (2 ^ 46 - 1)) refl
  where
    by_test : (b : Bool) → nat_le n (2 ^ 46 - 1) ≡ b → nat_lt (suc n) bound ≡ false
    by_test true e = clash (sym (ap (λ b. b && true) e) ∙ h)
    by_test false e = not-less (suc n) bound (let far = le_from n (2 ^ 46 - 1) e in omega (arith, far, few))

pub no-integer : (word : Word) → is_integer word ≡ false → is_small_integer word ≡ false
no-integer word h = ap (λ b. b && nat_lt (nat_abs (integer_value word)) (2 ^ 31)) h

pub small-integer : (word : Word) (b : Bool) → is_integer word ≡ true → nat_lt (nat_abs (integer_value word)) (2 ^ 31) ≡ b → is_small_integer word ≡ b
small-integer word b h e = ap (λ t. t && nat_lt (nat_abs (integer_value word)) (2 ^ 31)) h ∙ e
