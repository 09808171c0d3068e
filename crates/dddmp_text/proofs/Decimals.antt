-- Numbers in decimal are words, and are read again.
use Rattle.std.proofs.Common.{◌≡◌, ℕ, suc, ◌+◌, ◌<◌, ◌≤◌, ◌^◌, ◌/◌, ◌%◌, ◌==◌, nat_lt, Bool, true, false, not, ◌&&◌, ◌||◌, List, [], ◌∷◌, ◌++◌, ℤ, pos, negsuc, length, get_or, refl, ◌∙◌, ap, arith, length-append, nat_abs, drop, if◌then◌else◌, neg_ℤ}
use Rattle.std.specs.List.{list_all}
use Rattle.std.specs.Char.{is_ascii_digit}
use Rattle.std.specs.Fmt.{decimal, signed_decimal}
use Rattle.std.specs.Str.Parse.{digits_value}
use Rattle.std.proofs.Math.ListN.{get_or-append}
use Rattle.std.proofs.Math.Bool.{or-true}
use Rattle.std.proofs.lemmas.Bool.{eq-eqb}
use Rattle.std.proofs.lemmas.Bool.Decides.{nat_tests}
use Rattle.std.proofs.lemmas.Fmt.{decimal_by_steps, decimal_is_IsNumeral}
use Rattle.std.proofs.lemmas.List.Folds.{list_all-append}
use Rattle.job_words.specs.Text.{is_number, is_integer, integer_value}

-- a word's bytes: none is a separator or a line feed
abbrev pub is_word : List ℕ → Bool
is_word word = not (length word == 0) && list_all (λ b. nat_lt 32 b) word

pub not_none : (n : ℕ) → 0 < n → not (n == 0) ≡ true
not_none n h = grind (arith, nat_tests)

-- what is known of the digits of a number
record Digits (n : ℕ) (ds : List ℕ) : Type 0 where
  some : 0 < length ds
  digits : list_all is_ascii_digit ds ≡ true
  words : list_all (λ b. nat_lt 32 b) ds ≡ true
  sign : (get_or ds 0 0 == 45) ≡ false
  first : 1 ≤ n → (get_or ds 0 0 == 48) ≡ false
  alone : n < 10 → length ds ≡ 1

digit_test : (b : ℕ) → 48 ≤ b → b ≤ 57 → (is_ascii_digit b && true) ≡ true
digit_test b low high = grind (arith, nat_tests)

word_test : (b : ℕ) → 32 < b → (nat_lt 32 b && true) ≡ true
word_test b h = grind (arith, nat_tests)

other_test : (b c : ℕ) → c < b → (b == c) ≡ false
other_test b c h = grind (arith, nat_tests)

one_digit : (n : ℕ) → n < 10 → Digits n ((48 + n) ∷ [])
one_digit n small = record {
  some = omega arith;
  digits = digit_test (48 + n) (omega arith) (omega arith);
  words = word_test (48 + n) (omega arith);
  sign = other_test (48 + n) 45 (omega arith);
  first = λ low. other_test (48 + n) 48 (omega arith);
  alone = λ _. refl;
}

pub both_true : (a b : Bool) → a ≡ true → b ≡ true → (a && b) ≡ true
both_true a b first second = ap (λ c. c && b) first ∙ second

one_more : (n : ℕ) (ds : List ℕ) → 10 ≤ n → Digits (n / 10) ds → Digits n (ds ++ ((48 + n % 10) ∷ []))
one_more n ds large front =
    let digit : n % 10 < 10 = omega arith in
    let tenth : 1 ≤ n / 10 = omega arith in
    let head : get_or (ds ++ ((48 + n % 10) ∷ [])) 0 0 ≡ get_or ds 0 0 = get_or-append ds ((48 + n % 10) ∷ []) 0 0 front.some in
    record {
      some = omega (arith, length-append ds ((48 + n % 10) ∷ []));
      digits = list_all-append is_ascii_digit ds ((48 + n % 10) ∷ []) ∙ both_true _ _ front.digits (digit_test (48 + n % 10) (omega arith) (omega arith));
      words = list_all-append (λ b. nat_lt 32 b) ds ((48 + n % 10) ∷ []) ∙ both_true _ _ front.words (word_test (48 + n % 10) (omega arith));
      sign = ap (λ b. b == 45) head ∙ front.sign;
      first = λ low. ap (λ b. b == 48) head ∙ front.first tenth;
      alone = λ h. absurd (omega arith);
    }

digits_of : (n : ℕ) → n < 2 ^ 64 → Digits n (decimal n)
digits_of n small = decimal_by_steps Digits one_digit one_more n small

pub decimal-word : (n : ℕ) → n < 2 ^ 64 → is_word (decimal n) ≡ true
decimal-word n small =
    let d = digits_of n small in
    let some : not (length (decimal n) == 0) ≡ true = not_none (length (decimal n)) d.some in
    both_true _ _ some d.words

pub decimal-number : (n : ℕ) → n < 2 ^ 64 → is_number (decimal n) ≡ true
unfolding is_number
decimal-number n small =
    let d = digits_of n small in
    both_true _ _ (both_true _ _ (not_none (length (decimal n)) d.some) d.digits) (by_size (nat_lt n 10) refl)
  where
    by_size : (b : Bool) → nat_lt n 10 ≡ b → (not (get_or (decimal n) 0 0 == 48) || length (decimal n) == 1) ≡ true
    by_size true e =
        let low : n < 10 = grind (arith, nat_tests) in
        ap (λ c. not (get_or (decimal n) 0 0 == 48) || c) (eq-eqb (length (decimal n)) 1 ((digits_of n small).alone low)) ∙ or-true (not (get_or (decimal n) 0 0 == 48))
    by_size false e =
        let high : 1 ≤ n = grind (arith, nat_tests) in
        ap (λ c. not c || length (decimal n) == 1) ((digits_of n small).first high)

pub decimal-value : (n : ℕ) → n < 2 ^ 64 → digits_value 10 (decimal n) ≡ n
decimal-value n small = (decimal_is_IsNumeral n small).1

-- whole numbers
pub signed-word : (z : ℤ) → nat_abs z < 2 ^ 31 → is_word (signed_decimal z) ≡ true
signed-word (pos n) small = decimal-word n (omega arith)
signed-word (negsuc n) small = both_true _ _ (not_none (suc (length (decimal (suc n)))) (omega arith)) (digits_of (suc n) (omega arith)).words

pub signed-integer : (z : ℤ) → nat_abs z < 2 ^ 31 → is_integer (signed_decimal z) ≡ true
signed-integer (pos n) small =
    ap (λ (b : Bool). is_number (if b then drop 1 (decimal n) else decimal n) && not (b && digits_value 10 (if b then drop 1 (decimal n) else decimal n) == 0)) (digits_of n (omega arith)).sign
    ∙ both_true _ _ (decimal-number n (omega arith)) refl
signed-integer (negsuc n) small =
    both_true _ _ (decimal-number (suc n) (omega arith)) (ap (λ v. not (v == 0)) (decimal-value (suc n) (omega arith)) ∙ not_none (suc n) (omega arith))

pub signed-value : (z : ℤ) → nat_abs z < 2 ^ 31 → integer_value (signed_decimal z) ≡ z
signed-value (pos n) small =
    ap (λ (b : Bool). if b then neg_ℤ (pos (digits_value 10 (if b then drop 1 (decimal n) else decimal n))) else pos (digits_value 10 (if b then drop 1 (decimal n) else decimal n)))
    (digits_of n (omega arith)).sign ∙ ap pos (decimal-value n (omega arith))
signed-value (negsuc n) small = ap (λ v. neg_ℤ (pos v)) (decimal-value (suc n) (omega arith))

pub decimal-integer : (n : ℕ) → n < 2 ^ 31 → integer_value (decimal n) ≡ pos n
decimal-integer n small = signed-value (pos n) small

pub decimal-digits : (n : ℕ) → n < 2 ^ 64 → list_all is_ascii_digit (decimal n) ≡ true
decimal-digits n small = (digits_of n small).digits
