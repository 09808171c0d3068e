-- The header that is written for a dump tells its fields.
use Rattle.std.proofs.Common.{◌≡◌, ℕ, zero, suc, add-one, ◌+◌, ◌<◌, ◌≤◌, ◌^◌, ◌==◌, nat_lt, Bool, true, false, ◌||◌, List, [], ◌∷◌, ℤ, None, All, length, map, get_or, nat_abs, refl, ◌∙◌, ap, arith}
use Rattle.std.specs.List.{list_all, list_any}
use Rattle.std.specs.List.Sorted.{IsStrictlyIncreasing}
use Rattle.std.specs.Fmt.{decimal, signed_decimal}
use Rattle.std.proofs.lemmas.Bool.Decides.{nat_tests}
use Rattle.std.specs.Bool.{then_some}
use Rattle.std.specs.Option.{option_or}
use Rattle.job_words.specs.Text.{integer_value}
use Rattle.dddmp_text.specs.declared.faults.FaultKind.TheVariants as kinds
use Rattle.dddmp_text.specs.Fields.{is_small, is_small_integer}
use Rattle.dddmp_text.specs.Faults.{is_bad_root}
use Rattle.dddmp_text.proofs.Decimals.{both_true, decimal-integer, decimal-number, decimal-value, decimal-word, is_word, signed-integer, signed-value, signed-word}
use Rattle.dddmp_text.proofs.NodeSteps.{lt_test}
use Rattle.diagram_dumps.proofs.Walks.{AreLines}

-- lists of small numbers
abbrev pub AreSmall : List ℕ → Type 0
AreSmall [] = Unit {0}
AreSmall (x ∷ xs) = (x < 2 ^ 31) × AreSmall xs

pub are_small : (xs : List ℕ) → All (λ x. x < 2 ^ 31) xs → AreSmall xs
are_small [] all = tt
are_small (x ∷ xs) all = (all 0 x (omega arith), are_small xs (λ i d within. all (suc i) d (omega arith)))

pub number-word : (n : ℕ) → n < 2 ^ 31 → is_word (decimal n) ≡ true
number-word n small = decimal-word n (omega arith)

pub number-form : (n : ℕ) → n < 2 ^ 31 → is_small (decimal n) ≡ true
number-form n small =
    both_true _ _ (decimal-number n (omega arith)) (ap (λ v. nat_lt v (2 ^ 31)) (decimal-value n (omega arith)) ∙ lt_test n (2 ^ 31) small)

pub numbers-words : (xs : List ℕ) → AreSmall xs → list_all is_word (map decimal xs) ≡ true
numbers-words [] small = refl
numbers-words (x ∷ xs) small = both_true _ _ (number-word x small.0) (numbers-words xs small.1)

pub numbers-form : (xs : List ℕ) → AreSmall xs → list_all is_small (map decimal xs) ≡ true
numbers-form [] small = refl
numbers-form (x ∷ xs) small = both_true _ _ (number-form x small.0) (numbers-form xs small.1)

pub numbers-values : (xs : List ℕ) → AreSmall xs → map nat_abs (map integer_value (map decimal xs)) ≡ xs
numbers-values [] small = refl
numbers-values (x ∷ xs) small =
    ap (λ z. nat_abs z ∷ map nat_abs (map integer_value (map decimal xs))) (decimal-integer x small.0) ∙ ap (λ rest. x ∷ rest) (numbers-values xs small.1)

-- lists of roots
pub roots-words : (roots : List ℤ) (after : ℕ) → AreLines roots after → after ≤ 2 ^ 31 → list_all is_word (map signed_decimal roots) ≡ true
roots-words [] after are small = refl
roots-words (root ∷ roots) after are small = both_true _ _ (signed-word root (omega (arith, are.1))) (roots-words roots after are.2 small)

pub roots-form : (roots : List ℤ) (after : ℕ) → AreLines roots after → after ≤ 2 ^ 31 → list_all is_small_integer (map signed_decimal roots) ≡ true
roots-form [] after are small = refl
roots-form (root ∷ roots) after are small =
    both_true _ _ (both_true _ _ (signed-integer root (omega (arith, are.1)))
    (ap (λ v. nat_lt (nat_abs v) (2 ^ 31)) (signed-value root (omega (arith, are.1))) ∙ lt_test (nat_abs root) (2 ^ 31) (omega (arith, are.1)))) (roots-form roots after are.2 small)

pub roots-values : (roots : List ℤ) (after : ℕ) → AreLines roots after → after ≤ 2 ^ 31 → map integer_value (map signed_decimal roots) ≡ roots
roots-values [] after are small = refl
roots-values (root ∷ roots) after are small =
    ap (λ z. z ∷ map integer_value (map signed_decimal roots)) (signed-value root (omega (arith, are.1))) ∙ ap (λ rest. root ∷ rest) (roots-values roots after are.2 small)

good_root : (nodes n : ℕ) → 1 ≤ n → n < nodes + 1 → (n == 0 || nat_lt nodes n) ≡ false
good_root nodes n low high = grind (arith, nat_tests)

pub none_or : (a b : Bool) → a ≡ false → b ≡ false → (a || b) ≡ false
none_or a b first second = ap (λ c. c || b) first ∙ second

pub roots-good : (roots : List ℤ) (nodes : ℕ) → AreLines roots (nodes + 1) → list_any (is_bad_root nodes) roots ≡ false
roots-good [] nodes are = refl
roots-good (root ∷ roots) nodes are = none_or _ _ (good_root nodes (nat_abs root) are.0 are.1) (roots-good roots nodes are.2)

-- rising ids are no fewer than their places
at_least : (ids : List ℕ) → IsStrictlyIncreasing ids → (i : ℕ) → i < length ids → i ≤ get_or ids i 0
at_least ids rises zero within = omega arith
at_least ids rises (suc i) within =
    let lower : i < length ids = omega arith in
    let before : i ≤ get_or ids i 0 = at_least ids rises i lower in
    let next : i + 1 < length ids = omega arith in
    let step : get_or ids i 0 < get_or ids (i + 1) 0 = rises i next in
    let same : get_or ids (i + 1) 0 ≡ get_or ids (suc i) 0 = ap (λ k. get_or ids k 0) (add-one i) in
    omega (arith, before, step, same)

pub few : (ids : List ℕ) (vars : ℕ) → IsStrictlyIncreasing ids → All (λ id. id < vars) ids → length ids ≤ vars
few [] vars rises below = omega arith
few (id ∷ rest) vars rises below =
    let within : length rest < length (id ∷ rest) = omega arith in
    let low : length rest ≤ get_or (id ∷ rest) (length rest) 0 = at_least (id ∷ rest) rises (length rest) within in
    let high : get_or (id ∷ rest) (length rest) 0 < vars = below (length rest) 0 within in
    omega (arith, low, high)

pub no_header_fault : (a b c : Bool) → a ≡ false → b ≡ false → c ≡ false
    → option_or (then_some a kinds.Count) (option_or (then_some b kinds.Variable) (then_some c kinds.Root)) ≡ None
no_header_fault false false false ha hb hc = refl
no_header_fault false false true ha hb hc = cc
no_header_fault false true c ha hb hc = cc
no_header_fault true b c ha hb hc = cc
