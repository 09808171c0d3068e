-- The shortest prefix that begins no name has as many `_` as some name needs.
use Rattle.std.proofs.Common.{◌≡◌, ℕ, zero, suc, ◌+◌, ◌<◌, ◌≤◌, ◌==◌, ◌&&◌, ◌||◌, not, Bool, true, false, cond, List, [], ◌∷◌, ◌++◌, length, take, replicate, Some, unwrap_or, inl, inr, refl, ap, sym, ◌∙◌, arith}
use Rattle.std.specs.Prelude.{◌⊎◌, find, max, nat_eq, nat_le, nat_lt}
use Rattle.std.specs.Cmp.Lexicographic.{pointwise}
use Rattle.std.specs.List.{list_any, range_with_len, starts_with, sum_by}
use Rattle.std.specs.Str.{bytes_eq}
use Rattle.std.proofs.lemmas.Bool.{cases_eq, lt-ltb, le-ltb, or_parts}
use Rattle.std.proofs.lemmas.Bool.Decides.{nat_tests}
use Rattle.std.proofs.lemmas.List.Sums.{fold-append, prefix_len-le-length, sum_by-cons}
use Rattle.std.proofs.lemmas.Slice.Eq.{bytes_eq-Decides}
use Rattle.std.proofs.Math.Seq.{take-append_seam}
use Rattle.job_words.specs.Text.{Word}
use Rattle.blif_dump.specs.Marks.{marks_before, marks_of, most_marks}
use Rattle.blif_dump.specs.Names.{begins_some, mark_count, prefix_for, prefix_with}

-- so many `_`
abbrev marks : ℕ → Word
marks count = replicate count 95

-- they begin the bytes
mark_first : (b : ℕ) → nat_eq 95 b ≡ (b == 95)
mark_first b = grind (arith, nat_tests)

letter_first : (b : ℕ) → nat_eq 110 b ≡ (b == 110)
letter_first b = grind (arith, nat_tests)

none_left : (n : ℕ) → nat_le (suc n) 0 ≡ false
none_left n = grind (arith, nat_tests)

always : (n : ℕ) → nat_le 0 n ≡ true
always n = grind (arith, nat_tests)

one_each : (n m : ℕ) → nat_le (suc n) (1 + m) ≡ nat_le n m
one_each n m = grind (arith, nat_tests)

marks_begin : (n : ℕ) (bytes : Word) → pointwise nat_eq (marks n) (take (length (marks n)) bytes) ≡ nat_le n (marks_before bytes)
marks_begin zero bytes = sym (always (marks_before bytes))
marks_begin (suc n) [] = sym (none_left n)
marks_begin (suc n) (b ∷ bytes) = ap (λ t. t && pointwise nat_eq (marks n) (take (length (marks n)) bytes)) (mark_first b) ∙ by_cases (b == 95) (marks_begin n bytes)
  where
    by_cases : (t : Bool) → pointwise nat_eq (marks n) (take (length (marks n)) bytes) ≡ nat_le n (marks_before bytes)
        → (t && pointwise nat_eq (marks n) (take (length (marks n)) bytes)) ≡ nat_le (suc n) (cond (not (not t)) (1 + marks_before bytes) 0)
    by_cases true rest = rest ∙ sym (one_each n (marks_before bytes))
    by_cases false rest = sym (none_left n)

-- a prefix begins a name where it has fewer `_` than the name needs
never : (n : ℕ) → nat_lt n 0 ≡ false
never n = grind (arith, nat_tests)

at_most : (n m : ℕ) → nat_le n m ≡ nat_lt n (1 + m)
at_most n m = grind (arith, nat_tests)

prefix_begins : (n : ℕ) (name : Word) → starts_with nat_eq name (prefix_with n) ≡ nat_lt n (marks_of name)
prefix_begins n [] = sym (never n)
prefix_begins n (first ∷ rest) = ap (λ t. t && pointwise nat_eq (marks n) (take (length (marks n)) rest)) (letter_first first) ∙ by_cases (first == 110)
  where
    by_cases : (t : Bool) → (t && pointwise nat_eq (marks n) (take (length (marks n)) rest)) ≡ nat_lt n (cond t (1 + marks_before rest) 0)
    by_cases true = marks_begin n rest ∙ at_most n (marks_before rest)
    by_cases false = sym (never n)

-- and some name where it has fewer than one of them needs
in_either : (n a b : ℕ) → nat_lt n (max a b) ≡ (nat_lt n a || nat_lt n b)
in_either n a b = grind (arith, nat_tests)

turned : (s r l : Bool) → ((s || r) || l) ≡ (r || (l || s))
turned true true l = refl
turned true false true = refl
turned true false false = refl
turned false true l = refl
turned false false true = refl
turned false false false = refl

some_begun : (n least : ℕ) (names : List Word) → (begins_some names (prefix_with n) || nat_lt n least) ≡ nat_lt n (most_marks least names)
some_begun n least [] = refl
some_begun n least (name ∷ names) =
    let rest = begins_some names (prefix_with n) in
    ap (λ t. (t || rest) || nat_lt n least) (prefix_begins n name) ∙ turned (nat_lt n (marks_of name)) rest (nat_lt n least)
    ∙ ap (λ t. rest || t) (sym (in_either n least (marks_of name))) ∙ some_begun n (max least (marks_of name)) names

or_false : (b : Bool) → (b || false) ≡ b
or_false true = refl
or_false false = refl

begun_is : (n : ℕ) (names : List Word) → begins_some names (prefix_with n) ≡ nat_lt n (most_marks 0 names)
begun_is n names = sym (or_false (begins_some names (prefix_with n))) ∙ ap (λ t. begins_some names (prefix_with n) || t) (sym (never n)) ∙ some_begun n 0 names

-- the first number that is not less than another
first_found : (m a n : ℕ) → a ≤ m → m < a + n → find (λ count. not (nat_lt count m)) (range_with_len a n) ≡ Some m
first_found m a zero low high = absurd (omega (arith, low, high))
first_found m a (suc n) low high = by_kind (cases_eq a m) (λ less. first_found m (a + 1) n (omega (arith, less)) (omega (arith, high)))
  where
    by_kind : (a ≡ m) ⊎ (a ≡ m → ⊥) → (a < m → find (λ count. not (nat_lt count m)) (range_with_len (a + 1) n) ≡ Some m) → find (λ count. not (nat_lt count m)) (range_with_len a (suc n)) ≡ Some m
    by_kind (inl e) rest = ap (λ b. cond (not b) (Some a) (find (λ count. not (nat_lt count m)) (range_with_len (a + 1) n))) (le-ltb a m (omega (arith, e))) ∙ ap (λ t. Some t) e
    by_kind (inr apart) rest =
        let less : a < m = omega (arith, low, apart) in
        ap (λ b. cond (not b) (Some a) (find (λ count. not (nat_lt count m)) (range_with_len (a + 1) n))) (lt-ltb a m less) ∙ rest less

-- no name needs more `_` than it has bytes
marks_within : (name : Word) → marks_of name ≤ length name
marks_within [] = omega arith
marks_within (first ∷ rest) = by_cases (first == 110)
  where
    within : marks_before rest ≤ length rest
    within = prefix_len-le-length (λ b. not (not (b == 95))) rest

    by_cases : (t : Bool) → cond t (1 + marks_before rest) 0 ≤ suc (length rest)
    by_cases true = omega (arith, within)
    by_cases false = omega arith

most_within : (least : ℕ) (names : List Word) → most_marks least names ≤ least + sum_by (λ (name : Word). length name) names
most_within least [] = omega arith
most_within least (name ∷ names) =
    let more = most_within (max least (marks_of name)) names in
    omega (arith, more, marks_within name, sum_by-cons (λ (t : Word). length t) name names)

same_find : (p q : ℕ → Bool) (xs : List ℕ) → ((x : ℕ) → p x ≡ q x) → find p xs ≡ find q xs
same_find p q [] same = refl
same_find p q (x ∷ xs) same = ap (λ b. cond b (Some x) (find p xs)) (same x) ∙ ap (λ o. cond (q x) (Some x) o) (same_find p q xs same)

-- how many `_` the prefix has
pub marks_are : (names : List Word) → mark_count names ≡ most_marks 0 names
marks_are names =
    let m = most_marks 0 names in
    let numbers = range_with_len 0 (1 + sum_by (λ (name : Word). length name) names) in
    ap (λ o. unwrap_or o 0)
    (same_find (λ count. not (begins_some names (prefix_with count))) (λ count. not (nat_lt count m)) numbers (λ count. ap not (begun_is count names))
    ∙ first_found m 0 (1 + sum_by (λ (name : Word). length name) names) (omega arith) (omega (arith, most_within 0 names)))

pub prefix_is : (names : List Word) → prefix_for names ≡ prefix_with (most_marks 0 names)
unfolding prefix_for
prefix_is names = ap prefix_with (marks_are names)

-- from the inputs on to the outputs
pub prefix_found : (inputs outputs : List Word) → prefix_with (most_marks (most_marks 0 inputs) outputs) ≡ prefix_for (inputs ++ outputs)
prefix_found inputs outputs = ap prefix_with (sym (fold-append (λ most (name : Word). max most (marks_of name)) 0 inputs outputs)) ∙ sym (prefix_is (inputs ++ outputs))

-- no name begins with it
pub begins_none : (names : List Word) → begins_some names (prefix_for names) ≡ false
begins_none names = ap (begins_some names) (prefix_is names) ∙ begun_is (most_marks 0 names) names ∙ le-ltb (most_marks 0 names) (most_marks 0 names) (omega arith)

begins_own : (front rest : Word) → starts_with nat_eq (front ++ rest) front ≡ true
begins_own front rest = ap (pointwise nat_eq front) (take-append_seam front rest) ∙ (bytes_eq-Decides front front).1 refl

pub not_behind : (names : List Word) (front rest : Word) → begins_some names front ≡ false → list_any (bytes_eq (front ++ rest)) names ≡ false
not_behind [] front rest h = refl
not_behind (name ∷ names) front rest h =
    let both = or_parts (starts_with nat_eq name front) (begins_some names front) h in
    ap (λ b. b || list_any (bytes_eq (front ++ rest)) names) (by_cases (bytes_eq (front ++ rest) name) refl both.0) ∙ not_behind names front rest both.1
  where
    by_cases : (b : Bool) → bytes_eq (front ++ rest) name ≡ b → starts_with nat_eq name front ≡ false → bytes_eq (front ++ rest) name ≡ false
    by_cases false e none = e
    by_cases true e none =
        let same : front ++ rest ≡ name = (bytes_eq-Decides (front ++ rest) name).0 e in
        let wrong : true ≡ false = sym (begins_own front rest) ∙ ap (λ (t : Word). starts_with nat_eq t front) same ∙ none in cc
