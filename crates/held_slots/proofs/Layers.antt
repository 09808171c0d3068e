-- The bits of numbers, where one is set or taken away, and the next that is set.
use Rattle.std.proofs.Common.{◌≡◌, ◌≢◌, ℕ, ◌+◌, ◌-◌, ◌*◌, ◌/◌, ◌%◌, ◌<◌, ◌≤◌, ◌^◌, ◌==◌, ◌⊎◌, inl, inr, Bool, true, false, not, List, length, get_or, set, replicate, Option, Some, None, eqb, eqb-true, refl, sym, ap, ◌∙◌, arith, w64}
use Rattle.std.specs.Int.{bit_at, trailing_zeros}
use Rattle.std.proofs.lemmas.Bool.{cases_eq, cases_lt}
use Rattle.std.proofs.lemmas.List.{get_or-set_same, get_or-set_other, get_or_past, get_or-replicate, length-replicate}
use Rattle.std.proofs.lemmas.Nat.{shr-shr, shr_le}
use Rattle.std.proofs.lemmas.Nat.Bits.{bit_at-zero, bit_at-trailing_zeros, bit_at_above, bit_at-lt, same_from_bits_below}
use Rattle.held_slots.specs.SlotSets.{is_in, has_some, IsNext, IsNextInWord, IsSummary}

not_equal : (a b : ℕ) → a ≢ b → (a == b) ≡ false
not_equal a b ne = at (eqb a b) refl
  where
    at : (c : Bool) → eqb a b ≡ c → c ≡ false
    at true e = absurd (ne (eqb-true a b e))
    at false e = refl

-- a number that is at least one that is not 0
pub had_more : (n m : ℕ) → m ≤ n → not (m == 0) ≡ true → not (n == 0) ≡ true
had_more n m le some = elim (cases_eq n 0) [
  | inl zero ↦ absurd (let none : m ≡ 0 = omega (arith, le, zero) in let no : not (m == 0) ≡ false = ap (λ k. not (k == 0)) none in cc)
  | inr ne ↦ ap not (not_equal n 0 ne)
]

-- a number with a bit is not 0
pub some_bit : (n i : ℕ) → bit_at n i ≡ 1 → not (n == 0) ≡ true
some_bit n i one = elim (cases_eq n 0) [
  | inl zero ↦ absurd (let none : bit_at n i ≡ 0 = ap (λ m. bit_at m i) zero ∙ bit_at-zero i in omega (arith, one, none))
  | inr ne ↦ ap not (not_equal n 0 ne)
]

module _ (bits : List ℕ) (place word : ℕ) (within : place / 64 < length bits) where
  abbrev pub put : List ℕ
  put = set bits (place / 64) word

  pub put_here : get_or put (place / 64) 0 ≡ word
  put_here = get_or-set_same bits (place / 64) word 0 within

  pub put_rest : (w : ℕ) → w ≢ place / 64 → get_or put w 0 ≡ get_or bits w 0
  put_rest w ne = get_or-set_other bits (place / 64) w word 0 ne

  pub put_bit : (b : ℕ) → bit_at word (place % 64) ≡ b → bit_at (get_or put (place / 64) 0) (place % 64) ≡ b
  put_bit b is = ap (λ n. bit_at n (place % 64)) put_here ∙ is

  pub put_others : ((i : ℕ) → i < 64 → i ≢ place % 64 → bit_at word i ≡ bit_at (get_or bits (place / 64) 0) i) → (p : ℕ) → p ≢ place → is_in put p ≡ is_in bits p
  put_others others p ne = elim (cases_eq (p / 64) (place / 64)) [
    | inl same ↦ (
        let now : get_or put (p / 64) 0 ≡ word = ap (λ w. get_or put w 0) same ∙ put_here in
        let was : get_or bits (place / 64) 0 ≡ get_or bits (p / 64) 0 = ap (λ w. get_or bits w 0) (sym same) in
        ap (λ n. bit_at n (p % 64) == 1) now ∙ ap (λ b. b == 1) (others (p % 64) (omega arith) (omega (arith, ne, same))) ∙ ap (λ n. bit_at n (p % 64) == 1) was)
    | inr apart ↦ ap (λ n. bit_at n (p % 64) == 1) (put_rest (p / 64) apart)
  ]

positive : (n : ℕ) → n ≢ 0 → 0 < n
positive n ne = omega (arith, ne)

-- the bits from a number on in its word
module _ (bits : List ℕ) (from : ℕ) where
  abbrev pub word : ℕ
  word = get_or bits (from / 64) 0

  in_word : (q : ℕ) → from ≤ q → q / 64 ≡ from / 64 → bit_at (get_or bits (q / 64) 0) (q % 64) ≡ bit_at (word / 2 ^ (from % 64)) (q - from)
  in_word q le same =
      let here : get_or bits (q / 64) 0 ≡ word = ap (λ w. get_or bits w 0) same in
      let place : q % 64 ≡ from % 64 + (q - from) = omega (arith, le, same) in
      ap (λ n. bit_at n (q % 64)) here ∙ ap (bit_at word) place ∙ ap (λ n. n % 2) (sym (shr-shr word (from % 64) (q - from)))

  pub none_in_word : word / 2 ^ (from % 64) ≡ 0 → IsNextInWord bits from None
  none_in_word none q le same = ap (λ b. b == 1) (in_word q le same ∙ ap (λ n. bit_at n (q - from)) none ∙ bit_at-zero (q - from))

  module _ (fits : word < 2 ^ 64) (some : word / 2 ^ (from % 64) ≢ 0) where
    abbrev pub rest : ℕ
    rest = word / 2 ^ (from % 64)

    abbrev pub step : ℕ
    step = trailing_zeros w64 rest

    lowest : (step < 64) × (bit_at rest step ≡ 1) × ((i : ℕ) → i < step → bit_at rest i ≡ 0)
    lowest = bit_at-trailing_zeros w64 rest (positive rest some) (omega (arith, fits, shr_le word (from % 64)))

    same_word : from % 64 + step < 64
    same_word = elim (cases_lt (from % 64 + step) 64) [
      | inl lt ↦ lt
      | inr ge ↦ absurd (
          let none : bit_at word (from % 64 + step) ≡ 0 = bit_at_above word 64 (from % 64 + step) fits ge in
          let one : bit_at word (from % 64 + step) ≡ 1 = ap (λ n. n % 2) (sym (shr-shr word (from % 64) step)) ∙ lowest.1 in
          omega (arith, none, one))
    ]

    pub found_in_word : IsNextInWord bits from (Some (from + step))
    found_in_word =
        let inside : (from + step) / 64 ≡ from / 64 = omega (arith, same_word) in
        let behind : from + step - from ≡ step = omega arith in (
          (
            omega arith,
            ap (λ b. b == 1) (in_word (from + step) (omega arith) inside ∙ ap (bit_at rest) behind ∙ lowest.1),
            λ q le lt. ap (λ b. b == 1) (in_word q le (omega (arith, le, lt, same_word)) ∙ lowest.2 (q - from) (omega (arith, le, lt))),
          ),
          inside,
        )

-- a word without bits is 0, and one that is 0 has none
pub none_has : (bits : List ℕ) (q : ℕ) → has_some bits (q / 64) ≡ false → is_in bits q ≡ false
none_has bits q none = elim (cases_eq (get_or bits (q / 64) 0) 0) [
  | inl zero ↦ ap (λ b. b == 1) (ap (λ n. bit_at n (q % 64)) zero ∙ bit_at-zero (q % 64))
  | inr ne ↦ absurd (ne (zero_by (get_or bits (q / 64) 0) none))
]
  where
    zero_by : (n : ℕ) → not (n == 0) ≡ false → n ≡ 0
    zero_by n e = at (eqb n 0) refl e
      where
        at : (c : Bool) → eqb n 0 ≡ c → not c ≡ false → n ≡ 0
        at true is h = eqb-true n 0 is
        at false is h = cc

-- The word of a number has no bit from it on, and this is the next word that has some: there stands the next number.
module _ (bits : List ℕ) (from word : ℕ) (here : (q : ℕ) → from ≤ q → q / 64 ≡ from / 64 → is_in bits q ≡ false) (next : IsNext (has_some bits) (from / 64 + 1) (Some word)) where
  between : (q : ℕ) → from ≤ q → q / 64 < word → is_in bits q ≡ false
  between q le lt = elim (cases_eq (q / 64) (from / 64)) [
    | inl same ↦ here q le same
    | inr ne ↦ none_has bits q (next.2 (q / 64) (omega (arith, le, ne)) lt)
  ]

  pub next_there : (place : ℕ) → IsNextInWord bits (word * 64) (Some place) → IsNext (is_in bits) from (Some place)
  next_there place found =
      let least = next.0 in
      let start = found.0.0 in
      let inside : place / 64 ≡ word = found.1 ∙ (let e : word * 64 / 64 ≡ word = omega arith in e) in (
        omega (arith, least, start),
        found.0.1,
        λ q le lt. elim (cases_lt (q / 64) word) [
          | inl before ↦ between q le before
          | inr at ↦ found.0.2 q (omega (arith, at)) lt
        ],
      )

  pub some_there : get_or bits word 0 < 2 ^ 64 → IsNextInWord bits (word * 64) None → ⊥
  some_there fits none =
      let empty : get_or bits word 0 ≡ 0 = same_from_bits_below 64 (get_or bits word 0) 0 fits (omega arith) (λ i lt. is_zero i lt) in
      let no : has_some bits word ≡ false = ap (λ n. not (n == 0)) empty in
      cc
    where
      is_zero : (i : ℕ) → i < 64 → bit_at (get_or bits word 0) i ≡ bit_at 0 i
      is_zero i lt =
          let place : (word * 64 + i) / 64 ≡ word = omega (arith, lt) in
          let bit : (word * 64 + i) % 64 ≡ i = omega (arith, lt) in
          let no = none (word * 64 + i) (omega arith) (place ∙ (let e : word ≡ word * 64 / 64 = omega arith in e)) in
          let low = bit_at-lt (get_or bits word 0) i in
          elim (cases_eq (bit_at (get_or bits word 0) i) 1) [
            | inl one ↦ absurd (
                let yes : is_in bits (word * 64 + i) ≡ true = ap (λ w. bit_at (get_or bits w 0) ((word * 64 + i) % 64) == 1) place ∙ ap (λ j. bit_at (get_or bits word 0) j == 1) bit ∙ ap (λ b. b == 1) one in
                cc)
            | inr ne ↦ (let zero : bit_at (get_or bits word 0) i ≡ 0 = omega (arith, low, ne) in zero ∙ sym (bit_at-zero i))
          ]

  pub next_of : get_or bits word 0 < 2 ^ 64 → (found : Option ℕ) → IsNextInWord bits (word * 64) found → IsNext (is_in bits) from found
  next_of fits (Some place) found = next_there place found
  next_of fits None none = absurd (some_there fits none)

pub nowhere : (bits : List ℕ) (from : ℕ) → ((q : ℕ) → from ≤ q → q / 64 ≡ from / 64 → is_in bits q ≡ false) → IsNext (has_some bits) (from / 64 + 1) None → IsNext (is_in bits) from None
nowhere bits from here none q le = elim (cases_eq (q / 64) (from / 64)) [
  | inl same ↦ here q le same
  | inr ne ↦ none_has bits q (none (q / 64) (omega (arith, le, ne)))
]

-- what the layer above tells
pub next_by_summary : (lower upper : List ℕ) (from : ℕ) (next : Option ℕ) → IsSummary lower upper → IsNext (is_in upper) from next → IsNext (has_some lower) from next
next_by_summary lower upper from None sums none = λ q le. sym (sums q) ∙ none q le
next_by_summary lower upper from (Some place) sums found = (found.0, sym (sums place) ∙ found.1, λ q le lt. sym (sums q) ∙ found.2 q le lt)

-- a bit that is set tells of its word, in the layer above too
pub summary_set : (lower lower' upper upper' : List ℕ) (place : ℕ) → IsSummary lower upper → has_some lower' (place / 64) ≡ true → ((w : ℕ) → w ≢ place / 64 → get_or lower' w 0 ≡ get_or lower w 0)
    → is_in upper' (place / 64) ≡ true → ((p : ℕ) → p ≢ place / 64 → is_in upper' p ≡ is_in upper p) → IsSummary lower' upper'
summary_set lower lower' upper upper' place sums some rest here others w = elim (cases_eq w (place / 64)) [
  | inl same ↦ ap (is_in upper') same ∙ here ∙ sym some ∙ ap (has_some lower') (sym same)
  | inr ne ↦ others w ne ∙ sums w ∙ ap (λ n. not (n == 0)) (sym (rest w ne))
]

-- and one that is taken away, where its word still has some, or has none
pub summary_kept : (lower lower' upper : List ℕ) (place : ℕ) → IsSummary lower upper → has_some lower (place / 64) ≡ has_some lower' (place / 64)
    → ((w : ℕ) → w ≢ place / 64 → get_or lower' w 0 ≡ get_or lower w 0) → IsSummary lower' upper
summary_kept lower lower' upper place sums some rest w = elim (cases_eq w (place / 64)) [
  | inl same ↦ sums w ∙ ap (has_some lower) same ∙ some ∙ ap (has_some lower') (sym same)
  | inr ne ↦ sums w ∙ ap (λ n. not (n == 0)) (sym (rest w ne))
]

pub summary_unset : (lower lower' upper upper' : List ℕ) (place : ℕ) → IsSummary lower upper → has_some lower' (place / 64) ≡ false → ((w : ℕ) → w ≢ place / 64 → get_or lower' w 0 ≡ get_or lower w 0)
    → is_in upper' (place / 64) ≡ false → ((p : ℕ) → p ≢ place / 64 → is_in upper' p ≡ is_in upper p) → IsSummary lower' upper'
summary_unset lower lower' upper upper' place sums none rest here others w = elim (cases_eq w (place / 64)) [
  | inl same ↦ ap (is_in upper') same ∙ here ∙ sym none ∙ ap (has_some lower') (sym same)
  | inr ne ↦ others w ne ∙ sums w ∙ ap (λ n. not (n == 0)) (sym (rest w ne))
]

abbrev pub zeros : ℕ → List ℕ
zeros n = replicate n 0

-- zeros have no bits
pub zeros_are : (bits : List ℕ) (n : ℕ) → bits ≡ zeros n → (w : ℕ) → get_or bits w 0 ≡ 0
zeros_are bits n are w = ap (λ l. get_or l w 0) are ∙ at (cases_lt w n)
  where
    at : (w < n) ⊎ (n ≤ w) → get_or (zeros n) w 0 ≡ 0
    at (inl lt) = let none : ℕ = 0 in get_or-replicate n w none none lt
    at (inr ge) = get_or_past (zeros n) w 0 (let none : ℕ = 0 in let l = length-replicate n none in omega (arith, l, ge))

pub none_summed : (lower upper : List ℕ) (n m : ℕ) → lower ≡ zeros n → upper ≡ zeros m → IsSummary lower upper
none_summed lower upper n m low up w =
    let no : is_in upper w ≡ false = ap (λ b. b == 1) (ap (λ x. bit_at x (w % 64)) (zeros_are upper m up (w / 64)) ∙ bit_at-zero (w % 64)) in
    no ∙ ap (λ x. not (x == 0)) (sym (zeros_are lower n low w))

pub no_bits : (bits : List ℕ) (n p : ℕ) → bits ≡ zeros n → is_in bits p ≡ false
no_bits bits n p are = ap (λ b. b == 1) (ap (λ x. bit_at x (p % 64)) (zeros_are bits n are (p / 64)) ∙ bit_at-zero (p % 64))

-- members stay below the limit
pub below_set : (limit : ℕ) (bits bits' : List ℕ) (place : ℕ) → ((s : ℕ) → is_in bits s ≡ true → s < limit) → place < limit → ((p : ℕ) → p ≢ place → is_in bits' p ≡ is_in bits p) → (s : ℕ) → is_in bits' s ≡ true → s < limit
below_set limit bits bits' place below lt others s inside = elim (cases_eq s place) [
  | inl e ↦ omega (arith, e, lt)
  | inr ne ↦ below s (sym (others s ne) ∙ inside)
]

-- nothing is behind the last member that is taken out
pub kept_clear : (old before after : ℕ → Bool) (slot : ℕ) → ((s : ℕ) → before s ≡ true → old s ≡ true) → after slot ≡ false → ((s : ℕ) → s ≢ slot → after s ≡ before s) → (s : ℕ) → after s ≡ true → old s ≡ true
kept_clear old before after slot kept here others s inside = elim (cases_eq s slot) [
  | inl e ↦ (let never : false ≡ true = sym here ∙ ap after (sym e) ∙ inside in cc)
  | inr ne ↦ kept s (sym (others s ne) ∙ inside)
]
