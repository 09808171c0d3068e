-- What stands at the place of a key, before and after a write.
use Rattle.std.proofs.Common.{◌≡◌, ◌≢◌, ◌⊎◌, ℕ, zero, suc, ◌+◌, ◌*◌, ◌/◌, ◌%◌, ◌^◌, ◌<◌, ◌≤◌, inl, inr, List, length, Some, refl, ap, ap₂, sym, ◌∙◌, arith, subst}
use Rattle.std.specs.Prelude.{slice_index, slice_set}
use Rattle.std.proofs.lemmas.Bool.{cases_eq, cases_lt}
use Rattle.std.proofs.lemmas.List.{get_or_past, get_or-set_other, get_or-set_same, length-set}
use Rattle.edge_bits.specs.declared.edges.Edge.{Edge}
use Rattle.computed_cache.specs.declared.Key.{Key}
use Rattle.edge_bits.specs.Words.{edge_of_word, word_of_edge}
use Rattle.computed_cache.specs.Entries.{IsEntry, IsInRange, Kept, answer_word, key_word, kept_at, kept_in, place_at, place_of, places, without}
use Rattle.computed_cache.proofs.WordLemmas.{answer_back, edge_back, kept_is, words_are}

module _ (words : List ℕ) (n p : ℕ) (key : Key) (r : IsInRange key) (twice : length words ≡ 2 * n) (is : p ≡ place_at (key_word key) (word_of_edge key.h) n) where
  pub at_place : place_of key (places words) ≡ p
  at_place = ap (place_at (key_word key) (word_of_edge key.h)) (let e : length words / 2 ≡ n = omega (arith, twice) in e) ∙ sym is

  pub found : slice_index words (2 * p) ≡ key_word key → slice_index words (2 * p + 1) / 2 ^ 24 ≡ word_of_edge key.h
      → kept_at words (place_of key (places words)) ≡ Some (record { key = key; edge = edge_of_word (slice_index words (2 * p + 1) % 2 ^ 24) })
  found first second = ap (kept_at words) at_place ∙ kept_is key (slice_index words (2 * p)) (slice_index words (2 * p + 1)) r first second

  pub absent : IsEntry (slice_index words (2 * p)) (slice_index words (2 * p + 1)) → (slice_index words (2 * p) ≡ key_word key → slice_index words (2 * p + 1) / 2 ^ 24 ≡ word_of_edge key.h → ⊥)
      → (e : Edge) → kept_at words (place_of key (places words)) ≡ Some (record { key = key; edge = e }) → ⊥
  absent (inl none) other e here =
      let h : kept_in 0 (slice_index words (2 * p + 1)) ≡ Some (record { key = key; edge = e }) = ap (λ x. kept_in x (slice_index words (2 * p + 1))) (sym none) ∙ sym (ap (kept_at words) at_place) ∙ here in cc
  absent (inr (low, few)) other e here = elim (zero_or_more (slice_index words (2 * p))) [
    | inl none ↦ (
        let h : kept_in 0 (slice_index words (2 * p + 1)) ≡ Some (record { key = key; edge = e }) = ap (λ x. kept_in x (slice_index words (2 * p + 1))) (sym none) ∙ sym (ap (kept_at words) at_place) ∙ here in cc)
    | inr some ↦ (
        let w = words_are key e (slice_index words (2 * p)) (slice_index words (2 * p + 1)) low some (sym (ap (kept_at words) at_place) ∙ here) in other w.0 w.1)
  ]
    where
      zero_or_more : (x : ℕ) → (x ≡ 0) ⊎ (0 < x)
      zero_or_more zero = inl refl
      zero_or_more (suc x) = inr (omega arith)

  module _ (edge : Edge) (few : edge.index < 2 ^ 23) (within : p < n) where
    abbrev pub written : List ℕ
    written = slice_set (slice_set words (2 * p) (key_word key)) (2 * p + 1) (answer_word key edge)

    first_is : slice_index written (2 * p) ≡ key_word key
    first_is = get_or-set_other (slice_set words (2 * p) (key_word key)) (2 * p + 1) (2 * p) (answer_word key edge) 0 (λ e. omega (arith, e))
        ∙ get_or-set_same words (2 * p) (key_word key) 0 (omega (arith, twice, within))

    second_is : slice_index written (2 * p + 1) ≡ answer_word key edge
    second_is = get_or-set_same (slice_set words (2 * p) (key_word key)) (2 * p + 1) (answer_word key edge) 0
        (let l = length-set words (2 * p) (key_word key) in omega (arith, twice, within, l))

    rest_is : (j : ℕ) → j ≢ 2 * p → j ≢ 2 * p + 1 → slice_index written j ≡ slice_index words j
    rest_is j a b = get_or-set_other (slice_set words (2 * p) (key_word key)) (2 * p + 1) j (answer_word key edge) 0 b ∙ get_or-set_other words (2 * p) j (key_word key) 0 a

    pub put_here : kept_at written (place_of key (places words)) ≡ Some (record { key = key; edge = edge })
    put_here =
        let a = answer_back key edge few in
        let back : edge_of_word (answer_word key edge % 2 ^ 24) ≡ edge = ap edge_of_word a.1 ∙ edge_back edge in
        ap (kept_at written) at_place ∙ ap₂ kept_in first_is second_is ∙ kept_is key (key_word key) (answer_word key edge) r refl a.0
        ∙ ap (λ e. Some (let x : Kept = record { key = key; edge = e } in x)) back

    pub put_others : (i : ℕ) → (i ≡ place_of key (places words) → ⊥) → kept_at written i ≡ kept_at words i
    put_others i other =
        let ne : i ≢ p = λ e. other (e ∙ sym at_place) in
        ap₂ kept_in (rest_is (2 * i) (λ e. ne (omega (arith, e))) (λ e. omega (arith, e))) (rest_is (2 * i + 1) (λ e. omega (arith, e)) (λ e. ne (omega (arith, e))))

-- Entries that named a slot are dropped one by one: of these first places they are, and further words are those of the start.
pub record IsForgotten (slot : ℕ) (start words : List ℕ) (place : ℕ) : Type 0 where
  pub as_long : length words ≡ length start
  pub entries : (i : ℕ) → IsEntry (slice_index words (2 * i)) (slice_index words (2 * i + 1))
  pub done : (i : ℕ) → i < place → kept_at words i ≡ without slot (kept_at start i)
  pub later : (j : ℕ) → 2 * place ≤ j → slice_index words j ≡ slice_index start j

pub forgotten-start : (slot : ℕ) (start : List ℕ) → ((i : ℕ) → IsEntry (slice_index start (2 * i)) (slice_index start (2 * i + 1))) → IsForgotten slot start start 0
forgotten-start slot start entries = record { as_long = refl; entries = entries; done = λ i lt. absurd (omega (arith, lt)); later = λ j le. refl }

pub forgotten-step : (slot place : ℕ) (start words new : List ℕ) → IsForgotten slot start words place
    → kept_at new place ≡ without slot (kept_at words place) → IsEntry (slice_index new (2 * place)) (slice_index new (2 * place + 1)) → ((i : ℕ) → (i ≡ 2 * place → ⊥) → slice_index new i ≡ slice_index words i)
    → length new ≡ length words → IsForgotten slot start new (place + 1)
forgotten-step slot place start words new f here entry others long = record {
  as_long = long ∙ f.as_long;
  entries = λ i. elim (cases_eq i place) [
    | inl e ↦ subst (λ x. IsEntry (slice_index new (2 * x)) (slice_index new (2 * x + 1))) (sym e) entry
    | inr ne ↦ subst (λ x. IsEntry x (slice_index new (2 * i + 1))) (sym (others (2 * i) (λ e. ne (omega (arith, e)))))
        (subst (λ x. IsEntry (slice_index words (2 * i)) x) (sym (others (2 * i + 1) (λ e. omega (arith, e)))) (f.entries i))
  ];
  done = λ i lt. elim (cases_eq i place) [
    | inl e ↦ subst (λ x. kept_at new x ≡ without slot (kept_at start x)) (sym e)
        (here ∙ ap (without slot) (ap₂ kept_in (f.later (2 * place) (omega arith)) (f.later (2 * place + 1) (omega arith))))
    | inr ne ↦ ap₂ kept_in (others (2 * i) (λ e. ne (omega (arith, e)))) (others (2 * i + 1) (λ e. omega (arith, e))) ∙ f.done i (omega (arith, lt, ne))
  ];
  later = λ j le. others j (λ e. omega (arith, e, le)) ∙ f.later j (omega (arith, le));
}

-- past the last place there is no entry
pub forgotten-all : (slot n : ℕ) (start words : List ℕ) → length start ≡ 2 * n → IsForgotten slot start words n → (i : ℕ) → kept_at words i ≡ without slot (kept_at start i)
forgotten-all slot n start words twice f i = elim (cases_lt i n) [
  | inl lt ↦ f.done i lt
  | inr le ↦ (
      let none : slice_index start (2 * i) ≡ 0 = get_or_past start (2 * i) 0 (omega (arith, le, twice)) in
      let gone : slice_index words (2 * i) ≡ 0 = get_or_past words (2 * i) 0 (let l = f.as_long in omega (arith, le, twice, l)) in
      ap (λ x. kept_in x (slice_index words (2 * i + 1))) gone ∙ sym (ap (λ x. without slot (kept_in x (slice_index start (2 * i + 1)))) none))
]
