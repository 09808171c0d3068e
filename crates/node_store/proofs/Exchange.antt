-- Two neighbours of an order exchanged leave an order.
use Rattle.std.proofs.Common.{◌≡◌, ◌≢◌, ℕ, zero, suc, ◌+◌, ◌<◌, inl, inr, Bool, true, false, cond, List, [], ◌∷◌, length, eqb, eqb-true, eq-eqb, refl, sym, ap, ◌∙◌, subst, arith}
use Rattle.std.specs.Prelude.{slice_index, ◌==◌}
use Rattle.std.specs.List.{swap}
use Rattle.std.proofs.lemmas.Bool.{cases_eq}
use Rattle.std.proofs.lemmas.List.Edits.{swapped_from_swap, length-swap}
use Rattle.function_laws.specs.SiftedOrders.{place_of}
use Rattle.node_store.specs.Contents.{IsOrder}

place_once : (xs : List ℕ) (i : ℕ) → i < length xs → ((j : ℕ) → j < i → slice_index xs j ≡ slice_index xs i → ⊥) → place_of (slice_index xs i) xs ≡ i
place_once [] i lt first = absurd (omega arith)
place_once (x ∷ xs) zero lt first = ap (λ b. cond b 0 (suc (place_of x xs))) (eq-eqb x x refl)
place_once (x ∷ xs) (suc i) lt first =
    at (eqb x (slice_index xs i)) refl (place_once xs i (omega arith) (λ j less e. first (suc j) (omega arith) e))
  where
    at : (b : Bool) → eqb x (slice_index xs i) ≡ b → place_of (slice_index xs i) xs ≡ i → cond b 0 (suc (place_of (slice_index xs i) xs)) ≡ suc i
    at true e h = absurd (first 0 (omega arith) (eqb-true x (slice_index xs i) e))
    at false e h = ap suc h

-- a place after the exchange at level l
pub exchange_place : ℕ → ℕ → ℕ
exchange_place l i = if_one (i == l) (l + 1) (if_one (i == (l + 1)) l i)
  where
    if_one : Bool → ℕ → ℕ → ℕ
    if_one true a b = a
    if_one false a b = b

pub place_upper : (l i : ℕ) → i ≡ l → exchange_place l i ≡ l + 1
unfolding exchange_place
place_upper l i e = rw (eq-eqb i l e) refl

pub place_lower : (l i : ℕ) → i ≡ l + 1 → exchange_place l i ≡ l
unfolding exchange_place
place_lower l i e = at (eqb i l) refl
  where
    at : (b : Bool) → eqb i l ≡ b → exchange_place l i ≡ l
    at true h = let x = eqb-true i l h in absurd (omega (arith, x, e))
    at false h = rw (h, eq-eqb i (l + 1) e) refl

pub place_other : (l i : ℕ) → i ≢ l → i ≢ l + 1 → exchange_place l i ≡ i
unfolding exchange_place
place_other l i a b = rw (no i l a, no i (l + 1) b) refl
  where
    no : (x y : ℕ) → x ≢ y → eqb x y ≡ false
    no x y ne = at (eqb x y) refl
      where
        at : (c : Bool) → eqb x y ≡ c → c ≡ false
        at true e = absurd (ne (eqb-true x y e))
        at false e = refl

-- the three cases of a place
pub data Case (l i : ℕ) : Type 0 where
  upper : i ≡ l → exchange_place l i ≡ l + 1 → Case l i
  lower : i ≡ l + 1 → exchange_place l i ≡ l → Case l i
  apart : i ≢ l → i ≢ l + 1 → exchange_place l i ≡ i → Case l i

pub case_of : (l i : ℕ) → Case l i
case_of l i = elim (cases_eq i l) [
  | inl e ↦ upper e (place_upper l i e)
  | inr a ↦ elim (cases_eq i (l + 1)) [ inl e ↦ lower e (place_lower l i e) | inr b ↦ apart a b (place_other l i a b) ]
]

module _ (order : List ℕ) (l : ℕ) (is : IsOrder order) (within : l + 1 < length order) where
  abbrev new_order : List ℕ
  new_order = swap order l (l + 1)

  long : length new_order ≡ length order
  long = length-swap order l (l + 1)

  here : (i : ℕ) → slice_index new_order i ≡ slice_index order (exchange_place l i)
  here i =
      let s = swapped_from_swap order new_order l (l + 1) 0 (omega (arith, within)) within refl in
      elim (case_of l i) [
        | upper e p ↦ ap (slice_index new_order) e ∙ s.0 ∙ ap (slice_index order) (sym p)
        | lower e p ↦ ap (slice_index new_order) e ∙ s.1 ∙ ap (slice_index order) (sym p)
        | apart a b p ↦ s.2 i a b ∙ ap (slice_index order) (sym p)
      ]

  inside : (i : ℕ) → i < length order → exchange_place l i < length order
  inside i lt = elim (case_of l i) [
    | upper e p ↦ omega (arith, p, within)
    | lower e p ↦ omega (arith, p, within)
    | apart a b p ↦ omega (arith, p, lt)
  ]

  once_more : (i j : ℕ) → exchange_place l i ≡ exchange_place l j → i ≡ j
  once_more i j h = elim (case_of l i) [
    | upper e p ↦ elim (case_of l j) [ upper f q ↦ omega (arith, e, f) | lower f q ↦ omega (arith, e, f, p, q, h) | apart a b q ↦ absurd (b (omega (arith, p, q, h))) ]
    | lower e p ↦ elim (case_of l j) [ upper f q ↦ omega (arith, e, f, p, q, h) | lower f q ↦ omega (arith, e, f) | apart a b q ↦ absurd (a (omega (arith, p, q, h))) ]
    | apart a b p ↦ elim (case_of l j) [ upper f q ↦ absurd (b (omega (arith, p, q, h))) | lower f q ↦ absurd (a (omega (arith, p, q, h))) | apart c d q ↦ omega (arith, p, q, h) ]
  ]

  twice : (i : ℕ) → exchange_place l (exchange_place l i) ≡ i
  twice i = elim (case_of l i) [
    | upper e p ↦ place_lower l (exchange_place l i) p ∙ sym e
    | lower e p ↦ place_upper l (exchange_place l i) p ∙ sym e
    | apart a b p ↦ ap (exchange_place l) p ∙ p
  ]

  new_once : (i : ℕ) → i < length order → place_of (slice_index new_order i) new_order ≡ i
  new_once i lt = place_once new_order i (omega (arith, lt, long)) (λ j less e.
      let same : slice_index order (exchange_place l j) ≡ slice_index order (exchange_place l i) = sym (here j) ∙ e ∙ here i in
      let places : exchange_place l j ≡ exchange_place l i = sym (is.once (exchange_place l j) (inside j (omega (arith, less, lt)))) ∙ ap (λ v. place_of v order) same ∙ is.once (exchange_place l i) (inside i lt) in
      let e = once_more j i places in omega (arith, e, less))

  pub new_place : (v : ℕ) → v < length order → place_of v new_order ≡ exchange_place l (place_of v order)
  new_place v lt =
      let p = place_of v order in
      let at : slice_index new_order (exchange_place l p) ≡ v = here (exchange_place l p) ∙ ap (slice_index order) (twice p) ∙ is.there v lt in
      ap (λ x. place_of x new_order) (sym at) ∙ new_once (exchange_place l p) (inside p (is.stands v lt))

  pub exchanged_order : IsOrder new_order
  exchanged_order = record {
    below = λ i lt. subst (λ x. x < length new_order) (sym (here i)) (let b = is.below (exchange_place l i) (inside i (omega (arith, lt, long))) in omega (arith, b, long));
    once = λ i lt. new_once i (omega (arith, lt, long));
    stands = λ v lt. (let p = new_place v (omega (arith, lt, long)) in let i = inside (place_of v order) (is.stands v (omega (arith, lt, long))) in omega (arith, p, i, long));
    there = λ v lt.
        ap (slice_index new_order) (new_place v (omega (arith, lt, long))) ∙ here (exchange_place l (place_of v order)) ∙ ap (slice_index order) (twice (place_of v order)) ∙ is.there v (omega (arith, lt, long));
  }
