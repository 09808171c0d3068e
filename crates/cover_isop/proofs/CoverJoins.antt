-- The function of the cover that three calls make at a variable.
use Rattle.std.proofs.Common.{◌≡◌, ℕ, ◌+◌, ◌*◌, ◌<◌, ◌≤◌, Bool, true, false, true≢false, cond, not, ◌||◌, ◌⊎◌, inl, inr, refl, sym, ap, ◌∙◌, subst}
use Rattle.std.proofs.lemmas.Bool.{or_cases}
use Rattle.edge_bits.specs.Assignments.{bit, set_bit}
use Rattle.edge_bits.proofs.AssignmentLemmas.{bit-set_same, set_bit-below, set_bit-own, set_bit-set_same}
use Rattle.function_laws.specs.Families.{change, union}
use Rattle.function_laws.specs.IrredundantCovers.{cover_value}
use Rattle.function_laws.specs.Values.{choice, disjunction}
use Rattle.function_laws.proofs.CoverLaws.{Covers, LacksOf, changed-covers, changed-has, covers-value, element, fits_with, lacks_element, literal_at, literal_fits, value-covers, within_element}
use Rattle.function_laws.proofs.ValueLemmas.{everywhere}
use Rattle.cover_isop.proofs.CoverFunctions.{same_truth}

or_first : (a b : Bool) → a ≡ true → (a || b) ≡ true
or_first true b h = refl
or_first false b h = absurd (true≢false (sym h))

or_second : (a b : Bool) → b ≡ true → (a || b) ≡ true
or_second true b h = refl
or_second false b h = h

module _ (n m x : ℕ) (p0 p1 p : ℕ → Bool) (few : 2 * n ≤ m) (within : x < n) (lacks0 : LacksOf p0 x) (lacks1 : LacksOf p1 x) where
  pick : Bool → ℕ → Bool
  pick true = p1
  pick false = p0

  pick-lacks : (d : Bool) → LacksOf (pick d) x
  unfolding pick
  pick-lacks true = lacks1
  pick-lacks false = lacks0

  abbrev whole : ℕ → Bool
  whole = union p (union (change p0 (2 * x + 1)) (change p1 (2 * x)))

  members : (k : ℕ) → Covers n m whole k → Covers n m p k ⊎ ((d : Bool) × Covers n m (change (pick d) (element x d)) k)
  unfolding pick
  members k (c, below, member, fitting) = elim (or_cases (p c) (union (change p0 (2 * x + 1)) (change p1 (2 * x)) c) member) [
    | inl own ↦ inl (c, below, own, fitting)
    | inr half ↦ elim (or_cases (change p0 (2 * x + 1) c) (change p1 (2 * x) c) half) [
      | inl low ↦ inr (false, (c, below, low, fitting))
      | inr high ↦ inr (true, (c, below, high, fitting))
    ]
  ]

  own-member : (k : ℕ) → Covers n m p k → Covers n m whole k
  own-member k (c, below, member, fitting) = (c, below, or_first (p c) (union (change p0 (2 * x + 1)) (change p1 (2 * x)) c) member, fitting)

  half-member : (d : Bool) (k : ℕ) → Covers n m (change (pick d) (element x d)) k → Covers n m whole k
  unfolding pick
  half-member true k (c, below, member, fitting) =
      (c, below, or_second (p c) (union (change p0 (2 * x + 1)) (change p1 (2 * x)) c) (or_second (change p0 (2 * x + 1) c) (change p1 (2 * x) c) member), fitting)
  half-member false k (c, below, member, fitting) =
      (c, below, or_second (p c) (union (change p0 (2 * x + 1)) (change p1 (2 * x)) c) (or_first (change p0 (2 * x + 1) c) (change p1 (2 * x) c) member), fitting)

  lacks : (d : Bool) (c : ℕ) → pick d c ≡ true → bit c (element x d) ≡ false
  lacks d = lacks_element (pick d) x d (pick-lacks d)

  half-covers : (d : Bool) (k : ℕ) → Covers n m (change (pick d) (element x d)) k → (bit k x ≡ d) × Covers n m (pick d) k
  half-covers d k h = (
    literal_at n h.0 k x d within h.3 (changed-has m (element x d) (pick d) (lacks d) h.0 h.2).0,
    changed-covers n m k (element x d) (pick d) (within_element n m x d few within) (lacks d) h,
  )

  covers-half : (d : Bool) (k : ℕ) → bit k x ≡ d → Covers n m (pick d) k → Covers n m (change (pick d) (element x d)) k
  covers-half d k is h = (
    set_bit h.0 (element x d) true,
    set_bit-below m h.0 (element x d) true h.1 (within_element n m x d few within),
    ap (λ b. pick d (set_bit (set_bit h.0 (element x d) true) (element x d) (not b))) (bit-set_same h.0 (element x d) true)
        ∙ ap (pick d) (set_bit-set_same h.0 (element x d) true false ∙ ap (set_bit h.0 (element x d)) (sym (lacks d h.0 h.2)) ∙ set_bit-own h.0 (element x d)) ∙ h.2,
    fits_with n h.0 k x (element x d) h.3 (literal_fits k x d is),
  )

  at_bit : (d : Bool) (k : ℕ) → bit k x ≡ d → cover_value n m whole k ≡ (cover_value n m (pick d) k || cover_value n m p k)
  at_bit d k is = same_truth (cover_value n m whole k) (cover_value n m (pick d) k || cover_value n m p k) to back
    where
      to : cover_value n m whole k ≡ true → (cover_value n m (pick d) k || cover_value n m p k) ≡ true
      to h = elim (members k (value-covers n m whole k h)) [
        | inl own ↦ or_second (cover_value n m (pick d) k) (cover_value n m p k) (covers-value n m p k own)
        | inr half ↦ (let c = half-covers half.0 k half.1 in
            or_first (cover_value n m (pick d) k) (cover_value n m p k) (covers-value n m (pick d) k (subst (λ e. Covers n m (pick e) k) (sym c.0 ∙ is) c.1)))
      ]

      back : (cover_value n m (pick d) k || cover_value n m p k) ≡ true → cover_value n m whole k ≡ true
      back h = covers-value n m whole k (elim (or_cases (cover_value n m (pick d) k) (cover_value n m p k) h) [
        | inl half ↦ half-member d k (covers-half d k is (value-covers n m (pick d) k half))
        | inr own ↦ own-member k (value-covers n m p k own)
      ])

  -- where the variable is 1 the second half's function or the third's, elsewhere the first half's or the third's
  pub cover-made : cover_value n m whole ≡ choice x (disjunction (cover_value n m p1) (cover_value n m p)) (disjunction (cover_value n m p0) (cover_value n m p))
  unfolding pick
  cover-made = everywhere (cover_value n m whole) (choice x (disjunction (cover_value n m p1) (cover_value n m p)) (disjunction (cover_value n m p0) (cover_value n m p))) (λ k. at k (bit k x) refl)
    where
      at : (k : ℕ) (d : Bool) → bit k x ≡ d → cover_value n m whole k ≡ choice x (disjunction (cover_value n m p1) (cover_value n m p)) (disjunction (cover_value n m p0) (cover_value n m p)) k
      at k true is = at_bit true k is ∙ sym (ap (λ b. cond b (cover_value n m p1 k || cover_value n m p k) (cover_value n m p0 k || cover_value n m p k)) is)
      at k false is = at_bit false k is ∙ sym (ap (λ b. cond b (cover_value n m p1 k || cover_value n m p k) (cover_value n m p0 k || cover_value n m p k)) is)
