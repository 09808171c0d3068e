-- A walk down a family along a combination.
use Rattle.edge_bits.specs.Permanent.{first_element}
use Rattle.std.proofs.Common.{◌≡◌, ◌≢◌, ℕ, zero, suc, ◌+◌, ◌-◌, ◌<◌, ◌≤◌, eqb, Bool, true, false, cond, List, [], ◌∷◌, length, get_or, set, ℤ, inl, inr, refl, sym, ap, ◌∙◌, subst, arith, eq-eqb, ne_eqb, get_or-set_same, get_or-set_other, of_z, w64}
use Rattle.std.specs.List.{count_by}
use Rattle.std.proofs.lemmas.List.Sums.{sum_by-cons}
use Rattle.std.proofs.lemmas.Bool.{cases_eq}
use Rattle.edge_bits.specs.declared.edges.Edge.{Edge}
use Rattle.edge_bits.specs.declared.edges.Kind.TheVariants.{Zdd}
use Rattle.edge_bits.specs.Assignments.{bit, set_bit}
use Rattle.edge_bits.specs.Reading.{element_of}
use Rattle.edge_bits.proofs.AssignmentLemmas.{bit-set_same, bit-set_other, same_bits}
use Rattle.function_laws.specs.Values.{assignment_of}
use Rattle.function_laws.proofs.BitLists.{bit-assignment_of}
use Rattle.node_store.specs.Views.{View, Is, IsInner, IsLeaf, IsLeafOf, Kept, family_at, no_member, only_base}
use Rattle.node_store.specs.ViewLaws.{Kept-refl, Kept-trans, level-grown, top-grown}
use Rattle.zdd_ops.proofs.Combinations.{bit-zero}

abbrev pub set_in : List Bool → ℕ
set_in bits = count_by (λ b. b) bits

-- The walk has come to an edge. The rest is the combination without the elements whose then arcs were taken, and has so many elements.
pub record Walked (v w : View) (p at : Edge) (bits : List Bool) (left : ℕ) : Type 0 where
  pub kept : Kept v w
  pub edge : Is Zdd w at
  pub rest : List Bool
  pub long : length rest ≡ length bits
  pub counted : left ≡ set_in rest
  pub value : family_at w at (assignment_of rest) ≡ family_at v p (assignment_of bits)
  pub below : (e : ℕ) → w.top at.index ≤ w.level (first_element + e) → get_or rest e false ≡ get_or bits e false

set_in-cons : (b : Bool) (bits : List Bool) → set_in (b ∷ bits) ≡ cond b 1 0 + set_in bits
set_in-cons b bits = sum_by-cons (λ x. cond x 1 0) b bits

-- one bit fewer
set_in-cleared : (bits : List Bool) (i : ℕ) → i < length bits → get_or bits i false ≡ true → set_in (set bits i false) + 1 ≡ set_in bits
set_in-cleared [] i lt is = absurd (omega arith)
set_in-cleared (true ∷ bits) zero lt is = let a = set_in-cons true bits in let b = set_in-cons false bits in omega arith
set_in-cleared (false ∷ bits) zero lt is = cc
set_in-cleared (true ∷ bits) (suc i) lt is =
    let r = set_in-cleared bits i (omega arith) is in let a = set_in-cons true bits in let b = set_in-cons true (set bits i false) in omega arith
set_in-cleared (false ∷ bits) (suc i) lt is =
    let r = set_in-cleared bits i (omega arith) is in let a = set_in-cons false bits in let b = set_in-cons false (set bits i false) in omega arith

-- no bit at all
none-set : (bits : List Bool) → set_in bits ≡ 0 → (i : ℕ) → get_or bits i false ≡ false
none-set [] none i = refl
none-set (true ∷ bits) none i = let a = set_in-cons true bits in absurd (omega arith)
none-set (false ∷ bits) none zero = refl
none-set (false ∷ bits) none (suc i) = let a = set_in-cons false bits in none-set bits (omega arith) i

set-none : (bits : List Bool) → ((i : ℕ) → get_or bits i false ≡ false) → set_in bits ≡ 0
set-none [] none = refl
set-none (true ∷ bits) none = let never = none 0 in cc
set-none (false ∷ bits) none = let a = set_in-cons false bits in let b = set-none bits (λ i. none (suc i)) in omega arith

-- the number of a list with one bit cleared
cleared-is : (bits : List Bool) (i : ℕ) → i < length bits → assignment_of (set bits i false) ≡ set_bit (assignment_of bits) i false
cleared-is bits i lt = same_bits (assignment_of (set bits i false)) (set_bit (assignment_of bits) i false) (λ u.
    bit-assignment_of (set bits i false) u ∙ elim (cases_eq u i) [
      | inl same ↦ subst (λ x. get_or (set bits i false) x false ≡ bit (set_bit (assignment_of bits) i false) x) (sym same)
          (get_or-set_same bits i false false lt ∙ sym (bit-set_same (assignment_of bits) i false))
      | inr apart ↦ get_or-set_other bits i u false false apart ∙ sym (bit-assignment_of bits u) ∙ sym (bit-set_other (assignment_of bits) i u false apart)
    ])

length-cleared : (bits : List Bool) (i : ℕ) → length (set bits i false) ≡ length bits
length-cleared [] i = refl
length-cleared (b ∷ bits) zero = refl
length-cleared (b ∷ bits) (suc i) = ap suc (length-cleared bits i)

pub Walked-start : (v : View) (p : Edge) (bits : List Bool) → Is Zdd v p → Walked v v p p bits (set_in bits)
Walked-start v p bits d = record {
  kept = Kept-refl v;
  edge = d;
  rest = bits;
  long = refl;
  counted = refl;
  value = refl;
  below = λ e le. refl;
}

module _ (v a b : View) (p at : Edge) (bits : List Bool) (left : ℕ) (w : Walked v a p at bits left) (k : Kept a b) where
  same_top : b.top at.index ≡ a.top at.index
  same_top = top-grown Zdd k.grown w.edge

  module _ (x : ℕ) (hi lo : Edge) (i : IsInner Zdd b at (family_at a at) x hi lo) where
    -- the node's element
    e_is : first_element + element_of x ≡ x
    e_is = let r = i.in_range.0 in omega arith

    pub element-in : (length bits ≡ v.elements) → element_of x < length bits
    element-in long = let r = i.in_range.0 in let q = i.in_range.1 in let n = k.grown.elements in let m = w.kept.grown.elements in omega arith

    rest_bit : get_or w.rest (element_of x) false ≡ get_or bits (element_of x) false
    rest_bit = w.below (element_of x) (let here = i.here in let t = same_top in let l = level-grown k.grown x in
        let same = ap a.level e_is in omega arith)

    value_then : get_or bits (element_of x) false ≡ true → family_at a at (assignment_of w.rest) ≡ family_at b hi (set_bit (assignment_of w.rest) (element_of x) false)
    value_then has = ap (λ (f : ℕ → Bool). f (assignment_of w.rest)) i.splits.is
        ∙ ap (λ c. cond c (family_at b hi (set_bit (assignment_of w.rest) (element_of x) false)) (family_at b lo (assignment_of w.rest))) (bit-assignment_of w.rest (element_of x) ∙ rest_bit ∙ has)

    value_else : get_or bits (element_of x) false ≡ false → family_at a at (assignment_of w.rest) ≡ family_at b lo (assignment_of w.rest)
    value_else lacks = ap (λ (f : ℕ → Bool). f (assignment_of w.rest)) i.splits.is
        ∙ ap (λ c. cond c (family_at b hi (set_bit (assignment_of w.rest) (element_of x) false)) (family_at b lo (assignment_of w.rest))) (bit-assignment_of w.rest (element_of x) ∙ rest_bit ∙ lacks)

    further : (e : ℕ) → b.level x < b.level (first_element + e) → get_or w.rest e false ≡ get_or bits e false
    further e lt = w.below e (let here = i.here in let t = same_top in let l = level-grown k.grown (first_element + e) in omega arith)

    pub Walked-then : element_of x < length bits → get_or bits (element_of x) false ≡ true → Walked v b p hi bits (left - 1)
    Walked-then inside has =
        let within : element_of x < length w.rest = subst (λ n. element_of x < n) (sym w.long) inside in record {
          kept = Kept-trans w.kept k;
          edge = i.splits.hi_is;
          rest = set w.rest (element_of x) false;
          long = length-cleared w.rest (element_of x) ∙ w.long;
          counted = let c = set_in-cleared w.rest (element_of x) within (rest_bit ∙ has) in let d = w.counted in omega arith;
          value = ap (family_at b hi) (cleared-is w.rest (element_of x) within) ∙ sym (value_then has) ∙ w.value;
          below = λ e le.
              let down = i.hi_top in
              let lt : b.level x < b.level (first_element + e) = omega arith in
              let apart : e ≢ element_of x = λ same. let up = ap (λ n. b.level (first_element + n)) same in let here = ap b.level e_is in omega arith in
              get_or-set_other w.rest (element_of x) e false false apart ∙ further e lt;
        }

    pub Walked-else : get_or bits (element_of x) false ≡ false → Walked v b p lo bits left
    Walked-else lacks = record {
      kept = Kept-trans w.kept k;
      edge = i.splits.lo_is;
      rest = w.rest;
      long = w.long;
      counted = w.counted;
      value = sym (value_else lacks) ∙ w.value;
      below = λ e le. further e (let down = i.lo_top in omega arith);
    }

    pub Walked-room : get_or bits (element_of x) false ≡ true → element_of x < length bits → 1 ≤ left
    Walked-room has inside =
        let within : element_of x < length w.rest = subst (λ n. element_of x < n) (sym w.long) inside in
        let c = set_in-cleared w.rest (element_of x) within (rest_bit ∙ has) in let d = w.counted in omega arith

  -- the end
  rest_zero : left ≡ 0 → assignment_of w.rest ≡ 0
  rest_zero none = same_bits (assignment_of w.rest) 0 (λ u. bit-assignment_of w.rest u ∙ none-set w.rest (sym w.counted ∙ none) u ∙ sym (bit-zero u))

  zero_rest : assignment_of w.rest ≡ 0 → left ≡ 0
  zero_rest none = w.counted ∙ set-none w.rest (λ u. sym (bit-assignment_of w.rest u) ∙ ap (λ n. bit n u) none ∙ bit-zero u)

  at_base : eqb left 0 ≡ eqb (assignment_of w.rest) 0
  at_base = elim (cases_eq left 0) [
    | inl none ↦ eq-eqb left 0 none ∙ sym (eq-eqb (assignment_of w.rest) 0 (rest_zero none))
    | inr some ↦ ne_eqb left 0 some ∙ sym (ne_eqb (assignment_of w.rest) 0 (λ none. some (zero_rest none)))
  ]

  end_one : (e : Edge) (f : ℕ → Bool) (x : ℤ) → IsLeafOf Zdd e f x → of_z w64 x ≡ 1 → eqb left 0 ≡ f (assignment_of w.rest)
  end_one _ _ _ no_member is = cc
  end_one _ _ _ only_base is = at_base

  end_other : (e : Edge) (f : ℕ → Bool) (x : ℤ) → IsLeafOf Zdd e f x → (of_z w64 x ≡ 1 → ⊥) → eqb (of_z w64 x) 1 ≡ f (assignment_of w.rest)
  end_other _ _ _ no_member is = refl
  end_other _ _ _ only_base is = absurd (is refl)

  pub Walked-end_one : (x : ℤ) → IsLeaf Zdd b at (family_at a at) x → of_z w64 x ≡ 1 → eqb left 0 ≡ family_at v p (assignment_of bits)
  Walked-end_one x i is = end_one at (family_at a at) x i.leaf is ∙ w.value

  pub Walked-end_other : (x : ℤ) → IsLeaf Zdd b at (family_at a at) x → (of_z w64 x ≡ 1 → ⊥) → eqb (of_z w64 x) 1 ≡ family_at v p (assignment_of bits)
  Walked-end_other x i is = end_other at (family_at a at) x i.leaf is ∙ w.value
