-- When two functions are one, for a diagram.
use Rattle.std.proofs.Common.{◌≡◌, ℕ, zero, suc, ◌+◌, ◌^◌, ◌<◌, ◌≤◌, ◌⊎◌, inl, inr, Bool, true, false, not, ◌||◌, ⊎_elim, ℤ, List, length, refl, sym, ap, ◌∙◌, subst, arith, pow_mono}
use Rattle.std.proofs.Math.Nat.{pow-suc}
use Rattle.std.specs.Int.{bit_at}
use Rattle.std.specs.Ordering.{int_eq}
use Rattle.std.proofs.lemmas.Nat.{pow_pos}
use Rattle.std.proofs.lemmas.Nat.Bits.{bit_at_above}
use Rattle.std.proofs.lemmas.Bool.{cases_eq, or_cases}
use Rattle.std.proofs.lemmas.Bool.Decides.{Decides-int_eq}
use Rattle.edge_bits.specs.Assignments.{bit, set_bit}
use Rattle.edge_bits.proofs.AssignmentLemmas.{bit_at-set_same, bit_at-set_other, below_from_bits, set_bit-own}
use Rattle.function_laws.specs.Lists.{all_below}
use Rattle.function_laws.specs.Values.{negation, differs, IsOf}
use Rattle.function_laws.specs.Families.{IsWithout}
use Rattle.function_laws.proofs.ListLemmas.{all_below-true, true-all_below}
use Rattle.function_laws.proofs.ValueLemmas.{everywhere}
use Rattle.function_laws.proofs.WidthLemmas.{same_everywhere}
use Rattle.function_laws.specs.Kinds.{Denoted, BddFunction, AddFunction, ZddFamily, opposite}
use Rattle.function_laws.specs.Sizes.{Orders, agree, all_parts, diagram, is_one, size}
use Rattle.function_laws.proofs.DistinctLemmas.{Apart, Matched, Matched-distinct, no_longer}

same_bool : (a b : Bool) → not (differs a b) ≡ true → a ≡ b
same_bool true true h = refl
same_bool true false h = cc
same_bool false true h = cc
same_bool false false h = refl

bool_same : (a b : Bool) → a ≡ b → not (differs a b) ≡ true
bool_same true true h = refl
bool_same true false h = cc
bool_same false true h = cc
bool_same false false h = refl

abbrev Equal : {X : Type 0} → ℕ → (ℕ → X) → (ℕ → X) → Type 0
Equal n f g = (k : ℕ) → k < 2 ^ n → f k ≡ g k

Equal-agree : (n : ℕ) (f g : ℕ → Bool) → agree n f g ≡ true → Equal n f g
Equal-agree n f g h k lt = same_bool (f k) (g k) (true-all_below (2 ^ n) k (λ k. not (differs (f k) (g k))) h lt)

agree-Equal : (n : ℕ) (f g : ℕ → Bool) → Equal n f g → agree n f g ≡ true
agree-Equal n f g h = all_below-true (2 ^ n) (λ k. not (differs (f k) (g k))) (λ k lt. bool_same (f k) (g k) (h k lt))

abbrev numbers_agree : ℕ → (ℕ → ℤ) → (ℕ → ℤ) → Bool
numbers_agree n f g = all_below (2 ^ n) (λ k. int_eq (f k) (g k))

Equal-numbers : (n : ℕ) (f g : ℕ → ℤ) → numbers_agree n f g ≡ true → Equal n f g
Equal-numbers n f g h k lt = (Decides-int_eq (f k) (g k)).0 (true-all_below (2 ^ n) k (λ k. int_eq (f k) (g k)) h lt)

numbers-Equal : (n : ℕ) (f g : ℕ → ℤ) → Equal n f g → numbers_agree n f g ≡ true
numbers-Equal n f g h = all_below-true (2 ^ n) (λ k. int_eq (f k) (g k)) (λ k lt. (Decides-int_eq (f k) (g k)).1 (h k lt))

-- the two are equal at each assignment of the variables, or the elements; of BDDs, or opposite at each
pub Alike : Orders → Denoted → Denoted → Type 0
Alike o (BddFunction f) (BddFunction g) = Equal (length o.variables) f g ⊎ Equal (length o.variables) (negation f) g
Alike o (AddFunction f) (AddFunction g) = Equal (length o.variables) f g
Alike o (ZddFamily f) (ZddFamily g) = Equal (length o.elements) f g
Alike o _ _ = ⊥

from_agree : (n : ℕ) (f g : ℕ → Bool) → (agree n f g || agree n (negation f) g) ≡ true → Equal n f g ⊎ Equal n (negation f) g
from_agree n f g h = elim (or_cases (agree n f g) (agree n (negation f) g) h) [ inl a ↦ inl (Equal-agree n f g a) | inr a ↦ inr (Equal-agree n (negation f) g a) ]

or_left : (a b : Bool) → a ≡ true → (a || b) ≡ true
or_left true b h = refl
or_left false b h = cc

or_right : (a b : Bool) → b ≡ true → (a || b) ≡ true
or_right true b h = refl
or_right false b h = h

to_agree : (n : ℕ) (f g : ℕ → Bool) → Equal n f g ⊎ Equal n (negation f) g → (agree n f g || agree n (negation f) g) ≡ true
to_agree n f g (inl h) = or_left (agree n f g) (agree n (negation f) g) (agree-Equal n f g h)
to_agree n f g (inr h) = or_right (agree n f g) (agree n (negation f) g) (agree-Equal n (negation f) g h)

pub Alike-is_one : (o : Orders) (f g : Denoted) → is_one o f g ≡ true → Alike o f g
unfolding Alike
Alike-is_one o (BddFunction f) (BddFunction g) h = from_agree (length o.variables) f g h
Alike-is_one o (BddFunction f) (AddFunction g) h = cc
Alike-is_one o (BddFunction f) (ZddFamily g) h = cc
Alike-is_one o (AddFunction f) (BddFunction g) h = cc
Alike-is_one o (AddFunction f) (AddFunction g) h = Equal-numbers (length o.variables) f g h
Alike-is_one o (AddFunction f) (ZddFamily g) h = cc
Alike-is_one o (ZddFamily f) (BddFunction g) h = cc
Alike-is_one o (ZddFamily f) (AddFunction g) h = cc
Alike-is_one o (ZddFamily f) (ZddFamily g) h = Equal-agree (length o.elements) f g h

pub is_one-Alike : (o : Orders) (f g : Denoted) → Alike o f g → is_one o f g ≡ true
unfolding Alike
is_one-Alike o (BddFunction f) (BddFunction g) h = to_agree (length o.variables) f g h
is_one-Alike o (BddFunction f) (AddFunction g) h = absurd h
is_one-Alike o (BddFunction f) (ZddFamily g) h = absurd h
is_one-Alike o (AddFunction f) (BddFunction g) h = absurd h
is_one-Alike o (AddFunction f) (AddFunction g) h = numbers-Equal (length o.variables) f g h
is_one-Alike o (AddFunction f) (ZddFamily g) h = absurd h
is_one-Alike o (ZddFamily f) (BddFunction g) h = absurd h
is_one-Alike o (ZddFamily f) (AddFunction g) h = absurd h
is_one-Alike o (ZddFamily f) (ZddFamily g) h = agree-Equal (length o.elements) f g h

not_not : (b : Bool) → not (not b) ≡ b
not_not true = refl
not_not false = refl

Alike-refl : (o : Orders) (f : Denoted) → Alike o f f
unfolding Alike
Alike-refl o (BddFunction f) = inl (λ k lt. refl)
Alike-refl o (AddFunction f) = λ k lt. refl
Alike-refl o (ZddFamily f) = λ k lt. refl

Alike-sym : (o : Orders) (f g : Denoted) → Alike o f g → Alike o g f
unfolding Alike
Alike-sym o (BddFunction f) (BddFunction g) (inl h) = inl (λ k lt. sym (h k lt))
Alike-sym o (BddFunction f) (BddFunction g) (inr h) = inr (λ k lt. ap not (sym (h k lt)) ∙ not_not (f k))
Alike-sym o (BddFunction f) (AddFunction g) h = absurd h
Alike-sym o (BddFunction f) (ZddFamily g) h = absurd h
Alike-sym o (AddFunction f) (BddFunction g) h = absurd h
Alike-sym o (AddFunction f) (AddFunction g) h = λ k lt. sym (h k lt)
Alike-sym o (AddFunction f) (ZddFamily g) h = absurd h
Alike-sym o (ZddFamily f) (BddFunction g) h = absurd h
Alike-sym o (ZddFamily f) (AddFunction g) h = absurd h
Alike-sym o (ZddFamily f) (ZddFamily g) h = λ k lt. sym (h k lt)

both_bdds : (n : ℕ) (f g h : ℕ → Bool) → Equal n f g ⊎ Equal n (negation f) g → Equal n g h ⊎ Equal n (negation g) h → Equal n f h ⊎ Equal n (negation f) h
both_bdds n f g h (inl a) (inl b) = inl (λ k lt. a k lt ∙ b k lt)
both_bdds n f g h (inl a) (inr b) = inr (λ k lt. ap not (a k lt) ∙ b k lt)
both_bdds n f g h (inr a) (inl b) = inr (λ k lt. a k lt ∙ b k lt)
both_bdds n f g h (inr a) (inr b) = inl (λ k lt. sym (not_not (f k)) ∙ ap not (a k lt) ∙ b k lt)

Alike-trans : (o : Orders) (f g h : Denoted) → Alike o f g → Alike o g h → Alike o f h
unfolding Alike
Alike-trans o (BddFunction f) (BddFunction g) (BddFunction h) a b = both_bdds (length o.variables) f g h a b
Alike-trans o (AddFunction f) (AddFunction g) (AddFunction h) a b = λ k lt. a k lt ∙ b k lt
Alike-trans o (ZddFamily f) (ZddFamily g) (ZddFamily h) a b = λ k lt. a k lt ∙ b k lt
Alike-trans o (BddFunction f) (BddFunction g) (AddFunction h) a b = absurd b
Alike-trans o (BddFunction f) (BddFunction g) (ZddFamily h) a b = absurd b
Alike-trans o (BddFunction f) (AddFunction g) h a b = absurd a
Alike-trans o (BddFunction f) (ZddFamily g) h a b = absurd a
Alike-trans o (AddFunction f) (BddFunction g) h a b = absurd a
Alike-trans o (AddFunction f) (AddFunction g) (BddFunction h) a b = absurd b
Alike-trans o (AddFunction f) (AddFunction g) (ZddFamily h) a b = absurd b
Alike-trans o (AddFunction f) (ZddFamily g) h a b = absurd a
Alike-trans o (ZddFamily f) (BddFunction g) h a b = absurd a
Alike-trans o (ZddFamily f) (AddFunction g) h a b = absurd a
Alike-trans o (ZddFamily f) (ZddFamily g) (BddFunction h) a b = absurd b
Alike-trans o (ZddFamily f) (ZddFamily g) (AddFunction h) a b = absurd b

pub is_one-refl : (o : Orders) (f : Denoted) → is_one o f f ≡ true
is_one-refl o f = is_one-Alike o f f (Alike-refl o f)

pub is_one-sym : (o : Orders) (f g : Denoted) → is_one o f g ≡ true → is_one o g f ≡ true
is_one-sym o f g h = is_one-Alike o g f (Alike-sym o f g (Alike-is_one o f g h))

pub is_one-trans : (o : Orders) (f g h : Denoted) → is_one o f g ≡ true → is_one o g h ≡ true → is_one o f h ≡ true
is_one-trans o f g h a b = is_one-Alike o f h (Alike-trans o f g h (Alike-is_one o f g a) (Alike-is_one o g h b))

-- a function and its opposite are one
pub is_one-opposite : (o : Orders) (f : Denoted) → is_one o f (opposite f) ≡ true
is_one-opposite o (BddFunction f) = to_agree (length o.variables) f (negation f) (inr (λ k lt. refl))
is_one-opposite o (AddFunction f) = is_one-refl o (AddFunction f)
is_one-opposite o (ZddFamily f) = is_one-refl o (ZddFamily f)

-- Families whose members have the first m elements alone are one if they are below 2 ^ m.
clear_top : (m k : ℕ) → k < 2 ^ suc m → set_bit k m false < 2 ^ m
clear_top m k below = below_from_bits m (set_bit k m false) (λ i from.
    ⊎_elim (λ top. subst (λ v. bit_at (set_bit k m false) v ≡ 0) (sym top) (bit_at-set_same k m false))
    (λ other. bit_at-set_other k m i false other ∙ bit_at_above k (suc m) i below (omega arith)) (cases_eq i m))

below_power : (k : ℕ) → k < 2 ^ k
below_power zero = pow_pos 0
below_power (suc k) = omega (arith, below_power k, pow-suc 2 k)

module _ (m : ℕ) (p q : ℕ → Bool) (of_p : (e : ℕ) → m ≤ e → IsWithout p e) (of_q : (e : ℕ) → m ≤ e → IsWithout q e) (same : Equal m p q) where
  members_up_to : (j k : ℕ) → k < 2 ^ (j + m) → p k ≡ q k
  members_up_to zero k below = same k (subst (λ x. k < 2 ^ x) (omega arith) below)
  members_up_to (suc j) k below = by_top (bit k (j + m)) refl (λ lower. members_up_to j k lower)
    where
      by_top : (b : Bool) → bit k (j + m) ≡ b → (k < 2 ^ (j + m) → p k ≡ q k) → p k ≡ q k
      by_top true has rest = of_p (j + m) (omega arith) k has ∙ sym (of_q (j + m) (omega arith) k has)
      by_top false lacks rest =
          let kept : set_bit k (j + m) false ≡ k = ap (set_bit k (j + m)) (sym lacks) ∙ set_bit-own k (j + m) in
          rest (subst (λ x. x < 2 ^ (j + m)) kept (clear_top (j + m) k (subst (λ x. k < 2 ^ x) (omega arith) below)))

  pub same_family : p ≡ q
  same_family = everywhere p q (λ k. let high : 2 ^ k ≤ 2 ^ (k + m) = pow_mono (omega arith) in members_up_to k k (omega (arith, below_power k, high)))

-- a function of the variables, or a family of the elements, of both orders
abbrev pub IsWithin : Orders → Denoted → Type 0
IsWithin o (BddFunction f) = IsOf (length o.variables) f
IsWithin o (AddFunction f) = IsOf (length o.variables) f
IsWithin o (ZddFamily p) = (e : ℕ) → length o.elements ≤ e → IsWithout p e

-- two that are one are equal, or opposite
pub same_or_opposite : (o : Orders) (f g : Denoted) → IsWithin o f → IsWithin o g → is_one o f g ≡ true → (f ≡ g) ⊎ (opposite f ≡ g)
unfolding Alike
same_or_opposite o f g wf wg h = by_kind f g wf wg (Alike-is_one o f g h)
  where
    by_kind : (f g : Denoted) → IsWithin o f → IsWithin o g → Alike o f g → (f ≡ g) ⊎ (opposite f ≡ g)
    by_kind (BddFunction f) (BddFunction g) wf wg (inl h) = inl (ap BddFunction (same_everywhere (length o.variables) f g wf wg h))
    by_kind (BddFunction f) (BddFunction g) wf wg (inr h) =
        inr (ap BddFunction (same_everywhere (length o.variables) (negation f) g (λ v le k b. ap not (wf v le k b)) wg h))
    by_kind (AddFunction f) (AddFunction g) wf wg h = inl (ap AddFunction (same_everywhere (length o.variables) f g wf wg h))
    by_kind (ZddFamily f) (ZddFamily g) wf wg h = inl (ap ZddFamily (same_family (length o.elements) f g wf wg h))
    by_kind (BddFunction f) (AddFunction g) wf wg h = absurd h
    by_kind (BddFunction f) (ZddFamily g) wf wg h = absurd h
    by_kind (AddFunction f) (BddFunction g) wf wg h = absurd h
    by_kind (AddFunction f) (ZddFamily g) wf wg h = absurd h
    by_kind (ZddFamily f) (BddFunction g) wf wg h = absurd h
    by_kind (ZddFamily f) (AddFunction g) wf wg h = absurd h

-- different parts of some functions are no more than the size
pub size_counts : (o : Orders) (fs parts : List Denoted) → Apart (is_one o) parts → Matched (is_one o) parts (all_parts o fs) → length parts ≤ size o fs
size_counts o fs parts apart matched =
    no_longer (is_one o) (is_one-sym o) (is_one-trans o) parts (diagram o fs) apart
    (λ x i. let y = matched x i in let z = Matched-distinct (is_one o) (is_one-refl o) (all_parts o fs) y.0 y.1 in (z.0, z.1, is_one-trans o x y.0 z.0 y.2 z.2))
