-- The terminal cases of operations on families.
use Rattle.std.proofs.Common.{◌≡◌, ℕ, ℤ, Bool, true, false, not, ◌&&◌, ◌||◌, ◌⊎◌, inl, inr, refl, ap, arith}
use Rattle.std.proofs.Math.Bool.{and-false, and-true, or-false}
use Rattle.edge_bits.specs.Permanent.{base_edge, empty_edge, empty_slot}
use Rattle.edge_bits.specs.declared.edges.Edge.{Edge}
use Rattle.edge_bits.specs.declared.edges.Kind.TheVariants.{Zdd}
use Rattle.function_laws.specs.Families.{base, empty}
use Rattle.function_laws.specs.Kinds.{place}
use Rattle.function_laws.proofs.ValueLemmas.{everywhere}
use Rattle.node_store.specs.Views.{View, family_at, IsLeafOf, no_member, only_base}

-- a leaf is Empty or Base
pub leaf_family : (w : View) (e : Edge) (x : ℤ) → IsLeafOf Zdd e (family_at w e) x → ((e ≡ empty_edge) × (family_at w e ≡ empty)) ⊎ ((e ≡ base_edge) × (family_at w e ≡ base))
leaf_family w e x leaf = by_leaf e (family_at w e) x leaf
  where
    by_leaf : (e : Edge) (f : ℕ → Bool) (x : ℤ) → IsLeafOf Zdd e f x → ((e ≡ empty_edge) × (f ≡ empty)) ⊎ ((e ≡ base_edge) × (f ≡ base))
    by_leaf _ _ _ no_member = inl (refl, refl)
    by_leaf _ _ _ only_base = inr (refl, refl)

-- a leaf that is not Empty is Base
pub is_base : (w : View) (e : Edge) (x : ℤ) → IsLeafOf Zdd e (family_at w e) x → (e.index ≡ empty_slot → ⊥) → (e ≡ base_edge) × (family_at w e ≡ base)
is_base w e x leaf ne = elim (leaf_family w e x leaf) [ inl one ↦ absurd (ne (ap (λ (y : Edge). y.index) one.0)) | inr two ↦ two ]

pub is_empty : (w : View) (e : Edge) (x : ℤ) → IsLeafOf Zdd e (family_at w e) x → e.index ≡ empty_slot → family_at w e ≡ empty
is_empty w e x leaf here = elim (leaf_family w e x leaf) [
  | inl one ↦ one.1
  | inr two ↦ (let clash = ap (λ (y : Edge). y.index) two.0 in absurd (omega arith))
]

with_itself : (b : Bool) → ((b || b) ≡ b) × ((b && b) ≡ b) × ((b && not b) ≡ false)
with_itself true = (refl, refl, refl)
with_itself false = (refl, refl, refl)

-- the operations of Base with a leaf
pub base_or : (w : View) (e : Edge) (x : ℤ) → IsLeafOf Zdd e (family_at w e) x → place (λ a b. a || b) base (family_at w e) ≡ base
base_or w e x leaf = elim (leaf_family w e x leaf) [
  | inl one ↦ rw one.1 (everywhere (place (λ a b. a || b) base empty) base (λ a. or-false (base a)))
  | inr two ↦ rw two.1 (everywhere (place (λ a b. a || b) base base) base (λ a. (with_itself (base a)).0))
]

pub base_and : (w : View) (e : Edge) (x : ℤ) → IsLeafOf Zdd e (family_at w e) x → place (λ a b. a && b) base (family_at w e) ≡ family_at w e
base_and w e x leaf = elim (leaf_family w e x leaf) [
  | inl one ↦ rw one.1 (everywhere (place (λ a b. a && b) base empty) empty (λ a. and-false (base a)))
  | inr two ↦ rw two.1 (everywhere (place (λ a b. a && b) base base) base (λ a. (with_itself (base a)).1))
]

pub and_not_base : (w : View) (e : Edge) (x : ℤ) → IsLeafOf Zdd e (family_at w e) x → place (λ a b. a && not b) (family_at w e) base ≡ empty
and_not_base w e x leaf = elim (leaf_family w e x leaf) [
  | inl one ↦ rw one.1 (everywhere (place (λ a b. a && not b) empty base) empty (λ a. refl))
  | inr two ↦ rw two.1 (everywhere (place (λ a b. a && not b) base base) empty (λ a. (with_itself (base a)).2))
]

pub and_not_empty : (p : ℕ → Bool) → place (λ a b. a && not b) p empty ≡ p
and_not_empty p = everywhere (place (λ a b. a && not b) p empty) p (λ a. and-true (p a))
