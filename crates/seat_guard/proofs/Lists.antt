-- Lists, and what holds of each of their elements.
use Rattle.std.proofs.Common.{◌≡◌, ◌≢◌, ◌⊎◌, ℕ, zero, suc, Bool, true, false, List, [], ◌∷◌, ◌++◌, map, length, set, refl, ap, sym, subst, ⊎_elim, inl, inr, true≢false}
use mathlib.Core.Option.{some, some-injective, some-ne-none}
use lib.ListN.{get_elem?}
use Rattle.atomic_table.proofs.Lists.{at_set}
use Rattle.function_laws.specs.SessionEntries.{Each}

module _ {A : Type 0} where
  -- the last element has the last index
  pub at_end : (l : List A) (a b : A) (j : ℕ) → get_elem? (l ++ a ∷ []) j ≡ some b → (get_elem? l j ≡ some b) ⊎ ((j ≡ length l) × (a ≡ b))
  at_end [] a b zero e = inr (refl, some-injective a b e)
  at_end [] a b (suc j) e = absurd (some-ne-none b (sym e))
  at_end (x ∷ xs) a b zero e = inl e
  at_end (x ∷ xs) a b (suc j) e = ⊎_elim (λ t. inl t) (λ t. inr (ap suc t.0, t.1)) (at_end xs a b j e)

  -- what holds of the new element, and of each other one, holds of each
  pub each_set : (F : ℕ → A → Type 0) (l : List A) (i : ℕ) (a : A) → ((j : ℕ) (b : A) → j ≢ i → get_elem? l j ≡ some b → F j b) → F i a → (j : ℕ) (b : A) → get_elem? (set l i a) j ≡ some b → F j b
  each_set F l i a others mine j b e = ⊎_elim (λ (t : (j ≡ i) × (a ≡ b)). subst (λ (x : ℕ × A). F x.0 x.1) (λ k. (sym t.0 k, t.1 k)) mine) (λ (t : (j ≢ i) × (get_elem? l j ≡ some b)). others j b t.0 t.1) (at_set l i j a b e)

  pub each_append : (P : A → Type 0) (xs ys : List A) → Each P xs → Each P ys → Each P (xs ++ ys)
  each_append P [] ys a b = b
  each_append P (x ∷ xs) ys a b = (a.0, each_append P xs ys a.1 b)

  -- what holds of each, and of one more
  pub each_more : (F : ℕ → A → Type 0) (l : List A) (a : A) → ((j : ℕ) (b : A) → get_elem? l j ≡ some b → F j b) → F (length l) a → (j : ℕ) (b : A) → get_elem? (l ++ a ∷ []) j ≡ some b → F j b
  each_more F l a old new j b at = ⊎_elim (λ was. old j b was) (λ (t : (j ≡ length l) × (a ≡ b)). subst (λ (x : ℕ × A). F x.0 x.1) (λ k. (sym t.0 k, t.1 k)) new) (at_end l a b j at)

  pub set_at : (l : List A) (i : ℕ) (a b : A) → get_elem? l i ≡ some a → get_elem? (set l i b) i ≡ some b
  set_at [] i a b e = absurd (some-ne-none a (sym e))
  set_at (x ∷ xs) zero a b e = refl
  set_at (x ∷ xs) (suc i) a b e = set_at xs i a b e

module _ {A : Type 0} where
  pub each_map : (P Q : A → Type 0) → ((x : A) → P x → Q x) → (xs : List A) → Each P xs → Each Q xs
  each_map P Q f [] all = tt
  each_map P Q f (x ∷ xs) all = (f x all.0, each_map P Q f xs all.1)

  pub each_both : (P Q R : A → Type 0) → ((x : A) → P x → Q x → R x) → (xs : List A) → Each P xs → Each Q xs → Each R xs
  each_both P Q R f [] ps qs = tt
  each_both P Q R f (x ∷ xs) ps qs = (f x ps.0 qs.0, each_both P Q R f xs ps.1 qs.1)

  pub each_at : (P : A → Type 0) (xs : List A) (k : ℕ) (x : A) → Each P xs → get_elem? xs k ≡ some x → P x
  each_at P [] k x all at = absurd (some-ne-none x (sym at))
  each_at P (y ∷ xs) zero x all at = subst P (some-injective y x at) all.0
  each_at P (y ∷ xs) (suc k) x all at = each_at P xs k x all.1 at

pub off : false ≡ true → ⊥
off e = true≢false (sym e)

pub not_true : (b : Bool) → (b ≡ true → ⊥) → b ≡ false
not_true true n = absurd (n refl)
not_true false n = refl

-- what a mapped list has, the list has
pub map_at : {A B : Type 0} (f : A → B) (xs : List A) (i : ℕ) (y : B) → get_elem? (map f xs) i ≡ some y → (x : A) × (get_elem? xs i ≡ some x) × (f x ≡ y)
map_at f [] i y e = absurd (some-ne-none y (sym e))
map_at f (x ∷ xs) zero y e = (x, refl, some-injective (f x) y e)
map_at f (x ∷ xs) (suc i) y e = map_at f xs i y e
