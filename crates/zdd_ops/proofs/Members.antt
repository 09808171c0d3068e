-- Members of products and quotients.
use Rattle.std.proofs.Common.{◌≡◌, ℕ, ◌<◌, ◌==◌, Bool, true, false, not, ◌&&◌, ◌||◌, ◌⊎◌, inl, inr, ⊎_elim, refl, sym, ap, ap₂, ◌∙◌, subst, eq-eqb}
use Rattle.std.specs.Prelude.{bit_or, bit_and}
use Rattle.std.proofs.lemmas.Bool.{cases_eq, eqb-true}
use Rattle.edge_bits.specs.Assignments.{bit, set_bit}
use Rattle.edge_bits.proofs.AssignmentLemmas.{bit-set_same, bit-set_other, set_bit-own, same_bits}
use Rattle.function_laws.specs.Lists.{any_below}
use Rattle.function_laws.specs.Families.{product}
use Rattle.function_laws.specs.Products.{IsProduct}
use Rattle.function_laws.proofs.ListLemmas.{any_below-true, true-any_below}
use Rattle.function_laws.proofs.ValueLemmas.{everywhere}
use Rattle.zdd_ops.proofs.Combinations.{bit-and, bit-or, bit-zero}

-- truth values
pub and_left : (a b : Bool) → (a && b) ≡ true → a ≡ true
and_left true b h = refl
and_left false b h = h

pub and_right : (a b : Bool) → (a && b) ≡ true → b ≡ true
and_right true b h = h
and_right false b h = cc

pub and_both : (a b : Bool) → a ≡ true → b ≡ true → (a && b) ≡ true
and_both true true p q = refl
and_both true false p q = q
and_both false b p q = p

or_either : (a b : Bool) → (a || b) ≡ true → (a ≡ true) ⊎ (b ≡ true)
or_either true b h = inl refl
or_either false b h = inr h

or_first : (a b : Bool) → a ≡ true → (a || b) ≡ true
or_first true b h = refl
or_first false b h = cc

or_second : (a b : Bool) → b ≡ true → (a || b) ≡ true
or_second true b h = refl
or_second false b h = h

not_true : (b : Bool) → not b ≡ true → b ≡ false
not_true true h = cc
not_true false h = refl

pub two_ways : (b : Bool) → (b ≡ true) ⊎ (b ≡ false)
two_ways true = inl refl
two_ways false = inr refl

pub clash : {A : Type 0} → (b : Bool) → b ≡ true → b ≡ false → A
clash b p q = let never : true ≡ false = sym p ∙ q in absurd (differ never)
  where
    differ : true ≡ false → ⊥
    differ e = cc

pub same_truth : (a b : Bool) → (a ≡ true → b ≡ true) → (b ≡ true → a ≡ true) → a ≡ b
same_truth true b f g = sym (f refl)
same_truth false true f g = g refl
same_truth false false f g = refl

-- one element of a union and of a meet
pub or_set : (b c e : ℕ) (x y : Bool) → bit_or (set_bit b e x) (set_bit c e y) ≡ set_bit (bit_or b c) e (x || y)
or_set b c e x y = same_bits (bit_or (set_bit b e x) (set_bit c e y)) (set_bit (bit_or b c) e (x || y)) (λ u.
    bit-or (set_bit b e x) (set_bit c e y) u ∙ ⊎_elim
    (λ same. subst (λ v. (bit (set_bit b e x) v || bit (set_bit c e y) v) ≡ bit (set_bit (bit_or b c) e (x || y)) v) (sym same)
    (ap₂ (λ p q. p || q) (bit-set_same b e x) (bit-set_same c e y) ∙ sym (bit-set_same (bit_or b c) e (x || y))))
    (λ apart. ap₂ (λ p q. p || q) (bit-set_other b e u x apart) (bit-set_other c e u y apart) ∙ sym (bit-or b c u) ∙ sym (bit-set_other (bit_or b c) e u (x || y) apart))
    (cases_eq u e))

pub and_set : (b c e : ℕ) (x y : Bool) → bit_and (set_bit b e x) (set_bit c e y) ≡ set_bit (bit_and b c) e (x && y)
and_set b c e x y = same_bits (bit_and (set_bit b e x) (set_bit c e y)) (set_bit (bit_and b c) e (x && y)) (λ u.
    bit-and (set_bit b e x) (set_bit c e y) u ∙ ⊎_elim
    (λ same. subst (λ v. (bit (set_bit b e x) v && bit (set_bit c e y) v) ≡ bit (set_bit (bit_and b c) e (x && y)) v) (sym same)
    (ap₂ (λ p q. p && q) (bit-set_same b e x) (bit-set_same c e y) ∙ sym (bit-set_same (bit_and b c) e (x && y))))
    (λ apart. ap₂ (λ p q. p && q) (bit-set_other b e u x apart) (bit-set_other c e u y apart) ∙ sym (bit-and b c u) ∙ sym (bit-set_other (bit_and b c) e u (x && y) apart))
    (cases_eq u e))

pub own : (a e : ℕ) (b : Bool) → bit a e ≡ b → set_bit a e b ≡ a
own a e b is = ap (set_bit a e) (sym is) ∙ set_bit-own a e

or_bool : (a b : Bool) → (a || b) ≡ (b || a)
or_bool true true = refl
or_bool true false = refl
or_bool false true = refl
or_bool false false = refl

pub or_comm : (a b : ℕ) → bit_or a b ≡ bit_or b a
or_comm a b = same_bits (bit_or a b) (bit_or b a) (λ v. bit-or a b v ∙ or_bool (bit a v) (bit b v) ∙ sym (bit-or b a v))

pub zero_or : (a : ℕ) → bit_or 0 a ≡ a
zero_or a = same_bits (bit_or 0 a) a (λ v. bit-or 0 a v ∙ ap (λ x. x || bit a v) (bit-zero v))

and_nothing : (b : Bool) → (b && false) ≡ false
and_nothing true = refl
and_nothing false = refl

or_nothing : (b : Bool) → (b || false) ≡ b
or_nothing true = refl
or_nothing false = refl

pub and_zero : (a : ℕ) → bit_and a 0 ≡ 0
and_zero a = same_bits (bit_and a 0) 0 (λ v. bit-and a 0 v ∙ ap (λ x. bit a v && x) (bit-zero v) ∙ and_nothing (bit a v) ∙ sym (bit-zero v))

pub or_zero : (a : ℕ) → bit_or a 0 ≡ a
or_zero a = or_comm a 0 ∙ zero_or a

-- each member is below this
abbrev pub IsWithin : ℕ → (ℕ → Bool) → Type 0
IsWithin size p = (a : ℕ) → p a ≡ true → a < size

abbrev pub Unions : (ℕ → Bool) → (ℕ → Bool) → ℕ → Type 0
Unions p q a = (b c : ℕ) × (p b ≡ true) × (q c ≡ true) × (bit_or b c ≡ a)

-- a product has the unions
pub product-unions : (size : ℕ) (p q : ℕ → Bool) (a : ℕ) → product size p q a ≡ true → Unions p q a
product-unions size p q a h =
    let x = true-any_below size (λ b. p b && any_below size (λ c. q c && (bit_or b c == a))) h in
    let inner = and_right (p x.0) (any_below size (λ c. q c && (bit_or x.0 c == a))) x.1.1 in
    let y = true-any_below size (λ c. q c && (bit_or x.0 c == a)) inner in
    (x.0, y.0, and_left (p x.0) _ x.1.1, and_left (q y.0) _ y.1.1, eqb-true (bit_or x.0 y.0) a (and_right (q y.0) _ y.1.1))

pub unions-product : (size : ℕ) (p q : ℕ → Bool) → IsWithin size p → IsWithin size q → (a b c : ℕ) → p b ≡ true → q c ≡ true → bit_or b c ≡ a → product size p q a ≡ true
unions-product size p q wp wq a b c hp hq is =
    any_below-true size b (λ b. p b && any_below size (λ c. q c && (bit_or b c == a))) (wp b hp) (and_both (p b) _ hp
    (any_below-true size c (λ c. q c && (bit_or b c == a)) (wq c hq) (and_both (q c) _ hq (eq-eqb (bit_or b c) a is))))

pub product-is : (size : ℕ) (p q : ℕ → Bool) → IsWithin size p → IsWithin size q → IsProduct p q (product size p q)
product-is size p q wp wq = record {
  is_union = product-unions size p q;
  unions = λ b c hp hq. unions-product size p q wp wq (bit_or b c) b c hp hq refl;
}

pub IsProduct-unique : (p q r s : ℕ → Bool) → IsProduct p q r → IsProduct p q s → r ≡ s
IsProduct-unique p q r s x y = everywhere r s (λ a. same_truth (r a) (s a)
    (λ h. let (b, c, hp, hq, is) = x.is_union a h in subst (λ z. s z ≡ true) is (y.unions b c hp hq))
    (λ h. let (b, c, hp, hq, is) = y.is_union a h in subst (λ z. r z ≡ true) is (x.unions b c hp hq)))
