-- What restrict may answer, of functions of the first n variables: the sentences said of all assignments give those said of the 2 ^ n first.
use Rattle.std.proofs.Common.{◌≡◌, ℕ, zero, suc, ◌^◌, ◌<◌, ◌≤◌, eqb, Bool, true, false, not, ◌&&◌, ◌||◌, inl, inr, refl, sym, ap, ap₂, ◌∙◌, subst, arith, eq-eqb, eqb-true, min, max}
use Rattle.std.specs.Prelude.{◌==◌, ◌+◌, ◌%◌, bit_and, bit_or, bit_xor, length}
use Rattle.std.specs.Int.{bit_at}
use Rattle.std.proofs.lemmas.Bool.{cases_eq}
use Rattle.std.proofs.lemmas.Nat.Bits.{bit_at-lt, bit_at_above, bit_at_and, bit_at_or, bit_at_xor}
use Rattle.edge_bits.specs.Words.{digit}
use Rattle.edge_bits.specs.Assignments.{bit, set_bit}
use Rattle.edge_bits.proofs.AssignmentLemmas.{below_from_bits, bit-set_other, digit-bit, same_bits, set_bit-below}
use Rattle.function_laws.specs.Cubes.{AgreeBeyond}
use Rattle.function_laws.specs.Lists.{list_of, truth}
use Rattle.function_laws.specs.Restricting.{Restricts, IsConstantOn, IsFreeBelow, set_bits}
use Rattle.function_laws.specs.Restrictions.{NeedsValue, IsLiteralProduct, IsRestriction}
use Rattle.function_laws.specs.Values.{IsFree, IsOf, cofactor, constant, differs}
use Rattle.function_laws.proofs.CubeLemmas.{by_bit}
use Rattle.function_laws.proofs.ListLemmas.{length-list_of, truth-list_of}
use Rattle.function_laws.proofs.RestrictionLaws.{needs-not_free}
use Rattle.function_laws.proofs.SizeLemmas.{var_below}
use Rattle.function_laws.proofs.WidthLemmas.{same_everywhere, IsFree-from_below}

-- bits of numbers that are put together
and_of_bits : (x y : ℕ) → x < 2 → y < 2 → eqb (min x y) 1 ≡ (eqb x 1 && eqb y 1)
and_of_bits zero zero p q = refl
and_of_bits zero (suc zero) p q = refl
and_of_bits (suc zero) zero p q = refl
and_of_bits (suc zero) (suc zero) p q = refl
and_of_bits (suc (suc x)) y p q = absurd (omega arith)
and_of_bits zero (suc (suc y)) p q = absurd (omega arith)
and_of_bits (suc zero) (suc (suc y)) p q = absurd (omega arith)

or_of_bits : (x y : ℕ) → x < 2 → y < 2 → eqb (max x y) 1 ≡ (eqb x 1 || eqb y 1)
or_of_bits zero zero p q = refl
or_of_bits zero (suc zero) p q = refl
or_of_bits (suc zero) zero p q = refl
or_of_bits (suc zero) (suc zero) p q = refl
or_of_bits (suc (suc x)) y p q = absurd (omega arith)
or_of_bits zero (suc (suc y)) p q = absurd (omega arith)
or_of_bits (suc zero) (suc (suc y)) p q = absurd (omega arith)

xor_of_bits : (x y : ℕ) → x < 2 → y < 2 → eqb ((x + y) % 2) 1 ≡ differs (eqb x 1) (eqb y 1)
xor_of_bits zero zero p q = refl
xor_of_bits zero (suc zero) p q = refl
xor_of_bits (suc zero) zero p q = refl
xor_of_bits (suc zero) (suc zero) p q = refl
xor_of_bits (suc (suc x)) y p q = absurd (omega arith)
xor_of_bits zero (suc (suc y)) p q = absurd (omega arith)
xor_of_bits (suc zero) (suc (suc y)) p q = absurd (omega arith)

bit-and : (a b v : ℕ) → bit (bit_and a b) v ≡ (bit a v && bit b v)
bit-and a b v = ap (λ x. eqb x 1) (bit_at_and a b v) ∙ and_of_bits (bit_at a v) (bit_at b v) (bit_at-lt a v) (bit_at-lt b v)

bit-or : (a b v : ℕ) → bit (bit_or a b) v ≡ (bit a v || bit b v)
bit-or a b v = ap (λ x. eqb x 1) (bit_at_or a b v) ∙ or_of_bits (bit_at a v) (bit_at b v) (bit_at-lt a v) (bit_at-lt b v)

bit-xor : (a b v : ℕ) → bit (bit_xor a b) v ≡ differs (bit a v) (bit b v)
bit-xor a b v = ap (λ x. eqb x 1) (bit_at_xor a b v) ∙ xor_of_bits (bit_at a v) (bit_at b v) (bit_at-lt a v) (bit_at-lt b v)

bit-set_bits : (k cares bits v : ℕ) → bit (set_bits k cares bits) v ≡ (differs (bit k v) (bit k v && bit cares v) || bit bits v)
bit-set_bits k cares bits v = bit-or (bit_xor k (bit_and k cares)) bits v
    ∙ ap (λ x. x || bit bits v) (bit-xor k (bit_and k cares) v ∙ ap (differs (bit k v)) (bit-and k cares v))

bit-above : (k n v : ℕ) → k < 2 ^ n → n ≤ v → bit k v ≡ false
bit-above k n v below from = ap (λ x. eqb x 1) (bit_at_above k n v below from)

-- a bit that is cared for is that of the literal, and another one stays
cared : (k c b : Bool) → (b && c) ≡ b → ((differs k (k && c) || b) && c) ≡ b
cared true true true h = refl
cared true true false h = refl
cared false true true h = refl
cared false true false h = refl
cared true false true h = h
cared true false false h = refl
cared false false true h = h
cared false false false h = refl

not_cared : (k c b : Bool) → (b && c) ≡ b → c ≡ false → (differs k (k && c) || b) ≡ k
not_cared true true b h off = let bad : true ≡ false = off in cc
not_cared false true b h off = let bad : true ≡ false = off in cc
not_cared true false true h off = refl
not_cared true false false h off = refl
not_cared false false true h off = let bad : false ≡ true = h in cc
not_cared false false false h off = refl

same_and_not : (a b : Bool) → a ≡ b → a ≡ not b → ⊥
same_and_not true true p q = cc
same_and_not true false p q = cc
same_and_not false true p q = cc
same_and_not false false p q = cc

-- the product of the literals of a mask
module _ (cares bits : ℕ) (inside : bit_and bits cares ≡ bits) where
  abbrev test : ℕ → Bool
  test k = bit_and k cares == bits

  inside_at : (v : ℕ) → (bit bits v && bit cares v) ≡ bit bits v
  inside_at v = sym (bit-and bits cares v) ∙ ap (λ m. bit m v) inside

  test-free : (v : ℕ) → bit cares v ≡ false → IsFree test v
  test-free v off k b = ap (λ m. m == bits) (same_bits (bit_and (set_bit k v b) cares) (bit_and k cares) (λ u.
      bit-and (set_bit k v b) cares u ∙ elim (cases_eq u v) [
        | inl same ↦ subst (λ y. (bit (set_bit k v b) y && bit cares y) ≡ (bit k y && bit cares y)) (sym same)
            (ap (λ c. bit (set_bit k v b) v && c) off ∙ both_false (bit (set_bit k v b) v) (bit k v) ∙ sym (ap (λ c. bit k v && c) off))
        | inr apart ↦ ap (λ x. x && bit cares u) (bit-set_other k v u b apart)
      ] ∙ sym (bit-and k cares u)))
    where
      both_false : (x y : Bool) → (x && false) ≡ (y && false)
      both_false true true = refl
      both_false true false = refl
      both_false false true = refl
      both_false false false = refl

  test-needs : (v : ℕ) → bit cares v ≡ true → NeedsValue test v (bit bits v)
  test-needs v on k other = elim (by_bit (test k)) [
    | inl is ↦
        let masked : bit_and k cares ≡ bits = eqb-true (bit_and k cares) bits is in
        let here = sym (and_true (bit k v)) ∙ ap (λ c. bit k v && c) (sym on) ∙ sym (bit-and k cares v) ∙ ap (λ m. bit m v) masked in
        absurd (same_and_not (bit k v) (bit bits v) here other)
    | inr is ↦ is
  ]
    where
      and_true : (b : Bool) → (b && true) ≡ b
      and_true true = refl
      and_true false = refl

  test-product : IsLiteralProduct test
  test-product = record {
    place = bits;
    holds = eq-eqb (bit_and bits cares) bits inside;
    each = λ v. elim (by_bit (bit cares v)) [
      | inl on ↦ inr (elim (by_bit (bit bits v)) [
        | inl one ↦ inl (subst (NeedsValue test v) one (test-needs v on))
        | inr none ↦ inr (subst (NeedsValue test v) none (test-needs v on))
      ])
      | inr off ↦ inl (test-free v off)
    ];
  }

  test-set : (k : ℕ) → test (set_bits k cares bits) ≡ true
  test-set k = eq-eqb (bit_and (set_bits k cares bits) cares) bits (same_bits (bit_and (set_bits k cares bits) cares) bits (λ v.
      bit-and (set_bits k cares bits) cares v ∙ ap (λ x. x && bit cares v) (bit-set_bits k cares bits v) ∙ cared (bit k v) (bit cares v) (bit bits v) (inside_at v)))

  agree-set : (k : ℕ) → AgreeBeyond test (set_bits k cares bits) k
  agree-set k v free = elim (by_bit (bit cares v)) [
    | inl on ↦ absurd (needs-not_free test v bits (bit bits v) (eq-eqb (bit_and bits cares) bits inside) (test-needs v on) free)
    | inr off ↦ bit-set_bits k cares bits v ∙ not_cared (bit k v) (bit cares v) (bit bits v) (inside_at v) off
  ]

-- where it holds, a function has the value of a place
value_holds : (c a b : Bool) → (c ≡ true → a ≡ b) → (not c || not (differs a b)) ≡ true
value_holds true true true h = refl
value_holds true true false h = sym (h refl)
value_holds true false true h = h refl
value_holds true false false h = refl
value_holds false a b h = refl

holds_value : (c a b : Bool) → (not c || not (differs a b)) ≡ true → c ≡ true → a ≡ b
holds_value true true true h k = refl
holds_value true true false h k = sym h
holds_value true false true h k = h
holds_value true false false h k = refl
holds_value false a b h k = let bad : false ≡ true = k in cc

pub Restricts-from : (n : ℕ) (f c r : ℕ → Bool) → IsOf n f → IsOf n c → IsOf n r → IsRestriction f c r → Restricts (2 ^ n) f c r
Restricts-from n f c r of_f of_c of_r p = record {
  agrees = λ k below here. p.agrees k here;
  depends_on_no_more = λ v below free k within.
      let absent = p.depends_on_no_more v (IsFree-from_below n v f of_f (var_below n v below) free) in absent k true ∙ sym (absent k false);
  is_constant = λ k below here same.
      let value = p.is_constant (f k) k here (λ j there. holds_value (c j) (f j) (f k) (ap (λ (h : ℕ → Bool). h j) (everywhere_same k below here same)) there) in
      λ i j _ _ _ _. value i ∙ sym (value j);
  is_cofactor = λ cares bits within _ inside product k below.
      let is = same_everywhere n c (test cares bits inside) of_c (λ v from. test-free cares bits inside v (bit-above cares n v within from)) product in
      p.is_cofactor (subst IsLiteralProduct (sym is) (test-product cares bits inside)) (set_bits k cares bits) k
      (ap (λ (h : ℕ → Bool). h (set_bits k cares bits)) is ∙ test-set cares bits inside k)
      (subst (λ d. AgreeBeyond d (set_bits k cares bits) k) (sym is) (agree-set cares bits inside k));
  is_false = λ none k below. p.is_false (λ j. ap (λ (h : ℕ → Bool). h j) (same_everywhere n c (constant false) of_c (λ v from k b. refl) none)) k;
}
  where
    everywhere_same : (k : ℕ) → k < 2 ^ n → c k ≡ true → IsConstantOn (2 ^ n) c f → (λ j. not (c j) || not (differs (f j) (f k))) ≡ constant true
    everywhere_same k below here same = same_everywhere n (λ j. not (c j) || not (differs (f j) (f k))) (constant true)
        (λ v from j b. ap₂ (λ x y. not x || not (differs y (f k))) (of_c v from j b) (of_f v from j b)) (λ v from j b. refl)
        (λ j within. value_holds (c j) (f j) (f k) (λ there. same j k within below there here))

set_bits-below : (n k cares bits : ℕ) → k < 2 ^ n → bits < 2 ^ n → set_bits k cares bits < 2 ^ n
set_bits-below n k cares bits below inside = below_from_bits n (set_bits k cares bits) (λ v from.
    sym (digit-bit (set_bits k cares bits) v) ∙ ap digit (bit-set_bits k cares bits v
    ∙ ap₂ (λ x y. differs x (x && bit cares v) || y) (bit-above k n v below from) (bit-above bits n v inside from)))

-- the bounded sentences speak of the first 2 ^ n values alone
module _ (n : ℕ) (f g c d r s : ℕ → Bool) (same_f : (k : ℕ) → k < 2 ^ n → f k ≡ g k) (same_c : (k : ℕ) → k < 2 ^ n → c k ≡ d k) (same_r : (k : ℕ) → k < 2 ^ n → r k ≡ s k) where
  same_cofactor : (h i : ℕ → Bool) → ((k : ℕ) → k < 2 ^ n → h k ≡ i k) → (v : ℕ) → 2 ^ v < 2 ^ n → (b : Bool) (k : ℕ) → k < 2 ^ n → cofactor h v b k ≡ cofactor i v b k
  same_cofactor h i same v within b k below = same (set_bit k v b) (set_bit-below n k v b below (var_below n v within))

  same_free : (h i : ℕ → Bool) → ((k : ℕ) → k < 2 ^ n → h k ≡ i k) → (v : ℕ) → 2 ^ v < 2 ^ n → IsFreeBelow (2 ^ n) h v → IsFreeBelow (2 ^ n) i v
  same_free h i same v within free k below = sym (same_cofactor h i same v within true k below) ∙ free k below ∙ same_cofactor h i same v within false k below

  pub Restricts-same : Restricts (2 ^ n) f c r → Restricts (2 ^ n) g d s
  Restricts-same p = record {
    agrees = λ k below holds. sym (same_r k below) ∙ p.agrees k below (same_c k below ∙ holds) ∙ same_f k below;
    depends_on_no_more = λ v within free. same_free r s same_r v within (p.depends_on_no_more v within (same_free g f (λ k below. sym (same_f k below)) v within free));
    is_constant = λ k below holds one i j bi bj ti tj. sym (same_r i bi)
        ∙ p.is_constant k below (same_c k below ∙ holds) (λ x y bx by cx cy. same_f x bx ∙ one x y bx by (sym (same_c x bx) ∙ cx) (sym (same_c y by) ∙ cy) ∙ sym (same_f y by)) i j bi bj ti tj
        ∙ same_r j bj;
    is_cofactor = λ cares bits bc bb inside product k below. sym (same_r k below)
        ∙ p.is_cofactor cares bits bc bb inside (λ j bj. same_c j bj ∙ product j bj) k below
        ∙ same_f (set_bits k cares bits) (set_bits-below n k cares bits below bb);
    is_false = λ none k below. sym (same_r k below) ∙ p.is_false (λ j bj. same_c j bj ∙ none j bj) k below;
  }

-- on lists of values
pub Restricts-list_of : (n : ℕ) (f c r : ℕ → Bool) → Restricts (2 ^ n) f c r → Restricts (length (list_of (2 ^ n) f)) (truth (list_of (2 ^ n) f)) (truth (list_of (2 ^ n) c)) (truth (list_of (2 ^ n) r))
Restricts-list_of n f c r p =
    subst (λ size. Restricts size (truth (list_of (2 ^ n) f)) (truth (list_of (2 ^ n) c)) (truth (list_of (2 ^ n) r))) (sym (length-list_of (2 ^ n) f))
    (Restricts-same n f (truth (list_of (2 ^ n) f)) c (truth (list_of (2 ^ n) c)) r (truth (list_of (2 ^ n) r))
    (λ k below. sym (truth-list_of (2 ^ n) k f below)) (λ k below. sym (truth-list_of (2 ^ n) k c below)) (λ k below. sym (truth-list_of (2 ^ n) k r below)) p)
