-- Of two functions that are one the parts are one, and they depend on the same variables.
use Rattle.std.proofs.Common.{◌≡◌, ℕ, ◌^◌, ◌<◌, inl, inr, Bool, true, false, cond, not, ◌&&◌, ◌||◌, ℤ, List, [], ◌∷◌, length, refl, ap, ◌∙◌}
use Rattle.std.specs.Prelude.{Option, Some}
use Rattle.std.specs.Ordering.{int_eq}
use Rattle.std.proofs.lemmas.Bool.{or_cases, or_left, or_right}
use Rattle.std.proofs.lemmas.Bool.Decides.{Decides-int_eq}
use Rattle.edge_bits.specs.Assignments.{bit, set_bit}
use Rattle.edge_bits.proofs.AssignmentLemmas.{set_bit-below}
use Rattle.function_laws.specs.declared.orders.Order.{Order}
use Rattle.function_laws.specs.declared.orders.Order.TheVariants.{Variables, Elements}
use Rattle.function_laws.specs.Kinds.{Denoted, BddFunction, AddFunction, ZddFamily}
use Rattle.function_laws.specs.Lists.{all_below}
use Rattle.function_laws.specs.Sizes.{Orders, agree, depends_on, in_order, is_one, order_of, part_of, topmost}
use Rattle.function_laws.specs.Values.{cofactor, differs, negation}
use Rattle.function_laws.proofs.DistinctLemmas.{In}
use Rattle.function_laws.proofs.ListLemmas.{all_below-true, any_below-same, true-all_below}

-- what holds of each assignment holds of each with a variable set
set_below : (n v : ℕ) (b : Bool) (test : ℕ → Bool) → v < n → all_below (2 ^ n) test ≡ true → all_below (2 ^ n) (λ k. test (set_bit k v b)) ≡ true
set_below n v b test below h =
    all_below-true (2 ^ n) (λ k. test (set_bit k v b)) (λ k lt. true-all_below (2 ^ n) (set_bit k v b) test h (set_bit-below n k v b lt below))

alike_where : (c x y : Bool) → not (differs x y) ≡ true → not (differs (c && x) (c && y)) ≡ true
alike_where true x y h = h
alike_where false x y h = refl

lacking_below : (n e : ℕ) (p q : ℕ → Bool) → agree n p q ≡ true → agree n (λ a. not (bit a e) && p a) (λ a. not (bit a e) && q a) ≡ true
lacking_below n e p q h =
    all_below-true (2 ^ n) (λ a. not (differs (not (bit a e) && p a) (not (bit a e) && q a)))
    (λ a lt. alike_where (not (bit a e)) (p a) (q a) (true-all_below (2 ^ n) a (λ k. not (differs (p k) (q k))) h lt))

cofactors_alike : (n v : ℕ) (b : Bool) (f g : ℕ → Bool) → v < n → (agree n f g || agree n (negation f) g) ≡ true
    → (agree n (cofactor f v b) (cofactor g v b) || agree n (negation (cofactor f v b)) (cofactor g v b)) ≡ true
cofactors_alike n v b f g below h = elim (or_cases (agree n f g) (agree n (negation f) g) h) [
  | inl a ↦ or_left (agree n (cofactor f v b) (cofactor g v b)) (agree n (negation (cofactor f v b)) (cofactor g v b))
      (set_below n v b (λ k. not (differs (f k) (g k))) below a)
  | inr a ↦ or_right (agree n (cofactor f v b) (cofactor g v b)) (agree n (negation (cofactor f v b)) (cofactor g v b))
      (set_below n v b (λ k. not (differs (not (f k)) (g k))) below a)
]

pub part_one : (o : Orders) (f g : Denoted) (v : ℕ) (b : Bool) → v < length (order_of o f) → is_one o f g ≡ true → is_one o (part_of f v b) (part_of g v b) ≡ true
part_one o (BddFunction f) (BddFunction g) v b below h = cofactors_alike (length o.variables) v b f g below h
part_one o (AddFunction f) (AddFunction g) v b below h = set_below (length o.variables) v b (λ k. int_eq (f k) (g k)) below h
part_one o (ZddFamily p) (ZddFamily q) v true below h =
    lacking_below (length o.elements) v (λ a. p (set_bit a v true)) (λ a. q (set_bit a v true))
    (set_below (length o.elements) v true (λ k. not (differs (p k) (q k))) below h)
part_one o (ZddFamily p) (ZddFamily q) v false below h = lacking_below (length o.elements) v p q h
part_one o (BddFunction f) (AddFunction g) v b below h = cc
part_one o (BddFunction f) (ZddFamily g) v b below h = cc
part_one o (AddFunction f) (BddFunction g) v b below h = cc
part_one o (AddFunction f) (ZddFamily g) v b below h = cc
part_one o (ZddFamily f) (BddFunction g) v b below h = cc
part_one o (ZddFamily f) (AddFunction g) v b below h = cc

-- they go by one order
pub same_order : (o : Orders) (f g : Denoted) → is_one o f g ≡ true → order_of o f ≡ order_of o g
same_order o (BddFunction f) (BddFunction g) h = refl
same_order o (AddFunction f) (AddFunction g) h = refl
same_order o (ZddFamily f) (ZddFamily g) h = refl
same_order o (BddFunction f) (AddFunction g) h = refl
same_order o (AddFunction f) (BddFunction g) h = refl
same_order o (BddFunction f) (ZddFamily g) h = cc
same_order o (AddFunction f) (ZddFamily g) h = cc
same_order o (ZddFamily f) (BddFunction g) h = cc
same_order o (ZddFamily f) (AddFunction g) h = cc

same_bool : (a b : Bool) → not (differs a b) ≡ true → a ≡ b
same_bool true true h = refl
same_bool true false h = cc
same_bool false true h = cc
same_bool false false h = refl

both_complements : (a b : Bool) → differs a b ≡ differs (not a) (not b)
both_complements true true = refl
both_complements true false = refl
both_complements false true = refl
both_complements false false = refl

same_difference : (a b c d : Bool) → a ≡ c → b ≡ d → differs a b ≡ differs c d
same_difference a b c d e h = ap (λ x. differs x b) e ∙ ap (differs c) h

module _ (n v : ℕ) (below : v < n) where
  differ_alike : (f g : ℕ → Bool) → agree n f g ≡ true → (k : ℕ) → k < 2 ^ n → differs (cofactor f v true k) (cofactor f v false k) ≡ differs (cofactor g v true k) (cofactor g v false k)
  differ_alike f g h k lt = same_difference (cofactor f v true k) (cofactor f v false k) (cofactor g v true k) (cofactor g v false k) (at true) (at false)
    where
      at : (b : Bool) → cofactor f v b k ≡ cofactor g v b k
      at b = same_bool (f (set_bit k v b)) (g (set_bit k v b)) (true-all_below (2 ^ n) (set_bit k v b) (λ j. not (differs (f j) (g j))) h (set_bit-below n k v b lt below))

  numbers_differ_alike : (f g : ℕ → ℤ) → all_below (2 ^ n) (λ k. int_eq (f k) (g k)) ≡ true → (k : ℕ) → k < 2 ^ n
      → not (int_eq (cofactor f v true k) (cofactor f v false k)) ≡ not (int_eq (cofactor g v true k) (cofactor g v false k))
  numbers_differ_alike f g h k lt = ap (λ x. not (int_eq x (cofactor f v false k))) (at true) ∙ ap (λ x. not (int_eq (cofactor g v true k) x)) (at false)
    where
      at : (b : Bool) → cofactor f v b k ≡ cofactor g v b k
      at b = (Decides-int_eq (f (set_bit k v b)) (g (set_bit k v b))).0 (true-all_below (2 ^ n) (set_bit k v b) (λ j. int_eq (f j) (g j)) h (set_bit-below n k v b lt below))

  differ_one : (f g : ℕ → Bool) → (agree n f g || agree n (negation f) g) ≡ true → (k : ℕ) → k < 2 ^ n
      → differs (cofactor f v true k) (cofactor f v false k) ≡ differs (cofactor g v true k) (cofactor g v false k)
  differ_one f g h k lt = elim (or_cases (agree n f g) (agree n (negation f) g) h) [
    | inl a ↦ differ_alike f g a k lt
    | inr a ↦ both_complements (cofactor f v true k) (cofactor f v false k) ∙ differ_alike (negation f) g a k lt
  ]

-- they depend on the same variables
pub depends_one : (o : Orders) (which : Order) (f g : Denoted) (v : ℕ) → v < length (in_order o which) → is_one o f g ≡ true → depends_on o which f v ≡ depends_on o which g v
depends_one o Variables (BddFunction f) (BddFunction g) v below h =
    any_below-same (2 ^ length o.variables) (λ k. differs (cofactor f v true k) (cofactor f v false k)) (λ k. differs (cofactor g v true k) (cofactor g v false k))
    (differ_one (length o.variables) v below f g h)
depends_one o Variables (AddFunction f) (AddFunction g) v below h =
    any_below-same (2 ^ length o.variables) (λ k. not (int_eq (cofactor f v true k) (cofactor f v false k))) (λ k. not (int_eq (cofactor g v true k) (cofactor g v false k)))
    (numbers_differ_alike (length o.variables) v below f g h)
depends_one o Variables (ZddFamily f) (ZddFamily g) v below h = refl
depends_one o Elements (BddFunction f) (BddFunction g) v below h = refl
depends_one o Elements (AddFunction f) (AddFunction g) v below h = refl
depends_one o Elements (ZddFamily p) (ZddFamily q) v below h =
    any_below-same (2 ^ length o.elements) (λ a. bit a v && p a) (λ a. bit a v && q a)
    (λ a lt. ap (λ x. bit a v && x) (same_bool (p a) (q a) (true-all_below (2 ^ length o.elements) a (λ j. not (differs (p j) (q j))) h lt)))
depends_one o which (BddFunction f) (AddFunction g) v below h = cc
depends_one o which (BddFunction f) (ZddFamily g) v below h = cc
depends_one o which (AddFunction f) (BddFunction g) v below h = cc
depends_one o which (AddFunction f) (ZddFamily g) v below h = cc
depends_one o which (ZddFamily f) (BddFunction g) v below h = cc
depends_one o which (ZddFamily f) (AddFunction g) v below h = cc

-- the topmost of these on which they depend is one
pub topmost_one : (o : Orders) (which : Order) (vs : List ℕ) (f g : Denoted) → ((v : ℕ) → In v vs → v < length (in_order o which)) → is_one o f g ≡ true
    → topmost o which vs f ≡ topmost o which vs g
unfolding topmost
topmost_one o which [] f g below h = refl
topmost_one o which (v ∷ vs) f g below h =
    ap (λ b. cond b (Some v) (topmost o which vs f)) (depends_one o which f g v (below v (inl refl)) h)
    ∙ ap (λ (x : Option ℕ). cond (depends_on o which g v) (Some v) x) (topmost_one o which vs f g (λ u i. below u (inr i)) h)
