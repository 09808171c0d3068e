-- The product of the variables on which a function depends.
use Rattle.std.proofs.Common.{◌≡◌, ◌≢◌, ℕ, ◌^◌, ◌<◌, Bool, true, false, not, ◌&&◌, ◌||◌, inl, inr, refl, sym, ap, ap₂, ◌∙◌, subst}
use Rattle.std.proofs.lemmas.Bool.{cases_eq, cases_lt}
use Rattle.edge_bits.specs.Assignments.{bit, set_bit}
use Rattle.edge_bits.proofs.AssignmentLemmas.{bit-set_other, set_bit-own, set_bit-set_same}
use Rattle.function_laws.specs.Cubes.{IsSupport}
use Rattle.function_laws.specs.Values.{cofactor, choice, IsFree, IsOf, constant, conjunction, projection, negation, depends, differs, support}
use Rattle.function_laws.proofs.CubeLemmas.{same_truth, or_true, true_or, and_left, and_right, both_true, by_bit, choice-same_part, part-lacks}
use Rattle.function_laws.proofs.ListLemmas.{any_below-true, true-any_below, all_below-true, true-all_below}
use Rattle.function_laws.proofs.ValueLemmas.{everywhere, IsFree-choice_other}
use Rattle.function_laws.proofs.WidthLemmas.{IsFree-from_below}

-- there is one support
pub IsSupport-same : (f s t : ℕ → Bool) → IsSupport f s → IsSupport f t → s ≡ t
IsSupport-same f s t p q = everywhere s t (λ k. same_truth (s k) (t k) (λ h. q.reaches k (λ v none. p.needs k v h none)) (λ h. p.reaches k (λ v none. q.needs k v h none)))

-- of a function that depends on no variable
pub IsSupport-none : (f : ℕ → Bool) → ((v : ℕ) → IsFree f v) → IsSupport f (constant true)
IsSupport-none f free = record { needs = λ k v t none. free v; reaches = λ k h. refl }

-- of a complement
free_not : (f : ℕ → Bool) (v : ℕ) → IsFree f v → IsFree (negation f) v
free_not f v free = λ k b. ap not (free k b)

pub not_not : (b : Bool) → not (not b) ≡ b
not_not true = refl
not_not false = refl

pub not_free : (f : ℕ → Bool) (v : ℕ) → IsFree (negation f) v → IsFree f v
not_free f v free = λ k b. sym (not_not (f (set_bit k v b))) ∙ ap not (free k b) ∙ not_not (f k)

pub IsSupport-not : (f s : ℕ → Bool) → IsSupport f s → IsSupport (negation f) s
IsSupport-not f s p = record { needs = λ k v t none. free_not f v (p.needs k v t none); reaches = λ k h. p.reaches k (λ v none. not_free f v (h v none)) }

pub IsSupport-from_not : (f s : ℕ → Bool) → IsSupport (negation f) s → IsSupport f s
IsSupport-from_not f s p = record { needs = λ k v t none. not_free f v (p.needs k v t none); reaches = λ k h. p.reaches k (λ v none. free_not f v (h v none)) }

-- what doesn't depend on a variable has a support that doesn't
pub IsFree-support : (f s : ℕ → Bool) (u : ℕ) → IsSupport f s → IsFree f u → IsFree s u
IsFree-support f s u p free = λ k b. same_truth (s (set_bit k u b)) (s k) (there k b) (back k b)
  where
    there : (k : ℕ) (b : Bool) → s (set_bit k u b) ≡ true → s k ≡ true
    there k b t = p.reaches k (λ v none. elim (cases_eq v u) [
      | inl same ↦ subst (λ w. IsFree f w) (sym same) free
      | inr apart ↦ p.needs (set_bit k u b) v t (bit-set_other k u v b apart ∙ none)
    ])

    back : (k : ℕ) (b : Bool) → s k ≡ true → s (set_bit k u b) ≡ true
    back k b t = there (set_bit k u b) (bit k u) (ap s (set_bit-set_same k u b (bit k u) ∙ set_bit-own k u) ∙ t)

-- of a choice: the variable, and the supports of both parts
pub IsSupport-choice : (x : ℕ) (f g a b : ℕ → Bool) → IsFree f x → IsFree g x → f ≢ g → IsSupport f a → IsSupport g b
    → IsSupport (choice x f g) (conjunction (projection x) (conjunction a b))
IsSupport-choice x f g a b free_f free_g apart p q = record {
  needs = λ k v t none.
      let here = and_left (bit k x) (a k && b k) t in
      let both = and_right (bit k x) (a k && b k) t in
      let other : x ≢ v = λ same. let never : true ≡ false = sym here ∙ ap (bit k) same ∙ none in cc in
      IsFree-choice_other f g x v other (p.needs k v (and_left (a k) (b k) both) none) (q.needs k v (and_right (a k) (b k) both) none);
  reaches = λ k h. both_true (bit k x) (a k && b k)
      (elim (by_bit (bit k x)) [
        | inl is ↦ is
        | inr none ↦ absurd (apart (choice-same_part x f g free_f free_g (h x none)))
      ])
      (both_true (a k) (b k) (p.reaches k (λ v none. part-lacks x v (choice x f g) f g true refl free_f free_g (h v none)))
      (q.reaches k (λ v none. part-lacks x v (choice x f g) f g false refl free_f free_g (h v none))));
}

-- of a function of n variables
differs-same : (b : Bool) → differs b b ≡ false
differs-same true = refl
differs-same false = refl

differs-false : (a b : Bool) → differs a b ≡ false → a ≡ b
differs-false true true h = refl
differs-false true false h = let never : true ≡ false = h in cc
differs-false false b h = sym h

free-depends : (size : ℕ) (f : ℕ → Bool) (v : ℕ) → IsFree f v → depends size f v ≡ false
free-depends size f v free = elim (by_bit (depends size f v)) [
  | inl is ↦
      let found = true-any_below size (λ k. differs (cofactor f v true k) (cofactor f v false k)) is in
      let never : true ≡ false = sym found.1.1 ∙ ap₂ differs (free found.0 true) (free found.0 false) ∙ differs-same (f found.0) in cc
  | inr is ↦ is
]

depends-free : (size : ℕ) (f : ℕ → Bool) (v : ℕ) → depends size f v ≡ false → (k : ℕ) → k < size → cofactor f v true k ≡ cofactor f v false k
depends-free size f v never k below = elim (by_bit (differs (cofactor f v true k) (cofactor f v false k))) [
  | inl is ↦ let bad : true ≡ false = sym (any_below-true size k (λ k. differs (cofactor f v true k) (cofactor f v false k)) below is) ∙ never in cc
  | inr is ↦ differs-false (cofactor f v true k) (cofactor f v false k) is
]

not_true : (b : Bool) → not b ≡ true → b ≡ false
not_true true h = sym h
not_true false h = refl

pub IsSupport-support : (n : ℕ) (f : ℕ → Bool) → IsOf n f → IsSupport f (support n f)
IsSupport-support n f of = record {
  needs = λ k v t none. elim (cases_lt v n) [
    | inl within ↦ elim (or_true (not (depends (2 ^ n) f v)) (bit k v) (true-all_below n v (λ u. not (depends (2 ^ n) f u) || bit k u) t within)) [
      | inl never ↦ IsFree-from_below n v f of within (depends-free (2 ^ n) f v (not_true (depends (2 ^ n) f v) never))
      | inr here ↦ let bad : true ≡ false = sym here ∙ none in cc
    ]
    | inr beyond ↦ of v beyond
  ];
  reaches = λ k h. all_below-true n (λ u. not (depends (2 ^ n) f u) || bit k u) (λ v within. true_or (not (depends (2 ^ n) f v)) (bit k v) (elim (by_bit (bit k v)) [
    | inl is ↦ inr is
    | inr none ↦ inl (ap not (free-depends (2 ^ n) f v (h v none)))
  ]));
}
