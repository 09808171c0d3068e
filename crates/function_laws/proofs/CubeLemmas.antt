-- Quantification over the variables of a product, variable by variable.
use Rattle.std.proofs.Common.{◌≡◌, ◌≢◌, ℕ, Bool, true, false, cond, ◌&&◌, ◌||◌, List, [], ◌∷◌, ◌⊎◌, inl, inr, refl, sym, ap, ◌∙◌, subst, arith}
use Rattle.std.specs.List.{All}
use Rattle.std.specs.List.Sorted.{IsPermutation}
use Rattle.std.proofs.lemmas.Bool.{cases_eq}
use Rattle.std.proofs.lemmas.List.Elements.{All-cons, All-head, All-tail}
use Rattle.std.proofs.lemmas.List.Sorted.{All-permutation, IsPermutation-sym}
use Rattle.edge_bits.specs.Assignments.{bit, set_bit}
use Rattle.edge_bits.proofs.AssignmentLemmas.{bit-set_same, bit-set_other, set_bit-own, set_bit-set_same, same_bits}
use Rattle.function_laws.specs.Values.{cofactor, choice, IsFree, constant, conjunction, disjunction, projection, exists_one, exists_all}
use Rattle.function_laws.specs.Cubes.{cube_of, Needs, IsCube, AgreeBeyond, IsExists}
use Rattle.function_laws.proofs.ValueLemmas.{everywhere, cofactor-free, cofactor-choice_true, cofactor-choice_false, IsFree-cofactor_other, IsFree-place, exists-free, exists-choice_same}

-- truth values
pub same_truth : (a b : Bool) → (a ≡ true → b ≡ true) → (b ≡ true → a ≡ true) → a ≡ b
same_truth true b f g = sym (f refl)
same_truth false true f g = g refl
same_truth false false f g = refl

pub or_true : (a b : Bool) → (a || b) ≡ true → (a ≡ true) ⊎ (b ≡ true)
or_true true b h = inl refl
or_true false b h = inr h

pub true_or : (a b : Bool) → (a ≡ true) ⊎ (b ≡ true) → (a || b) ≡ true
true_or true b h = refl
true_or false true h = refl
true_or false false (inl h) = h
true_or false false (inr h) = h

pub and_left : (a b : Bool) → (a && b) ≡ true → a ≡ true
and_left true b h = refl
and_left false b h = h

pub and_right : (a b : Bool) → (a && b) ≡ true → b ≡ true
and_right true b h = h
and_right false b h = let never : false ≡ true = h in cc

pub both_true : (a b : Bool) → a ≡ true → b ≡ true → (a && b) ≡ true
both_true true b h k = k
both_true false b h k = h

second_false : (a b : Bool) → b ≡ false → (a && b) ≡ false
second_false true b h = h
second_false false b h = refl

first_false : (a b : Bool) → a ≡ false → (a && b) ≡ false
first_false true b h = let never : true ≡ false = h in cc
first_false false b h = refl

pub by_bit : (b : Bool) → (b ≡ true) ⊎ (b ≡ false)
by_bit true = inl refl
by_bit false = inr refl

-- a product stays true when one of its variables is set
cube-set : (c : ℕ → Bool) → (q : IsCube c) → (x : ℕ) → c (set_bit q.place x true) ≡ true
cube-set c q x = elim (q.each x) [
  | inl free ↦ free q.place true ∙ q.holds
  | inr needs ↦ elim (by_bit (bit q.place x)) [
    | inl is ↦ ap (λ b. c (set_bit q.place x b)) (sym is) ∙ ap c (set_bit-own q.place x) ∙ q.holds
    | inr is ↦ let never : false ≡ true = sym (needs q.place is) ∙ q.holds in cc
  ]
]

-- one more variable
times-holds : (x : ℕ) (c : ℕ → Bool) → (q : IsCube c) → conjunction (projection x) c (set_bit q.place x true) ≡ true
times-holds x c q = both_true (bit (set_bit q.place x true) x) (c (set_bit q.place x true)) (bit-set_same q.place x true) (cube-set c q x)

free_projection : (x v : ℕ) → v ≢ x → IsFree (projection x) v
free_projection x v apart = λ k b. bit-set_other k v x b (λ e. apart (sym e))

pub times-free : (x v : ℕ) (c : ℕ → Bool) → v ≢ x → IsFree c v → IsFree (conjunction (projection x) c) v
times-free x v c apart free = IsFree-place (λ a b. a && b) (projection x) c v (free_projection x v apart) free

times-needs : (x : ℕ) (c : ℕ → Bool) → Needs (conjunction (projection x) c) x
times-needs x c = λ k none. first_false (bit k x) (c k) none

pub IsCube-times : (x : ℕ) (c : ℕ → Bool) → IsCube c → IsCube (conjunction (projection x) c)
IsCube-times x c q = record {
  place = set_bit q.place x true;
  holds = times-holds x c q;
  each = λ v. elim (cases_eq v x) [
    | inl same ↦ inr (subst (λ y. Needs (conjunction (projection x) c) y) (sym same) (times-needs x c))
    | inr apart ↦ elim (q.each v) [
      | inl free ↦ inl (times-free x v c apart free)
      | inr needs ↦ inr (λ k none. second_false (bit k x) (c k) (needs k none))
    ]
  ];
}

pub IsCube-one : IsCube (constant true)
IsCube-one = record { place = 0; holds = refl; each = λ v. inl (λ k b. refl) }

pub IsCube-of : (vs : List ℕ) → IsCube (cube_of vs)
IsCube-of [] = IsCube-one
IsCube-of (v ∷ vs) = IsCube-times v (cube_of vs) (IsCube-of vs)

-- the order of the variables doesn't matter, and no other one does
cube_all : (vs : List ℕ) (k : ℕ) → cube_of vs k ≡ true → All (λ v. bit k v ≡ true) vs
cube_all [] k t = λ i d below. absurd (omega arith)
cube_all (v ∷ vs) k t = All-cons (λ u. bit k u ≡ true) v vs (and_left (bit k v) (cube_of vs k) t) (cube_all vs k (and_right (bit k v) (cube_of vs k) t))

all_cube : (vs : List ℕ) (k : ℕ) → All (λ v. bit k v ≡ true) vs → cube_of vs k ≡ true
all_cube [] k h = refl
all_cube (v ∷ vs) k h = both_true (bit k v) (cube_of vs k) (All-head (λ u. bit k u ≡ true) v vs h) (all_cube vs k (All-tail (λ u. bit k u ≡ true) v vs h))

pub cube_of-permutation : (us vs : List ℕ) → IsPermutation us vs → cube_of us ≡ cube_of vs
cube_of-permutation us vs p = everywhere (cube_of us) (cube_of vs) (λ k. same_truth (cube_of us k) (cube_of vs k)
    (λ t. all_cube vs k (All-permutation (λ v. bit k v ≡ true) us vs p (cube_all us k t)))
    (λ t. all_cube us k (All-permutation (λ v. bit k v ≡ true) vs us (IsPermutation-sym us vs p) (cube_all vs k t))))

pub IsFree-cube : (u : ℕ) (vs : List ℕ) → All (λ v. u ≢ v) vs → IsFree (cube_of vs) u
IsFree-cube u [] h = λ k b. refl
IsFree-cube u (v ∷ vs) h = times-free v u (cube_of vs) (All-head (λ w. u ≢ w) v vs h) (IsFree-cube u vs (All-tail (λ w. u ≢ w) v vs h))

-- a variable of a product, taken off or already there
pub times-cofactor : (x : ℕ) (c : ℕ → Bool) → IsFree c x → cofactor (conjunction (projection x) c) x true ≡ c
times-cofactor x c free = everywhere (cofactor (conjunction (projection x) c) x true) c (λ k. ap (λ b. b && c (set_bit k x true)) (bit-set_same k x true) ∙ free k true)

pub times-choice : (x : ℕ) (c : ℕ → Bool) → choice x c (constant false) ≡ conjunction (projection x) c
times-choice x c = everywhere (choice x c (constant false)) (conjunction (projection x) c) (λ k. at_bit (bit k x) (c k))
  where
    at_bit : (a b : Bool) → cond a b false ≡ (a && b)
    at_bit true b = refl
    at_bit false b = refl

pub times-part : (x : ℕ) (c : ℕ → Bool) → IsCube c → (cofactor (conjunction (projection x) c) x true ≡ c) ⊎ (conjunction (projection x) c ≡ c)
times-part x c q = elim (q.each x) [
  | inl free ↦ inl (times-cofactor x c free)
  | inr needs ↦ inr (everywhere (conjunction (projection x) c) c (λ k. elim (by_bit (bit k x)) [
    | inl is ↦ ap (λ b. b && c k) is
    | inr is ↦ first_false (bit k x) (c k) is ∙ sym (needs k is)
  ]))
]

-- a product depends on its variables
needs-not_free : (c : ℕ → Bool) (x k : ℕ) → c k ≡ true → Needs c x → IsFree c x → ⊥
needs-not_free c x k holds needs free =
    let never : false ≡ true = sym (needs (set_bit k x false) (bit-set_same k x false)) ∙ free k false ∙ holds in cc

pub times-depends : (x : ℕ) (c : ℕ → Bool) → IsCube c → IsFree (conjunction (projection x) c) x → ⊥
times-depends x c q free = needs-not_free (conjunction (projection x) c) x (set_bit q.place x true) (times-holds x c q) (times-needs x c) free

times-free_back : (x v : ℕ) (c : ℕ → Bool) → IsCube c → IsFree (conjunction (projection x) c) v → IsFree c v
times-free_back x v c q free = elim (q.each v) [
  | inl here ↦ here
  | inr needs ↦ absurd (needs-not_free (conjunction (projection x) c) v (set_bit q.place x true) (times-holds x c q) (λ k none. second_false (bit k x) (c k) (needs k none)) free)
]

-- quantification: by no variable, by one more, by a list
pub IsExists-none : (c f : ℕ → Bool) → ((v : ℕ) → IsFree c v) → IsExists c f f
IsExists-none c f free = record {
  reached = λ k t. (k, (t, λ v same. refl));
  reaches = λ k w. ap f (sym (same_bits w.0 k (λ v. w.1.1 v (free v)))) ∙ w.1.0;
}

pub IsExists-times : (x : ℕ) (c f g : ℕ → Bool) → IsCube c → IsExists c (exists_one f x) g → IsExists (conjunction (projection x) c) f g
IsExists-times x c f g q e = record {
  reached = λ k t. let w = e.reached k t in
      elim (or_true (cofactor f x true w.0) (cofactor f x false w.0) w.1.0) [
        | inl is ↦ (set_bit w.0 x true, (is, moved w.0 k true w.1.1))
        | inr is ↦ (set_bit w.0 x false, (is, moved w.0 k false w.1.1))
      ];
  reaches = λ k w. e.reaches k (set_bit w.0 x (bit k x), (one w.0 (bit k x) w.1.0, back w.0 k w.1.1));
}
  where
    moved : (j k : ℕ) (b : Bool) → AgreeBeyond c j k → AgreeBeyond (conjunction (projection x) c) (set_bit j x b) k
    moved j k b agree v free =
        let apart : v ≢ x = λ same. times-depends x c q (subst (λ y. IsFree (conjunction (projection x) c) y) same free) in
        bit-set_other j x v b apart ∙ agree v (times-free_back x v c q free)

    back : (j k : ℕ) → AgreeBeyond (conjunction (projection x) c) j k → AgreeBeyond c (set_bit j x (bit k x)) k
    back j k agree v free = elim (cases_eq v x) [
      | inl same ↦ subst (λ y. bit (set_bit j x (bit k x)) y ≡ bit k y) (sym same) (bit-set_same j x (bit k x))
      | inr apart ↦ bit-set_other j x v (bit k x) apart ∙ agree v (times-free x v c apart free)
    ]

    own : (j : ℕ) (b c : Bool) → bit j x ≡ c → cofactor f x c (set_bit j x b) ≡ f j
    own j b c is = ap f (set_bit-set_same j x b c) ∙ ap (λ d. f (set_bit j x d)) (sym is) ∙ ap f (set_bit-own j x)

    one : (j : ℕ) (b : Bool) → f j ≡ true → exists_one f x (set_bit j x b) ≡ true
    one j b t = true_or (cofactor f x true (set_bit j x b)) (cofactor f x false (set_bit j x b)) (elim (by_bit (bit j x)) [
      | inl is ↦ inl (own j b true is ∙ t)
      | inr is ↦ inr (own j b false is ∙ t)
    ])

pub IsExists-all : (f : ℕ → Bool) (vs : List ℕ) → IsExists (cube_of vs) f (exists_all f vs)
unfolding exists_all
IsExists-all f [] = IsExists-none (constant true) f (λ v k b. refl)
IsExists-all f (v ∷ vs) = IsExists-times v (cube_of vs) f (exists_all (exists_one f v) vs) (IsCube-of vs) (IsExists-all (exists_one f v) vs)

-- there is one quantified function
pub IsExists-same : (c f g h : ℕ → Bool) → IsExists c f g → IsExists c f h → g ≡ h
IsExists-same c f g h p q = everywhere g h (λ k. same_truth (g k) (h k) (λ t. q.reaches k (p.reached k t)) (λ t. p.reaches k (q.reached k t)))

-- a variable on which f doesn't depend may be left out of the product
pub IsExists-absent : (x : ℕ) (c f g : ℕ → Bool) → IsCube c → IsFree f x → IsExists c f g → IsExists (conjunction (projection x) c) f g
IsExists-absent x c f g q free e = IsExists-times x c f g q (subst (λ h. IsExists c h g) (sym (exists-free f x free)) e)

-- what doesn't depend on a variable still doesn't
pub IsFree-exists : (c f g : ℕ → Bool) (v : ℕ) → IsExists c f g → IsFree f v → IsFree g v
IsFree-exists c f g v e free = λ k b. same_truth (g (set_bit k v b)) (g k) (there k b) (back k b)
  where
    shifted : (j k : ℕ) (a b : Bool) → bit k v ≡ a → AgreeBeyond c j (set_bit k v b) → AgreeBeyond c (set_bit j v a) k
    shifted j k a b is agree u other = elim (cases_eq u v) [
      | inl same ↦ subst (λ y. bit (set_bit j v a) y ≡ bit k y) (sym same) (bit-set_same j v a ∙ sym is)
      | inr apart ↦ bit-set_other j v u a apart ∙ agree u other ∙ bit-set_other k v u b apart
    ]

    there : (k : ℕ) (b : Bool) → g (set_bit k v b) ≡ true → g k ≡ true
    there k b t = let w = e.reached (set_bit k v b) t in e.reaches k (set_bit w.0 v (bit k v), (free w.0 (bit k v) ∙ w.1.0, shifted w.0 k (bit k v) b refl w.1.1))

    back : (k : ℕ) (b : Bool) → g k ≡ true → g (set_bit k v b) ≡ true
    back k b t = there (set_bit k v b) (bit k v) (ap g (set_bit-set_same k v b (bit k v) ∙ set_bit-own k v) ∙ t)

-- a choice by a variable that is not quantified, and by one that is
pub choice-at : (x j : ℕ) (f g : ℕ → Bool) (b : Bool) → bit j x ≡ b → choice x f g j ≡ cond b (f j) (g j)
choice-at x j f g b is = ap (λ c. cond c (f j) (g j)) is

pub IsExists-choice : (x : ℕ) (c f g a b : ℕ → Bool) → IsFree c x → IsExists c f a → IsExists c g b → IsExists c (choice x f g) (choice x a b)
IsExists-choice x c f g a b free p q = record {
  reached = λ k t. elim (by_bit (bit k x)) [
    | inl is ↦ let w = p.reached k (sym (choice-at x k a b true is) ∙ t) in (w.0, (choice-at x w.0 f g true (w.1.1 x free ∙ is) ∙ w.1.0, w.1.1))
    | inr is ↦ let w = q.reached k (sym (choice-at x k a b false is) ∙ t) in (w.0, (choice-at x w.0 f g false (w.1.1 x free ∙ is) ∙ w.1.0, w.1.1))
  ];
  reaches = λ k w. elim (by_bit (bit k x)) [
    | inl is ↦ choice-at x k a b true is ∙ p.reaches k (w.0, (sym (choice-at x w.0 f g true (w.1.1 x free ∙ is)) ∙ w.1.0, w.1.1))
    | inr is ↦ choice-at x k a b false is ∙ q.reaches k (w.0, (sym (choice-at x w.0 f g false (w.1.1 x free ∙ is)) ∙ w.1.0, w.1.1))
  ];
}

pub IsExists-or : (c f g a b : ℕ → Bool) → IsExists c f a → IsExists c g b → IsExists c (disjunction f g) (disjunction a b)
IsExists-or c f g a b p q = record {
  reached = λ k t. elim (or_true (a k) (b k) t) [
    | inl is ↦ let w = p.reached k is in (w.0, (true_or (f w.0) (g w.0) (inl w.1.0), w.1.1))
    | inr is ↦ let w = q.reached k is in (w.0, (true_or (f w.0) (g w.0) (inr w.1.0), w.1.1))
  ];
  reaches = λ k w. elim (or_true (f w.0) (g w.0) w.1.0) [
    | inl is ↦ true_or (a k) (b k) (inl (p.reaches k (w.0, (is, w.1.1))))
    | inr is ↦ true_or (a k) (b k) (inr (q.reaches k (w.0, (is, w.1.1))))
  ];
}

pub IsExists-quantified : (x : ℕ) (c f g a b : ℕ → Bool) → IsCube c → IsFree f x → IsFree g x → IsExists c f a → IsExists c g b
    → IsExists (conjunction (projection x) c) (choice x f g) (disjunction a b)
IsExists-quantified x c f g a b q free_f free_g p r =
    IsExists-times x c (choice x f g) (disjunction a b) q (subst (λ h. IsExists c h (disjunction a b)) (sym (exists-choice_same f g x free_f free_g)) (IsExists-or c f g a b p r))

-- a first part that can always be made true settles the value
pub IsExists-settled : (x : ℕ) (c f g : ℕ → Bool) → IsCube c → IsFree f x → IsFree g x → IsExists c f (constant true)
    → IsExists (conjunction (projection x) c) (choice x f g) (constant true)
IsExists-settled x c f g q free_f free_g p =
    IsExists-times x c (choice x f g) (constant true) q (subst (λ h. IsExists c h (constant true)) (sym (exists-choice_same f g x free_f free_g)) (record {
      reached = λ k t. let w = p.reached k t in (w.0, (true_or (f w.0) (g w.0) (inl w.1.0), w.1.1));
      reaches = λ k w. refl;
    }))

-- of constants
pub IsExists-constant : (c : ℕ → Bool) (b : Bool) → IsExists c (constant b) (constant b)
IsExists-constant c b = record { reached = λ k t. (k, (t, λ v free. refl)); reaches = λ k w. w.1.0 }

-- the parts of a choice whose variable doesn't matter are one; parts of functions that lack a variable lack it
pub choice-same_part : (x : ℕ) (f g : ℕ → Bool) → IsFree f x → IsFree g x → IsFree (choice x f g) x → f ≡ g
choice-same_part x f g free_f free_g free =
    sym (cofactor-free f x true free_f) ∙ sym (cofactor-choice_true f g x) ∙ cofactor-free (choice x f g) x true free
    ∙ sym (cofactor-free (choice x f g) x false free) ∙ cofactor-choice_false f g x ∙ cofactor-free g x false free_g

pub part-lacks : (x u : ℕ) (f h l : ℕ → Bool) (b : Bool) → f ≡ choice x h l → IsFree h x → IsFree l x → IsFree f u → IsFree (cond b h l) u
part-lacks x u f h l b is free_h free_l free = elim (cases_eq u x) [
  | inl same ↦ subst (λ y. IsFree (cond b h l) y) (sym same) (own b)
  | inr apart ↦ subst (λ g. IsFree g u) (ap (λ g. cofactor g x b) is ∙ at_bit b) (IsFree-cofactor_other f u x b apart free)
]
  where
    own : (b : Bool) → IsFree (cond b h l) x
    own true = free_h
    own false = free_l

    at_bit : (b : Bool) → cofactor (choice x h l) x b ≡ cond b h l
    at_bit true = cofactor-choice_true h l x ∙ cofactor-free h x true free_h
    at_bit false = cofactor-choice_false h l x ∙ cofactor-free l x false free_l

-- the top variable of a product
module _ (x : ℕ) (c f g : ℕ → Bool) (q : IsCube c) (is : c ≡ choice x f g) (free_f : IsFree f x) (free_g : IsFree g x) where
  then_part : f ≡ cofactor c x true
  then_part = sym (ap (λ h. cofactor h x true) is ∙ cofactor-choice_true f g x ∙ cofactor-free f x true free_f)

  else_part : g ≡ cofactor c x false
  else_part = sym (ap (λ h. cofactor h x false) is ∙ cofactor-choice_false f g x ∙ cofactor-free g x false free_g)

  -- its parts differ, so it needs the variable
  pub top-needs : f ≢ g → Needs c x
  top-needs proper = elim (q.each x) [
    | inl free ↦ absurd (proper (then_part ∙ cofactor-free c x true free ∙ sym (cofactor-free c x false free) ∙ sym else_part))
    | inr needs ↦ needs
  ]

  pub top-times : f ≢ g → c ≡ conjunction (projection x) f
  top-times proper = everywhere c (conjunction (projection x) f) (λ k. elim (by_bit (bit k x)) [
    | inl one ↦ ap (λ h. h k) is ∙ choice-at x k f g true one ∙ ap (λ b. b && f k) (sym one)
    | inr none ↦ top-needs proper k none ∙ sym (first_false (bit k x) (f k) none)
  ])

  pub top-rest : f ≢ g → IsCube f
  top-rest proper = record {
    place = q.place;
    holds = elim (by_bit (bit q.place x)) [
      | inl one ↦ sym (choice-at x q.place f g true one) ∙ sym (ap (λ h. h q.place) is) ∙ q.holds
      | inr none ↦ let never : false ≡ true = sym (top-needs proper q.place none) ∙ q.holds in cc
    ];
    each = λ v. elim (cases_eq v x) [
      | inl same ↦ inl (subst (λ y. IsFree f y) (sym same) free_f)
      | inr apart ↦ elim (q.each v) [
        | inl free ↦ inl (subst (λ h. IsFree h v) (sym then_part) (IsFree-cofactor_other c v x true apart free))
        | inr needs ↦ inr (λ k none. ap (λ h. h k) then_part ∙ needs (set_bit k x true) (bit-set_other k x v true apart ∙ none))
      ]
    ];
  }
