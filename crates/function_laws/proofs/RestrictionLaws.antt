-- What restrict may answer, step by step (Coudert and Madre 1990).
use Rattle.std.proofs.Common.{◌≡◌, ◌≢◌, ℕ, Bool, true, false, not, cond, ◌||◌, ◌⊎◌, inl, inr, refl, sym, ap, ap₂, ◌∙◌, subst}
use Rattle.std.proofs.lemmas.Bool.{cases_eq}
use Rattle.edge_bits.specs.Assignments.{bit, set_bit}
use Rattle.edge_bits.proofs.AssignmentLemmas.{bit-set_same, bit-set_other, set_bit-set_same, same_bits}
use Rattle.function_laws.specs.Cubes.{AgreeBeyond}
use Rattle.function_laws.specs.Restrictions.{NeedsValue, IsLiteralProduct, IsRestriction, IsNowhere}
use Rattle.function_laws.specs.Values.{cofactor, choice, IsFree, constant, negation, exists_one}
use Rattle.function_laws.proofs.CubeLemmas.{by_bit, or_true, true_or, choice-at, choice-same_part, part-lacks}
use Rattle.function_laws.proofs.SupportLemmas.{not_not, not_free}
use Rattle.function_laws.proofs.ValueLemmas.{everywhere, cofactor-own, IsFree-cofactor_other, IsFree-choice_other, IsFree-place}

-- truth values
true_and_false : (b : Bool) → b ≡ true → b ≡ false → ⊥
true_and_false b p q = let never : true ≡ false = sym p ∙ q in cc

same_or_not : (a b : Bool) → (a ≡ b) ⊎ (a ≡ not b)
same_or_not true true = inl refl
same_or_not true false = inr refl
same_or_not false true = inr refl
same_or_not false false = inl refl

settle : (a b : Bool) → ((a ≡ b → ⊥) → ⊥) → a ≡ b
settle true true h = refl
settle true false h = absurd (h (λ e. let never : true ≡ false = e in cc))
settle false true h = absurd (h (λ e. let never : false ≡ true = e in cc))
settle false false h = refl

-- no condition: false everywhere, or true everywhere
pub IsRestriction-nowhere : (f c : ℕ → Bool) → IsNowhere c → IsRestriction f c (constant false)
IsRestriction-nowhere f c none = record {
  agrees = λ k here. absurd (true_and_false (c k) here (none k));
  depends_on_no_more = λ v free k b. refl;
  is_constant = λ x place here same k. absurd (true_and_false (c place) here (none place));
  is_cofactor = λ q j k here agree. absurd (true_and_false (c j) here (none j));
  is_false = λ nowhere k. refl;
}

pub IsRestriction-everywhere : (f : ℕ → Bool) → IsRestriction f (constant true) f
IsRestriction-everywhere f = record {
  agrees = λ k here. refl;
  depends_on_no_more = λ v free. free;
  is_constant = λ x place here same k. same k refl;
  is_cofactor = λ q j k here agree. ap f (sym (same_bits j k (λ v. agree v (λ m b. refl))));
  is_false = λ nowhere k. absurd (true_and_false true refl (nowhere 0));
}

-- of a constant, of the condition itself, and of a complement
pub IsRestriction-constant : (x : Bool) (c : ℕ → Bool) → (IsNowhere c → ⊥) → IsRestriction (constant x) c (constant x)
IsRestriction-constant x c some = record {
  agrees = λ k here. refl;
  depends_on_no_more = λ v free. free;
  is_constant = λ y place here same k. same place here;
  is_cofactor = λ q j k here agree. refl;
  is_false = λ nowhere k. absurd (some nowhere);
}

pub IsRestriction-same : (c : ℕ → Bool) → (IsNowhere c → ⊥) → IsRestriction c c (constant true)
IsRestriction-same c some = record {
  agrees = λ k here. sym here;
  depends_on_no_more = λ v free k b. refl;
  is_constant = λ x place here same k. sym here ∙ same place here;
  is_cofactor = λ q j k here agree. sym here;
  is_false = λ nowhere k. absurd (some nowhere);
}

pub IsRestriction-not : (f c r : ℕ → Bool) → (IsNowhere c → ⊥) → IsRestriction f c r → IsRestriction (negation f) c (negation r)
IsRestriction-not f c r some p = record {
  agrees = λ k here. ap not (p.agrees k here);
  depends_on_no_more = λ v free k b. ap not (p.depends_on_no_more v (not_free f v free) k b);
  is_constant = λ x place here same k. ap not (p.is_constant (not x) place here (λ j there. sym (not_not (f j)) ∙ ap not (same j there)) k) ∙ not_not x;
  is_cofactor = λ q j k here agree. ap not (p.is_cofactor q j k here agree);
  is_false = λ nowhere k. absurd (some nowhere);
}

-- what needs a value of a variable depends on it
pub needs-not_free : (c : ℕ → Bool) (v j : ℕ) (b : Bool) → c j ≡ true → NeedsValue c v b → IsFree c v → ⊥
needs-not_free c v j b holds needs free =
    true_and_false (c (set_bit j v (not b))) (free j (not b) ∙ holds) (needs (set_bit j v (not b)) (bit-set_same j v (not b)))

-- an assignment with the value of one variable from another
moved : (d : ℕ → Bool) (v j k : ℕ) → ((u : ℕ) → u ≢ v → IsFree d u → bit j u ≡ bit k u) → AgreeBeyond d (set_bit j v (bit k v)) k
moved d v j k agree u free = elim (cases_eq u v) [
  | inl same ↦ subst (λ y. bit (set_bit j v (bit k v)) y ≡ bit k y) (sym same) (bit-set_same j v (bit k v))
  | inr apart ↦ bit-set_other j v u (bit k v) apart ∙ agree u apart free
]

-- the condition that some value of a variable meets
pub IsFree-exists_own : (c : ℕ → Bool) (u : ℕ) → IsFree (exists_one c u) u
IsFree-exists_own c u = λ k b. ap₂ (λ x y. c x || c y) (set_bit-set_same k u b true) (set_bit-set_same k u b false)

pub IsFree-exists_other : (c : ℕ → Bool) (u w : ℕ) → w ≢ u → IsFree c w → IsFree (exists_one c u) w
IsFree-exists_other c u w apart free =
    IsFree-place (λ a b. a || b) (cofactor c u true) (cofactor c u false) w (IsFree-cofactor_other c w u true apart free) (IsFree-cofactor_other c w u false apart free)

exists_own : (c : ℕ → Bool) (u k : ℕ) → c k ≡ true → exists_one c u k ≡ true
exists_own c u k here = true_or (cofactor c u true k) (cofactor c u false k) (elim (by_bit (bit k u)) [
  | inl is ↦ inl (cofactor-own c u k true is ∙ here)
  | inr is ↦ inr (cofactor-own c u k false is ∙ here)
])

pub nowhere-exists : (c : ℕ → Bool) (u : ℕ) → IsNowhere (exists_one c u) → IsNowhere c
nowhere-exists c u none = λ k. elim (by_bit (c k)) [
  | inl here ↦ absurd (true_and_false (exists_one c u k) (exists_own c u k here) (none k))
  | inr is ↦ is
]

-- a condition may be made free of a variable on which the function doesn't depend
pub IsRestriction-lifted : (f c r : ℕ → Bool) (u : ℕ) → IsFree f u → IsRestriction f (exists_one c u) r → IsRestriction f c r
IsRestriction-lifted f c r u free p = record {
  agrees = λ k here. p.agrees k (exists_own c u k here);
  depends_on_no_more = p.depends_on_no_more;
  is_constant = λ x place here same k. p.is_constant x place (exists_own c u place here) (value x same) k;
  is_cofactor = λ q j k here agree.
      p.is_cofactor (product q) (set_bit j u (bit k u)) k (IsFree-exists_own c u j (bit k u) ∙ exists_own c u j here)
      (moved (exists_one c u) u j k (λ w apart absent. agree w (free_back q j here w apart absent))) ∙ free j (bit k u);
  is_false = λ nowhere k. p.is_false (λ j. ap₂ (λ a b. a || b) (nowhere (set_bit j u true)) (nowhere (set_bit j u false))) k;
}
  where
    value : (x : Bool) → ((k : ℕ) → c k ≡ true → f k ≡ x) → (k : ℕ) → exists_one c u k ≡ true → f k ≡ x
    value x same k here = elim (or_true (cofactor c u true k) (cofactor c u false k) here) [
      | inl is ↦ sym (free k true) ∙ same (set_bit k u true) is
      | inr is ↦ sym (free k false) ∙ same (set_bit k u false) is
    ]

    needs_still : (w : ℕ) (b : Bool) → w ≢ u → NeedsValue c w b → NeedsValue (exists_one c u) w b
    needs_still w b apart needs k is =
        ap₂ (λ a b. a || b) (needs (set_bit k u true) (bit-set_other k u w true apart ∙ is)) (needs (set_bit k u false) (bit-set_other k u w false apart ∙ is))

    product : IsLiteralProduct c → IsLiteralProduct (exists_one c u)
    product q = record {
      place = q.place;
      holds = exists_own c u q.place q.holds;
      each = λ w. elim (cases_eq w u) [
        | inl same ↦ inl (subst (λ y. IsFree (exists_one c u) y) (sym same) (IsFree-exists_own c u))
        | inr apart ↦ elim (q.each w) [
          | inl absent ↦ inl (IsFree-exists_other c u w apart absent)
          | inr needs ↦ inr (elim needs [ inl one ↦ inl (needs_still w true apart one) | inr none ↦ inr (needs_still w false apart none) ])
        ]
      ];
    }

    free_back : IsLiteralProduct c → (j : ℕ) → c j ≡ true → (w : ℕ) → w ≢ u → IsFree (exists_one c u) w → IsFree c w
    free_back q j here w apart absent = elim (q.each w) [
      | inl is ↦ is
      | inr needs ↦ absurd (elim needs [
        | inl one ↦ needs-not_free (exists_one c u) w j true (exists_own c u j here) (needs_still w true apart one) absent
        | inr none ↦ needs-not_free (exists_one c u) w j false (exists_own c u j here) (needs_still w false apart none) absent
      ])
    ]

-- the part of a function and of its condition where a variable has a value
module _ (v : ℕ) (b : Bool) (f c g d : ℕ → Bool) (f_is : (k : ℕ) → bit k v ≡ b → f k ≡ g k) (c_is : (k : ℕ) → bit k v ≡ b → c k ≡ d k) (free_g : IsFree g v) (free_d : IsFree d v) where
  f_at : (k : ℕ) → g k ≡ f (set_bit k v b)
  f_at k = sym (free_g k b) ∙ sym (f_is (set_bit k v b) (bit-set_same k v b))

  c_at : (k : ℕ) → d k ≡ c (set_bit k v b)
  c_at k = sym (free_d k b) ∙ sym (c_is (set_bit k v b) (bit-set_same k v b))

  part_value : (x : Bool) → ((k : ℕ) → c k ≡ true → f k ≡ x) → (k : ℕ) → d k ≡ true → g k ≡ x
  part_value x same k here = f_at k ∙ same (set_bit k v b) (sym (c_at k) ∙ here)

  part_nowhere : IsNowhere c → IsNowhere d
  part_nowhere none k = c_at k ∙ none (set_bit k v b)

  -- a part whose condition holds somewhere is constant
  part_constant : (r : ℕ → Bool) → (IsNowhere d → ⊥) → IsRestriction g d r → (x : Bool) → ((k : ℕ) → c k ≡ true → f k ≡ x) → (k : ℕ) → r k ≡ x
  part_constant r some p x same k = settle (r k) x (λ differ. some (λ j. elim (by_bit (d j)) [
    | inl is ↦ absurd (differ (p.is_constant x j is (part_value x same) k))
    | inr none ↦ none
  ]))

  -- where the condition asks for that value, the part is all
  part_alone : (r : ℕ → Bool) → ((k : ℕ) → bit k v ≡ not b → c k ≡ false) → IsRestriction g d r → IsRestriction f c r
  part_alone r none p = record {
    agrees = λ k here. p.agrees k (sym (c_is k (at k here)) ∙ here) ∙ sym (f_is k (at k here));
    depends_on_no_more = λ u free. elim (cases_eq u v) [
      | inl same ↦ subst (λ y. IsFree r y) (sym same) (p.depends_on_no_more v free_g)
      | inr apart ↦ p.depends_on_no_more u (subst (λ h. IsFree h u) (sym (everywhere g (cofactor f v b) f_at)) (IsFree-cofactor_other f u v b apart free))
    ];
    is_constant = λ x place here same k. p.is_constant x place (sym (c_is place (at place here)) ∙ here) (part_value x same) k;
    is_cofactor = λ q j k here agree.
        p.is_cofactor (product q) (set_bit j v (bit k v)) k (free_d j (bit k v) ∙ sym (c_is j (at j here)) ∙ here)
        (moved d v j k (λ u apart free. agree u (free_c u apart free))) ∙ free_g j (bit k v) ∙ sym (f_is j (at j here));
    is_false = λ nowhere k. p.is_false (part_nowhere nowhere) k;
  }
    where
      at : (k : ℕ) → c k ≡ true → bit k v ≡ b
      at k here = elim (same_or_not (bit k v) b) [ inl is ↦ is | inr other ↦ absurd (true_and_false (c k) here (none k other)) ]

      needs_still : (u : ℕ) (e : Bool) → u ≢ v → NeedsValue c u e → NeedsValue d u e
      needs_still u e apart needs k is = c_at k ∙ needs (set_bit k v b) (bit-set_other k v u b apart ∙ is)

      product : IsLiteralProduct c → IsLiteralProduct d
      product q = record {
        place = q.place;
        holds = sym (c_is q.place (at q.place q.holds)) ∙ q.holds;
        each = λ u. elim (cases_eq u v) [
          | inl same ↦ inl (subst (λ y. IsFree d y) (sym same) free_d)
          | inr apart ↦ elim (q.each u) [
            | inl free ↦ inl (subst (λ h. IsFree h u) (sym (everywhere d (cofactor c v b) c_at)) (IsFree-cofactor_other c u v b apart free))
            | inr needs ↦ inr (elim needs [ inl one ↦ inl (needs_still u true apart one) | inr zero ↦ inr (needs_still u false apart zero) ])
          ]
        ];
      }

      free_c : (u : ℕ) → u ≢ v → IsFree d u → IsFree c u
      free_c u apart free k e = let still = bit-set_other k u v e (λ same. apart (sym same)) in elim (same_or_not (bit k v) b) [
        | inl is ↦ c_is (set_bit k u e) (still ∙ is) ∙ free k e ∙ sym (c_is k is)
        | inr other ↦ none (set_bit k u e) (still ∙ other) ∙ sym (none k other)
      ]

  -- where the condition doesn't depend on the variable, the part has the same condition
  part_same : IsFree c v → d ≡ c
  part_same free = everywhere d c (λ k. c_at k ∙ free k b)

-- one branch alone, where the condition of the other holds nowhere
pub IsRestriction-branch : (v : ℕ) (b : Bool) (f1 f0 c1 c0 r : ℕ → Bool) → IsFree (cond b f1 f0) v → IsFree (cond b c1 c0) v → IsNowhere (cond b c0 c1)
    → IsRestriction (cond b f1 f0) (cond b c1 c0) r → IsRestriction (choice v f1 f0) (choice v c1 c0) r
IsRestriction-branch v true f1 f0 c1 c0 r free_f free_c none p =
    part_alone v true (choice v f1 f0) (choice v c1 c0) f1 c1 (λ k is. choice-at v k f1 f0 true is) (λ k is. choice-at v k c1 c0 true is) free_f free_c
    r (λ k is. choice-at v k c1 c0 false is ∙ none k) p
IsRestriction-branch v false f1 f0 c1 c0 r free_f free_c none p =
    part_alone v false (choice v f1 f0) (choice v c1 c0) f0 c0 (λ k is. choice-at v k f1 f0 false is) (λ k is. choice-at v k c1 c0 false is) free_f free_c
    r (λ k is. choice-at v k c1 c0 true is ∙ none k) p

-- both branches, where both conditions hold somewhere
pub IsRestriction-choice : (v : ℕ) (f1 f0 c1 c0 r1 r0 : ℕ → Bool) → IsFree f1 v → IsFree f0 v → IsFree c1 v → IsFree c0 v → f1 ≢ f0 → (IsNowhere c1 → ⊥) → (IsNowhere c0 → ⊥)
    → IsRestriction f1 c1 r1 → IsRestriction f0 c0 r0 → IsRestriction (choice v f1 f0) (choice v c1 c0) (choice v r1 r0)
IsRestriction-choice v f1 f0 c1 c0 r1 r0 free_f1 free_f0 free_c1 free_c0 proper some1 some0 p1 p0 = record {
  agrees = λ k here. elim (by_bit (bit k v)) [
    | inl is ↦ choice-at v k r1 r0 true is ∙ p1.agrees k (sym (choice-at v k c1 c0 true is) ∙ here) ∙ sym (choice-at v k f1 f0 true is)
    | inr is ↦ choice-at v k r1 r0 false is ∙ p0.agrees k (sym (choice-at v k c1 c0 false is) ∙ here) ∙ sym (choice-at v k f1 f0 false is)
  ];
  depends_on_no_more = λ u free. elim (cases_eq u v) [
    | inl same ↦ absurd (proper (choice-same_part v f1 f0 free_f1 free_f0 (subst (λ y. IsFree (choice v f1 f0) y) same free)))
    | inr apart ↦ IsFree-choice_other r1 r0 v u (λ e. apart (sym e))
        (p1.depends_on_no_more u (part-lacks v u (choice v f1 f0) f1 f0 true refl free_f1 free_f0 free)) (p0.depends_on_no_more u (part-lacks v u (choice v f1 f0) f1 f0 false refl free_f1 free_f0 free))
  ];
  is_constant = λ x place here same k. elim (by_bit (bit k v)) [
    | inl is ↦ choice-at v k r1 r0 true is ∙ part_constant v true (choice v f1 f0) (choice v c1 c0) f1 c1 f_then c_then free_f1 free_c1 r1 some1 p1 x same k
    | inr is ↦ choice-at v k r1 r0 false is ∙ part_constant v false (choice v f1 f0) (choice v c1 c0) f0 c0 f_else c_else free_f0 free_c0 r0 some0 p0 x same k
  ];
  is_cofactor = λ q j k here agree.
      let free = free_c q in
      let same1 = part_same v true (choice v f1 f0) (choice v c1 c0) f1 c1 f_then c_then free_f1 free_c1 free in
      let same0 = part_same v false (choice v f1 f0) (choice v c1 c0) f0 c0 f_else c_else free_f0 free_c0 free in
      elim (by_bit (bit k v)) [
        | inl is ↦ choice-at v k r1 r0 true is ∙ p1.is_cofactor (subst IsLiteralProduct (sym same1) q) j k (ap (λ (h : ℕ → Bool). h j) same1 ∙ here) (λ u absent. agree u (subst (λ h. IsFree h u) same1 absent))
            ∙ sym (choice-at v j f1 f0 true (agree v free ∙ is))
        | inr is ↦ choice-at v k r1 r0 false is ∙ p0.is_cofactor (subst IsLiteralProduct (sym same0) q) j k (ap (λ (h : ℕ → Bool). h j) same0 ∙ here) (λ u absent. agree u (subst (λ h. IsFree h u) same0 absent))
            ∙ sym (choice-at v j f1 f0 false (agree v free ∙ is))
      ];
  is_false = λ nowhere k. absurd (some1 (part_nowhere v true (choice v f1 f0) (choice v c1 c0) f1 c1 f_then c_then free_f1 free_c1 nowhere));
}
  where
    f_then : (k : ℕ) → bit k v ≡ true → choice v f1 f0 k ≡ f1 k
    f_then k is = choice-at v k f1 f0 true is

    f_else : (k : ℕ) → bit k v ≡ false → choice v f1 f0 k ≡ f0 k
    f_else k is = choice-at v k f1 f0 false is

    c_then : (k : ℕ) → bit k v ≡ true → choice v c1 c0 k ≡ c1 k
    c_then k is = choice-at v k c1 c0 true is

    c_else : (k : ℕ) → bit k v ≡ false → choice v c1 c0 k ≡ c0 k
    c_else k is = choice-at v k c1 c0 false is

    free_c : IsLiteralProduct (choice v c1 c0) → IsFree (choice v c1 c0) v
    free_c q = elim (q.each v) [
      | inl free ↦ free
      | inr needs ↦ absurd (elim needs [
        | inl one ↦ some0 (λ j. c_at v false (choice v f1 f0) (choice v c1 c0) f0 c0 f_else c_else free_f0 free_c0 j ∙ one (set_bit j v false) (bit-set_same j v false))
        | inr zero ↦ some1 (λ j. c_at v true (choice v f1 f0) (choice v c1 c0) f1 c1 f_then c_then free_f1 free_c1 j ∙ zero (set_bit j v true) (bit-set_same j v true))
      ])
    ]

-- a choice of two functions that differ holds somewhere
pub somewhere-choice : (v : ℕ) (c1 c0 : ℕ → Bool) → IsFree c1 v → IsFree c0 v → c1 ≢ c0 → IsNowhere (choice v c1 c0) → ⊥
somewhere-choice v c1 c0 free1 free0 proper none = proper (everywhere c1 c0 (λ k.
    sym (free1 k true) ∙ sym (choice-at v (set_bit k v true) c1 c0 true (bit-set_same k v true)) ∙ none (set_bit k v true)
    ∙ sym (none (set_bit k v false)) ∙ choice-at v (set_bit k v false) c1 c0 false (bit-set_same k v false) ∙ free0 k false))
