-- No combination and no literal of Morreale's answer can be left out.
use Rattle.std.proofs.Common.{◌≡◌, ◌≢◌, ℕ, ◌+◌, ◌*◌, ◌^◌, ◌==◌, ◌<◌, ◌≤◌, Bool, true, false, true≢false, not, ◌&&◌, ◌||◌, cond, ◌⊎◌, inl, inr, ⊎_elim, List, [], ◌∷◌, refl, sym, ap, ◌∙◌, subst, arith, eqb-true, eq-eqb}
use Rattle.std.proofs.lemmas.Bool.{and_parts, or_cases, not-true}
use Rattle.edge_bits.specs.Assignments.{bit, set_bit}
use Rattle.edge_bits.proofs.AssignmentLemmas.{bit-set_same, bit-set_other, set_bit-own, set_bit-set_same, set_bit_comm, set_bit-below}
use Rattle.function_laws.specs.Values.{cofactor, conjunction}
use Rattle.function_laws.specs.Families.{empty, base, union, change}
use Rattle.function_laws.proofs.DistinctLemmas.{In}
use Rattle.function_laws.proofs.ListLemmas.{false-all_below}
use Rattle.function_laws.specs.IrredundantCovers.{cover_value, but, IsIrredundant}
use Rattle.function_laws.specs.MorrealeCalls.{Interval, less, low_call, high_call, both_call, left_low, left_high, depends_at, holds_nowhere, holds_everywhere, morreale}
use Rattle.function_laws.proofs.CoverLaws.{Fits, Covers, Own, Free, IsLe, IsVars, Good, good, half_call, element, own-lacks, lacks_element, literal_at, literal_fits, fits_with, fits_less, changed-has, changed-covers, within_element, cases_same, both, covers-value, value-covers, free_rest, half-free, half-le, both-le, both-free, neither, base_zero, bit-zero, Fits-fits}

-- What can't be left out.
pub record Lean (n m : ℕ) (b : Interval) (p : ℕ → Bool) : Type 0 where
  pub consistent : (c v : ℕ) → p c ≡ true → bit c (2 * v) ≡ true → bit c (2 * v + 1) ≡ true → ⊥
  pub needs_each : (c : ℕ) → p c ≡ true → (k : ℕ) × (k < 2 ^ n) × (b.lower k ≡ true) × (Covers n m (but p c) k → ⊥)
  pub needs_literals : (c e : ℕ) → p c ≡ true → bit c e ≡ true → (k : ℕ) × (k < 2 ^ n) × Fits n (set_bit c e false) k × (b.upper k ≡ false)

-- what has no literal of v fits wherever only the value of v differs
fits-other : (n c j k v : ℕ) → bit c (2 * v) ≡ false → bit c (2 * v + 1) ≡ false → ((u : ℕ) → u ≢ v → bit k u ≡ bit j u) → Fits n c j → Fits n c k
fits-other n c j k v no_true no_false same h u lt = at (cases_same u v)
  where
    at : (u ≡ v) ⊎ (u ≢ v) → (bit c (2 * u) ≡ true → bit k u ≡ true) × (bit c (2 * u + 1) ≡ true → bit k u ≡ false)
    at (inl is) = (
      (λ e. absurd (true≢false (sym e ∙ ap (λ w. bit c (2 * w)) is ∙ no_true))),
      (λ e. absurd (true≢false (sym e ∙ ap (λ w. bit c (2 * w + 1)) is ∙ no_false))),
    )
    at (inr other) = ((λ e. same u other ∙ (h u lt).0 e), (λ e. same u other ∙ (h u lt).1 e))

covers-back : (n m : ℕ) (order : List ℕ) (p : ℕ → Bool) (x k : ℕ) (d : Bool) → (In x order → ⊥) → Own order p → Covers n m p (set_bit k x d) → Covers n m p k
covers-back n m order p x k d out own h =
    let lacks = own-lacks order p x out own h.0 h.2 in
    (h.0, h.1, h.2, fits-other n h.0 (set_bit k x d) k x lacks.0 lacks.1 (λ u other. sym (bit-set_other k x u d other)) h.3)

but-own : (order : List ℕ) (p : ℕ → Bool) (c : ℕ) → Own order p → Own order (but p c)
but-own order p c own a e member = own a e (and_parts (p a) (not (a == c)) member).0

flips : (b d : Bool) → b ≡ d → b ≡ not d → ⊥
flips b true is other = true≢false (sym is ∙ other)
flips b false is other = true≢false (sym other ∙ is)

-- a member of a half's answer with its literal is needed
half-each : (n m x : ℕ) (rest : List ℕ) (b : Interval) (d : Bool) (p : ℕ → Bool) → x < n → (In x rest → ⊥) → Good n m rest (half_call b x d) p → Lean n m (half_call b x d) p
    → (c : ℕ) → change p (element x d) c ≡ true
    → (k : ℕ) × (k < 2 ^ n) × (bit k x ≡ d) × (b.lower k ≡ true) × (cofactor b.upper x (not d) k ≡ false) × (Covers n m (but (change p (element x d)) c) k → ⊥)
half-each n m x rest b d p within out good lean c member = (
  set_bit w.0 x d,
  set_bit-below n w.0 x d w.1 within,
  bit-set_same w.0 x d,
  asked.0,
  ap b.upper (set_bit-set_same w.0 x d (not d)) ∙ not-true (cofactor b.upper x (not d) w.0) asked.1,
  no_other,
)
  where
    lacks : (u : ℕ) → p u ≡ true → bit u (element x d) ≡ false
    lacks = lacks_element p x d (own-lacks rest p x out good.own)

    has : (bit c (element x d) ≡ true) × (p (set_bit c (element x d) false) ≡ true)
    has = changed-has m (element x d) p lacks c member

    w : (k : ℕ) × (k < 2 ^ n) × ((half_call b x d).lower k ≡ true) × (Covers n m (but p (set_bit c (element x d) false)) k → ⊥)
    w = lean.needs_each (set_bit c (element x d) false) has.1

    asked : (cofactor b.lower x d w.0 ≡ true) × (not (cofactor b.upper x (not d) w.0) ≡ true)
    asked = and_parts (cofactor b.lower x d w.0) (not (cofactor b.upper x (not d) w.0)) w.2

    with_back : (u : ℕ) → bit u (element x d) ≡ true → set_bit (set_bit u (element x d) false) (element x d) true ≡ u
    with_back u is = set_bit-set_same u (element x d) false true ∙ ap (set_bit u (element x d)) (sym is) ∙ set_bit-own u (element x d)

    no_other : Covers n m (but (change p (element x d)) c) (set_bit w.0 x d) → ⊥
    no_other h =
        let parts = and_parts (change p (element x d) h.0) (not (h.0 == c)) h.2 in
        let its = changed-has m (element x d) p lacks h.0 parts.0 in
        w.3 (covers-back n m rest (but p (set_bit c (element x d) false)) x w.0 d out (but-own rest p (set_bit c (element x d) false) good.own) (
          set_bit h.0 (element x d) false,
          below_of h.0 h.1 its.1,
          both (p (set_bit h.0 (element x d) false)) (not (set_bit h.0 (element x d) false == set_bit c (element x d) false)) its.1 (apart h.0 its.0 parts.1),
          fits_less n h.0 (set_bit w.0 x d) (element x d) h.3,
        ))
      where
        below_of : (u : ℕ) → u < 2 ^ m → p (set_bit u (element x d) false) ≡ true → set_bit u (element x d) false < 2 ^ m
        below_of u lt is = good.below (set_bit u (element x d) false) is

        apart : (u : ℕ) → bit u (element x d) ≡ true → not (u == c) ≡ true → not (set_bit u (element x d) false == set_bit c (element x d) false) ≡ true
        apart u is other = at (set_bit u (element x d) false == set_bit c (element x d) false) refl
          where
            at : (t : Bool) → (set_bit u (element x d) false == set_bit c (element x d) false) ≡ t → not (set_bit u (element x d) false == set_bit c (element x d) false) ≡ true
            at false e = ap not e
            at true e = absurd (true≢false (sym (eq-eqb u c (sym (with_back u is) ∙ ap (λ s. set_bit s (element x d) true) (eqb-true (set_bit u (element x d) false) (set_bit c (element x d) false) e) ∙ with_back c has.0)) ∙ not-true (u == c) other))

-- each of its literals is needed
half-literals : (n m x : ℕ) (rest : List ℕ) (b : Interval) (d : Bool) (p : ℕ → Bool) → x < n → (In x rest → ⊥) → Good n m rest (half_call b x d) p → Lean n m (half_call b x d) p
    → (c e : ℕ) → change p (element x d) c ≡ true → bit c e ≡ true → (k : ℕ) × (k < 2 ^ n) × Fits n (set_bit c e false) k × (b.upper k ≡ false)
half-literals n m x rest b d p within out good lean c e member holds = at (cases_same e (element x d))
  where
    lacks : (u : ℕ) → p u ≡ true → bit u (element x d) ≡ false
    lacks = lacks_element p x d (own-lacks rest p x out good.own)

    has : (bit c (element x d) ≡ true) × (p (set_bit c (element x d) false) ≡ true)
    has = changed-has m (element x d) p lacks c member

    free : (bit (set_bit c (element x d) false) (2 * x) ≡ false) × (bit (set_bit c (element x d) false) (2 * x + 1) ≡ false)
    free = own-lacks rest p x out good.own (set_bit c (element x d) false) has.1

    own_literal : (k : ℕ) × (k < 2 ^ n) × Fits n (set_bit c (element x d) false) k × (b.upper k ≡ false)
    own_literal =
        let w = lean.needs_each (set_bit c (element x d) false) has.1 in
        let asked = and_parts (cofactor b.lower x d w.0) (not (cofactor b.upper x (not d) w.0)) w.2 in (
          set_bit w.0 x (not d),
          set_bit-below n w.0 x (not d) w.1 within,
          fits-other n (set_bit c (element x d) false) w.0 (set_bit w.0 x (not d)) x free.0 free.1 (λ u other. bit-set_other w.0 x u (not d) other) (found w.0 w.1 w.2 w.3),
          not-true (cofactor b.upper x (not d) w.0) asked.1,
        )
      where
        found : (k : ℕ) → k < 2 ^ n → (half_call b x d).lower k ≡ true → (Covers n m (but p (set_bit c (element x d) false)) k → ⊥) → Fits n (set_bit c (element x d) false) k
        found k below asks none = is (h.0 == set_bit c (element x d) false) refl
          where
            h : Covers n m p k
            h = good.reaches k below asks

            is : (t : Bool) → (h.0 == set_bit c (element x d) false) ≡ t → Fits n (set_bit c (element x d) false) k
            is true e = subst (λ u. Fits n u k) (eqb-true h.0 (set_bit c (element x d) false) e) h.3
            is false e = absurd (none (h.0, h.1, both (p h.0) (not (h.0 == set_bit c (element x d) false)) h.2 (ap not e), h.3))

    at : (e ≡ element x d) ⊎ (e ≢ element x d) → (k : ℕ) × (k < 2 ^ n) × Fits n (set_bit c e false) k × (b.upper k ≡ false)
    at (inl same) = subst (λ u. (k : ℕ) × (k < 2 ^ n) × Fits n (set_bit c u false) k × (b.upper k ≡ false)) (sym same) own_literal
    at (inr other) =
        let w = lean.needs_literals (set_bit c (element x d) false) e has.1 (bit-set_other c (element x d) e false other ∙ holds) in
        let without = set_bit (set_bit c (element x d) false) e false in (
          set_bit w.0 x d,
          set_bit-below n w.0 x d w.1 within,
          subst (λ u. Fits n u (set_bit w.0 x d)) (rejoined e other)
              (fits_with n without (set_bit w.0 x d) x (element x d) (fits-other n without w.0 (set_bit w.0 x d) x (none_at (2 * x) free.0) (none_at (2 * x + 1) free.1) (λ u apart. bit-set_other w.0 x u d apart) w.2)
              (literal_fits (set_bit w.0 x d) x d (bit-set_same w.0 x d))),
          w.3,
        )
      where
        rejoined : (e : ℕ) → e ≢ element x d → set_bit (set_bit (set_bit c (element x d) false) e false) (element x d) true ≡ set_bit c e false
        rejoined e other =
            set_bit_comm (set_bit c (element x d) false) e (element x d) false true other
            ∙ ap (λ u. set_bit u e false) (set_bit-set_same c (element x d) false true ∙ ap (set_bit c (element x d)) (sym has.0) ∙ set_bit-own c (element x d))

        none_at : (u : ℕ) → bit (set_bit c (element x d) false) u ≡ false → bit (set_bit (set_bit c (element x d) false) e false) u ≡ false
        none_at u is = ⊎_elim (λ same. ap (bit (set_bit (set_bit c (element x d) false) e false)) same ∙ bit-set_same (set_bit c (element x d) false) e false) (λ apart. bit-set_other (set_bit c (element x d) false) e u false apart ∙ is) (cases_same u e)

-- one step: `pick` gives each half's answer

abbrev halves : ℕ → (Bool → ℕ → Bool) → ℕ → Bool
halves x pick = union (change (pick false) (2 * x + 1)) (change (pick true) (2 * x))

Member : ℕ → (ℕ → Bool) → (Bool → ℕ → Bool) → ℕ → Type 0
Member x p pick c = (p c ≡ true) ⊎ ((d : Bool) × (change (pick d) (element x d) c ≡ true))

member_of : (x : ℕ) (p : ℕ → Bool) (pick : Bool → ℕ → Bool) (c : ℕ) → union p (halves x pick) c ≡ true → Member x p pick c
unfolding Member
member_of x p pick c h = ⊎_elim (λ a. inl a)
    (λ r. ⊎_elim (λ a. inr (false, a)) (λ a. inr (true, a)) (or_cases (change (pick false) (2 * x + 1) c) (change (pick true) (2 * x) c) r))
    (or_cases (p c) (halves x pick c) h)

middle_at : (f : ℕ → Bool) (x k : ℕ) (d : Bool) → conjunction (cofactor f x false) (cofactor f x true) k ≡ true → cofactor f x (not d) k ≡ true
middle_at f x k false h = (and_parts (cofactor f x false k) (cofactor f x true k) h).1
middle_at f x k true h = (and_parts (cofactor f x false k) (cofactor f x true k) h).0

middle_false : (f : ℕ → Bool) (x k : ℕ) → conjunction (cofactor f x false) (cofactor f x true) k ≡ false → (d : Bool) × (cofactor f x d k ≡ false)
middle_false f x k h = at (cofactor f x false k) refl
  where
    at : (u : Bool) → cofactor f x false k ≡ u → (d : Bool) × (cofactor f x d k ≡ false)
    at false e = (false, e)
    at true e = (true, sym (ap (λ u. u && cofactor f x true k) e) ∙ h)

element-other : (x v : ℕ) (d : Bool) → v ≢ x → (2 * v ≢ element x d) × (2 * v + 1 ≢ element x d)
element-other x v true other = ((λ e. other (omega (arith, e))), (λ e. omega (arith, e)))
element-other x v false other = ((λ e. omega (arith, e)), (λ e. other (omega (arith, e))))

abbrev GoodHalves : ℕ → ℕ → ℕ → List ℕ → Interval → (Bool → ℕ → Bool) → Type 0
GoodHalves n m x rest b pick = (d : Bool) → Good n m rest (half_call b x d) (pick d) × Lean n m (half_call b x d) (pick d)

lean-step : (n m x : ℕ) (rest : List ℕ) (b : Interval) (pick : Bool → ℕ → Bool) (p : ℕ → Bool) → 2 * n ≤ m → x < n → (In x rest → ⊥) → GoodHalves n m x rest b pick
    → Good n m rest (both_call b x (cover_value n m (pick false)) (cover_value n m (pick true))) p
    → Lean n m (both_call b x (cover_value n m (pick false)) (cover_value n m (pick true))) p
    → Lean n m b (union p (halves x pick))
unfolding Member
lean-step n m x rest b pick p few within out halves_good all lean = record {
  consistent = λ c v member a z. ⊎_elim (λ i. lean.consistent c v i a z) (λ i. half_consistent c v i.0 i.1 a z) (member_of x p pick c member);
  needs_each = λ c member. ⊎_elim (each c) (λ i. half_needed c i.0 i.1) (member_of x p pick c member);
  needs_literals = λ c e member has. ⊎_elim (λ i. literals c e i has)
      (λ i. half-literals n m x rest b i.0 (pick i.0) within out (halves_good i.0).0 (halves_good i.0).1 c e i.1 has) (member_of x p pick c member);
}
  where
    lacks : (d : Bool) (u : ℕ) → pick d u ≡ true → bit u (element x d) ≡ false
    lacks d = lacks_element (pick d) x d (own-lacks rest (pick d) x out (halves_good d).0.own)

    literal_of : (d : Bool) (c k : ℕ) → change (pick d) (element x d) c ≡ true → Fits n c k → bit k x ≡ d
    literal_of d c k member h = literal_at n c k x d within h (changed-has m (element x d) (pick d) (lacks d) c member).0

    half_consistent : (c v : ℕ) (d : Bool) → change (pick d) (element x d) c ≡ true → bit c (2 * v) ≡ true → bit c (2 * v + 1) ≡ true → ⊥
    half_consistent c v d member a z = at (cases_same v x)
      where
        has : (bit c (element x d) ≡ true) × (pick d (set_bit c (element x d) false) ≡ true)
        has = changed-has m (element x d) (pick d) (lacks d) c member

        none : (bit (set_bit c (element x d) false) (2 * x) ≡ false) × (bit (set_bit c (element x d) false) (2 * x + 1) ≡ false)
        none = own-lacks rest (pick d) x out (halves_good d).0.own (set_bit c (element x d) false) has.1

        own_at : (d : Bool) → bit (set_bit c (element x d) false) (2 * x) ≡ false → bit (set_bit c (element x d) false) (2 * x + 1) ≡ false → bit c (2 * x) ≡ true → bit c (2 * x + 1) ≡ true → ⊥
        own_at true no_true no_false a z = true≢false (sym z ∙ sym (bit-set_other c (2 * x) (2 * x + 1) false (λ e. omega (arith, e))) ∙ no_false)
        own_at false no_true no_false a z = true≢false (sym a ∙ sym (bit-set_other c (2 * x + 1) (2 * x) false (λ e. omega (arith, e))) ∙ no_true)

        at : (v ≡ x) ⊎ (v ≢ x) → ⊥
        at (inl same) = own_at d none.0 none.1 (ap (λ u. bit c (2 * u)) (sym same) ∙ a) (ap (λ u. bit c (2 * u + 1)) (sym same) ∙ z)
        at (inr other) = let apart = element-other x v d other in
            (halves_good d).1.consistent (set_bit c (element x d) false) v has.1 (bit-set_other c (element x d) (2 * v) false apart.0 ∙ a) (bit-set_other c (element x d) (2 * v + 1) false apart.1 ∙ z)

    half_needed : (c : ℕ) (d : Bool) → change (pick d) (element x d) c ≡ true → (k : ℕ) × (k < 2 ^ n) × (b.lower k ≡ true) × (Covers n m (but (union p (halves x pick)) c) k → ⊥)
    half_needed c d member = (w.0, w.1, w.3, none)
      where
        w : (k : ℕ) × (k < 2 ^ n) × (bit k x ≡ d) × (b.lower k ≡ true) × (cofactor b.upper x (not d) k ≡ false) × (Covers n m (but (change (pick d) (element x d)) c) k → ⊥)
        w = half-each n m x rest b d (pick d) within out (halves_good d).0 (halves_good d).1 c member

        none : Covers n m (but (union p (halves x pick)) c) w.0 → ⊥
        none h = ⊎_elim (λ a. true≢false (sym (middle_at b.upper x w.0 d (all.stays w.0 w.1 (h.0, h.1, a, h.3))) ∙ w.4)) (λ i. at i.0 i.1 (same_bit i.0 d)) (member_of x p pick h.0 parts.0)
          where
            parts : (union p (halves x pick) h.0 ≡ true) × (not (h.0 == c) ≡ true)
            parts = and_parts (union p (halves x pick) h.0) (not (h.0 == c)) h.2

            same_bit : (a d : Bool) → (a ≡ d) ⊎ (a ≡ not d)
            same_bit true true = inl refl
            same_bit true false = inr refl
            same_bit false true = inr refl
            same_bit false false = inl refl

            at : (a : Bool) → change (pick a) (element x a) h.0 ≡ true → (a ≡ d) ⊎ (a ≡ not d) → ⊥
            at a i (inl same) = w.5 (h.0, h.1, both (change (pick d) (element x d) h.0) (not (h.0 == c)) (subst (λ u. change (pick u) (element x u) h.0 ≡ true) same i) parts.1, h.3)
            at a i (inr other) = flips (bit w.0 x) d w.2 (literal_of a h.0 w.0 i h.3 ∙ other)

    each : (c : ℕ) → p c ≡ true → (k : ℕ) × (k < 2 ^ n) × (b.lower k ≡ true) × (Covers n m (but (union p (halves x pick)) c) k → ⊥)
    each c member = ⊎_elim (at false) (at true) (or_cases (left_low b x (cover_value n m (pick false)) w.0) (left_high b x (cover_value n m (pick true)) w.0) w.2)
      where
        w : (k : ℕ) × (k < 2 ^ n) × ((both_call b x (cover_value n m (pick false)) (cover_value n m (pick true))).lower k ≡ true) × (Covers n m (but p c) k → ⊥)
        w = lean.needs_each c member

        at : (d : Bool) → less (cofactor b.lower x d) (cover_value n m (pick d)) w.0 ≡ true → (k : ℕ) × (k < 2 ^ n) × (b.lower k ≡ true) × (Covers n m (but (union p (halves x pick)) c) k → ⊥)
        at d asks = (set_bit w.0 x d, set_bit-below n w.0 x d w.1 within, asked.0, none)
          where
            asked : (cofactor b.lower x d w.0 ≡ true) × (not (cover_value n m (pick d) w.0) ≡ true)
            asked = and_parts (cofactor b.lower x d w.0) (not (cover_value n m (pick d) w.0)) asks

            same_bit : (a d : Bool) → (a ≡ d) ⊎ (a ≡ not d)
            same_bit true true = inl refl
            same_bit true false = inr refl
            same_bit false true = inr refl
            same_bit false false = inl refl

            none : Covers n m (but (union p (halves x pick)) c) (set_bit w.0 x d) → ⊥
            none h = ⊎_elim (λ a. w.3 (covers-back n m rest (but p c) x w.0 d out (but-own rest p c all.own) (h.0, h.1, both (p h.0) (not (h.0 == c)) a parts.1, h.3)))
                (λ i. half i.0 i.1 (same_bit i.0 d)) (member_of x p pick h.0 parts.0)
              where
                parts : (union p (halves x pick) h.0 ≡ true) × (not (h.0 == c) ≡ true)
                parts = and_parts (union p (halves x pick) h.0) (not (h.0 == c)) h.2

                half : (a : Bool) → change (pick a) (element x a) h.0 ≡ true → (a ≡ d) ⊎ (a ≡ not d) → ⊥
                half a i (inl same) = true≢false (sym (covers-value n m (pick d) w.0 (covers-back n m rest (pick d) x w.0 d out (halves_good d).0.own
                    (changed-covers n m (set_bit w.0 x d) (element x d) (pick d) (within_element n m x d few within) (lacks d) (h.0, h.1, subst (λ u. change (pick u) (element x u) h.0 ≡ true) same i, h.3))))
                    ∙ not-true (cover_value n m (pick d) w.0) asked.1)
                half a i (inr other) = flips (bit (set_bit w.0 x d) x) d (bit-set_same w.0 x d) (literal_of a h.0 (set_bit w.0 x d) i h.3 ∙ other)

    literals : (c e : ℕ) → p c ≡ true → bit c e ≡ true → (k : ℕ) × (k < 2 ^ n) × Fits n (set_bit c e false) k × (b.upper k ≡ false)
    literals c e member has =
        let w = lean.needs_literals c e member has in
        let d = middle_false b.upper x w.0 w.3 in
        let none = own-lacks rest p x out all.own c member in (
          set_bit w.0 x d.0,
          set_bit-below n w.0 x d.0 w.1 within,
          fits-other n (set_bit c e false) w.0 (set_bit w.0 x d.0) x (still (2 * x) none.0) (still (2 * x + 1) none.1) (λ u other. bit-set_other w.0 x u d.0 other) w.2,
          d.1,
        )
      where
        still : (u : ℕ) → bit c u ≡ false → bit (set_bit c e false) u ≡ false
        still u is = ⊎_elim (λ same. ap (bit (set_bit c e false)) same ∙ bit-set_same c e false) (λ apart. bit-set_other c e u false apart ∙ is) (cases_same u e)

-- the two ends

lean-empty : (n m : ℕ) (b : Interval) → Lean n m b empty
lean-empty n m b = record {
  consistent = λ c v member a z. true≢false (sym member);
  needs_each = λ c member. absurd (true≢false (sym member));
  needs_literals = λ c e member has. absurd (true≢false (sym member));
}

true_from_not : (u : Bool) → not u ≡ false → u ≡ true
true_from_not true h = refl
true_from_not false h = absurd (true≢false h)

lean-base : (n m : ℕ) (b : Interval) → holds_nowhere n b.lower ≡ false → Lean n m b base
lean-base n m b some = record {
  consistent = λ c v member a z. true≢false (sym a ∙ ap (λ u. bit u (2 * v)) (base_zero c member) ∙ bit-zero (2 * v));
  needs_each = λ c member. (at.0, at.1.0, true_from_not (b.lower at.0) at.1.1, none c member);
  needs_literals = λ c e member has. absurd (true≢false (sym has ∙ ap (λ u. bit u e) (base_zero c member) ∙ bit-zero e));
}
  where
    at : (k : ℕ) × ((k < 2 ^ n) × (not (b.lower k) ≡ false))
    at = false-all_below (2 ^ n) (λ j. not (b.lower j)) some

    none : (c : ℕ) → base c ≡ true → Covers n m (but base c) (false-all_below (2 ^ n) (λ j. not (b.lower j)) some).0 → ⊥
    none c member h =
        let parts = and_parts (base h.0) (not (h.0 == c)) h.2 in
        true≢false (sym (eq-eqb h.0 c (base_zero h.0 parts.0 ∙ sym (base_zero c member))) ∙ not-true (h.0 == c) parts.1)

either_lean : (P : (ℕ → Bool) → Type 0) (b : Bool) (f g : ℕ → Bool) → (b ≡ true → P f) → (b ≡ false → P g) → P (cond b f g)
either_lean P true f g holds fails = holds refl
either_lean P false f g holds fails = fails refl

lean_answer : (n m : ℕ) → 2 * n ≤ m → (order : List ℕ) → IsVars n order → (b : Interval) → Free n order b.lower → Free n order b.upper → IsLe n b → Lean n m b (morreale n m order b)
unfolding morreale
lean_answer n m few [] vars b lower upper le = either_lean (Lean n m b) (holds_nowhere n b.lower) empty base (λ _. lean-empty n m b) (lean-base n m b)
lean_answer n m few (x ∷ rest) vars b lower upper le =
    let p0 = morreale n m rest (low_call b x) in
    let p1 = morreale n m rest (high_call b x) in
    let pick : Bool → ℕ → Bool = λ d. cond d p1 p0 in
    let p = morreale n m rest (both_call b x (cover_value n m p0) (cover_value n m p1)) in
    let none = not (depends_at n b.lower x || depends_at n b.upper x) in
    let made = union p (halves x pick) in
    let free0 = half-free n x rest b false vars.0 lower upper in
    let free1 = half-free n x rest b true vars.0 lower upper in
    let le0 = half-le n x b false vars.0 le in
    let le1 = half-le n x b true vars.0 le in
    let g0 = good n m few rest vars.2 (low_call b x) free0.0 free0.1 le0 in
    let g1 = good n m few rest vars.2 (high_call b x) free1.0 free1.1 le1 in
    let l0 = lean_answer n m few rest vars.2 (low_call b x) free0.0 free0.1 le0 in
    let l1 = lean_answer n m few rest vars.2 (high_call b x) free1.0 free1.1 le1 in
    let free2 = both-free n m x rest b p0 p1 vars.0 lower upper g0.own g1.own in
    let le2 = both-le n m x rest b p0 p1 vars.0 le g0 g1 in
    let g = good n m few rest vars.2 (both_call b x (cover_value n m p0) (cover_value n m p1)) free2.0 free2.1 le2 in
    let l = lean_answer n m few rest vars.2 (both_call b x (cover_value n m p0) (cover_value n m p1)) free2.0 free2.1 le2 in
    either_lean (Lean n m b) (holds_nowhere n b.lower) empty (cond (holds_everywhere n b.upper) base (cond none (morreale n m rest b) made)) (λ _. lean-empty n m b) (λ some.
    either_lean (Lean n m b) (holds_everywhere n b.upper) base (cond none (morreale n m rest b) made) (λ _. lean-base n m b some) (λ _.
    either_lean (Lean n m b) none (morreale n m rest b) made
    (λ holds. let parts = neither (depends_at n b.lower x) (depends_at n b.upper x) (not-true (depends_at n b.lower x || depends_at n b.upper x) holds) in
    lean_answer n m few rest vars.2 b (free_rest n x rest b.lower lower parts.0) (free_rest n x rest b.upper upper parts.1) le)
    (λ _. lean-step n m x rest b pick p few vars.0 vars.1 (λ d. halves_are d g0 l0 g1 l1) g l)))
  where
    halves_are : (d : Bool) → Good n m rest (low_call b x) (morreale n m rest (low_call b x)) → Lean n m (low_call b x) (morreale n m rest (low_call b x))
        → Good n m rest (high_call b x) (morreale n m rest (high_call b x)) → Lean n m (high_call b x) (morreale n m rest (high_call b x))
        → Good n m rest (half_call b x d) (cond d (morreale n m rest (high_call b x)) (morreale n m rest (low_call b x))) × Lean n m (half_call b x d) (cond d (morreale n m rest (high_call b x)) (morreale n m rest (low_call b x)))
    halves_are true g0 l0 g1 l1 = (g1, l1)
    halves_are false g0 l0 g1 l1 = (g0, l0)

vars_below : (n : ℕ) (order : List ℕ) → IsVars n order → (v : ℕ) → In v order → v < n
vars_below n [] vars v i = absurd i
vars_below n (x ∷ rest) vars v i = ⊎_elim (λ same. subst (λ u. u < n) (sym same) vars.0) (λ j. vars_below n rest vars.2 v j) i

-- Morreale's answer, by any order of different variables below n, is an irredundant cover of its bounds.
pub answers_are_irredundant : (n m : ℕ) → 2 * n ≤ m → (order : List ℕ) → IsVars n order → (b : Interval) → Free n order b.lower → Free n order b.upper → IsLe n b
    → IsIrredundant n m b.lower b.upper (morreale n m order b)
answers_are_irredundant n m few order vars b lower upper le = record {
  below = g.below;
  literals = λ c e member from. at c e member from (bit c e) refl;
  reaches = λ k below holds. covers-value n m (morreale n m order b) k (g.reaches k below holds);
  stays = λ k below holds. g.stays k below (value-covers n m (morreale n m order b) k holds);
  consistent = l.consistent;
  needs_each = λ c member. let w = l.needs_each c member in (w.0, w.1, w.2, not_covered c w.0 w.3 (cover_value n m (but (morreale n m order b) c) w.0) refl);
  needs_literals = λ c e member has. let w = l.needs_literals c e member has in (w.0, w.1, Fits-fits n (set_bit c e false) w.0 w.2, w.3);
}
  where
    g : Good n m order b (morreale n m order b)
    g = good n m few order vars b lower upper le

    l : Lean n m b (morreale n m order b)
    l = lean_answer n m few order vars b lower upper le

    not_covered : (c k : ℕ) → (Covers n m (but (morreale n m order b) c) k → ⊥) → (t : Bool) → cover_value n m (but (morreale n m order b) c) k ≡ t → cover_value n m (but (morreale n m order b) c) k ≡ false
    not_covered c k none true e = absurd (none (value-covers n m (but (morreale n m order b) c) k e))
    not_covered c k none false e = e

    at : (c e : ℕ) → morreale n m order b c ≡ true → 2 * n ≤ e → (t : Bool) → bit c e ≡ t → bit c e ≡ false
    at c e member from false is = is
    at c e member from true is = absurd (let o = g.own c e member is in let lt = vars_below n order vars o.0 o.1 in ⊎_elim (λ a. omega (arith, from, lt, a)) (λ a. omega (arith, from, lt, a)) o.2)
