-- One of Morreale's calls at its topmost variable: the three calls that it makes, its answer from theirs, and its work.
use Rattle.std.proofs.Common.{◌≡◌, ◌≢◌, ℕ, suc, ◌+◌, ◌*◌, ◌<◌, ◌≤◌, Bool, true, false, not, ◌&&◌, ◌||◌, ◌⊎◌, inl, inr, List, [], ◌∷◌, ◌++◌, length, refl, sym, ap, ap₂, ◌∙◌, subst, arith}
use Rattle.function_laws.specs.Families.{change, union}
use Rattle.function_laws.specs.IrredundantCovers.{cover_value}
use Rattle.function_laws.specs.Kinds.{Denoted, BddFunction, ZddFamily}
use Rattle.function_laws.specs.MorrealeCalls.{Interval, IsCall, IsCallFamily, IsCallFunction, IsWorkOfIsop, both, both_call, changed, cover, depends_at, family, function, high, high_call, high_left, itself, left_high, left_low, low, low_call, low_left, lower, morreale, plain, simple, splits, upper}
use Rattle.function_laws.specs.Values.{IsFree, cofactor}
use Rattle.function_laws.proofs.CoverLaws.{IsVars, LacksOf, cases_same, own-lacks}
use Rattle.function_laws.proofs.DistinctLemmas.{In, In-append, In-left, In-right}
use Rattle.function_laws.proofs.ValueLemmas.{IsFree-cofactor, IsFree-cofactor_other, IsFree-place}
use Rattle.cover_isop.specs.Isops.{IsCallOf, left_of}
use Rattle.cover_isop.proofs.LevelOrders.{Once, Rises, once-apart, once-right, parts_at, rises-right, vars_of}
use Rattle.cover_isop.proofs.MorrealeLaws.{LacksBoth, calls_of_calls, cover-lacks, inner-work, left-all, left-here, left-most, own-answer, pass-all, skip-all, skip-works, split-answer}

-- a call at its topmost variable
pub record Stepped (n m : ℕ) (order : List ℕ) (level : ℕ → ℕ) (root b : Interval) (x : ℕ) : Type 0 where
  pub above : List ℕ
  pub below : List ℕ
  pub is : order ≡ above ++ (x ∷ below)
  pub lacks : (v : ℕ) → In v above → LacksBoth b v
  pub call : IsCall n m order root (x ∷ below) b
  pub depends : (depends_at n b.lower x || depends_at n b.upper x) ≡ true
  pub parted : splits n b x ≡ true
  pub under : (u : ℕ) → In u below → (level x ≤ level u) × (u ≢ x)

append-through : (xs ys zs : List ℕ) → xs ++ (ys ++ zs) ≡ (xs ++ ys) ++ zs
append-through [] ys zs = refl
append-through (x ∷ xs) ys zs = ap (λ r. x ∷ r) (append-through xs ys zs)

pub step : (n m : ℕ) (order : List ℕ) (level : ℕ → ℕ) (root b : Interval) (x : ℕ) → Once order → Rises level order → IsCallOf n m order root b → In x order
    → (IsFree b.lower x → IsFree b.upper x → ⊥) → (depends_at n b.lower x || depends_at n b.upper x) ≡ true → splits n b x ≡ true
    → ((u : ℕ) → In u order → level u ≤ level x → u ≢ x → LacksBoth b u) → Stepped n m order level root b x
step n m order level root b x once rises c i depends test parted clear =
    let in_rest : In x c.rest = elim (In-append x c.before c.rest (subst (λ (o : List ℕ). In x o) c.parts i)) [
      | inl j ↦ absurd (let l = c.lacks x j in depends l.0 l.1)
      | inr j ↦ j
    ]
    in
    let p = parts_at level x c.rest (once-right c.before c.rest (subst Once c.parts once)) (rises-right level c.before c.rest (subst (Rises level) c.parts rises)) in_rest in
    let there : (v : ℕ) → In v p.above → LacksBoth b v = λ v k. (let q = p.upper v k in
    clear v (subst (λ (o : List ℕ). In v o) (sym c.parts) (In-right v c.before c.rest (subst (λ (r : List ℕ). In v r) (sym p.is) (In-left v p.above (x ∷ p.below) k)))) q.0 q.1)
    in
    record {
      above = c.before ++ p.above;
      below = p.below;
      is = c.parts ∙ ap (λ r. c.before ++ r) p.is ∙ append-through c.before p.above (x ∷ p.below);
      lacks = λ v j. elim (In-append v c.before p.above j) [ inl k ↦ c.lacks v k | inr k ↦ there v k ];
      call = calls_of_calls n m c.call (subst (λ (r : List ℕ). IsCall n m r b (x ∷ p.below) b) (sym p.is) (pass-all n m p.above (x ∷ p.below) b there));
      depends = test;
      parted = parted;
      under = p.lower;
    }

-- any of the calls
module _ (n m : ℕ) (order : List ℕ) (root b : Interval) (c : IsCallOf n m order root b) where
  call-answer : morreale n m order b ≡ morreale n m c.rest b
  call-answer = ap (λ (o : List ℕ). morreale n m o b) c.parts ∙ skip-all n m c.before c.rest b c.lacks

  pub function-of : IsCallFunction n m order root (cover_value n m (morreale n m order b))
  function-of = subst (λ p. IsCallFunction n m order root (cover_value n m p)) (sym call-answer) (cover c.call)

  pub family-of : IsCallFamily n m order root (morreale n m order b)
  family-of = subst (λ p. IsCallFamily n m order root p) (sym call-answer) (plain c.call)

  pub changed-of : (e : ℕ) → IsCallFamily n m order root (change (morreale n m order b) e)
  changed-of e = subst (λ p. IsCallFamily n m order root (change p e)) (sym call-answer) (changed e c.call)

  pub lower-work : IsWorkOfIsop n m order root (BddFunction b.lower)
  lower-work = simple (BddFunction b.lower) (function b.lower (lower c.call))

  pub upper-work : IsWorkOfIsop n m order root (BddFunction b.upper)
  upper-work = simple (BddFunction b.upper) (function b.upper (upper c.call))

  pub function-work : IsWorkOfIsop n m order root (BddFunction (cover_value n m (morreale n m order b)))
  function-work = simple (BddFunction (cover_value n m (morreale n m order b))) (function (cover_value n m (morreale n m order b)) function-of)

  pub family-work : IsWorkOfIsop n m order root (ZddFamily (morreale n m order b))
  family-work = simple (ZddFamily (morreale n m order b)) (family (morreale n m order b) family-of)

  pub changed-work : (e : ℕ) → IsWorkOfIsop n m order root (ZddFamily (change (morreale n m order b) e))
  changed-work e = simple (ZddFamily (change (morreale n m order b) e)) (family (change (morreale n m order b) e) (changed-of e))

  -- the work of its own is the root's
  pub whole-work : (F : Denoted) → IsWorkOfIsop n m order b F → IsWorkOfIsop n m order root F
  whole-work F is = inner-work n m order c.rest root b c.call F
      (skip-works n m c.before c.rest b c.lacks F (subst (λ (o : List ℕ). IsWorkOfIsop n m o b F) c.parts is))

pub root-call : (n m : ℕ) (order : List ℕ) (b : Interval) → IsCallOf n m order b b
root-call n m order b = record { before = []; rest = order; parts = refl; lacks = λ v i. absurd i; call = itself order b }

-- a cofactor depends on no more
cofactor-lacks : (f : ℕ → Bool) (x v : ℕ) (d : Bool) → (v ≢ x → IsFree f v) → IsFree (cofactor f x d) v
cofactor-lacks f x v d free = at (cases_same v x)
  where
    at : (v ≡ x) ⊎ (v ≢ x) → IsFree (cofactor f x d) v
    at (inl same) = subst (λ u. IsFree (cofactor f x d) u) (sym same) (IsFree-cofactor f x d)
    at (inr other) = IsFree-cofactor_other f v x d other (free other)

-- what a call makes at its topmost variable
module _ (n m : ℕ) (order : List ℕ) (level : ℕ → ℕ) (root b : Interval) (x : ℕ) (once : Once order) (within : (v : ℕ) → In v order → v < n) (s : Stepped n m order level root b x) where
  through : List ℕ
  through = s.above ++ (x ∷ [])

  through-is : order ≡ through ++ s.below
  unfolding through
  through-is = s.is ∙ append-through s.above (x ∷ []) s.below

  above-or : (v : ℕ) → In v through → v ≢ x → In v s.above
  unfolding through
  above-or v i other = elim (In-append v s.above (x ∷ []) i) [
    | inl j ↦ j
    | inr j ↦ absurd (elim j [ inl same ↦ other same | inr never ↦ never ])
  ]

  lower-lacks : (d : Bool) (v : ℕ) → In v through → IsFree (cofactor b.lower x d) v
  lower-lacks d v i = cofactor-lacks b.lower x v d (λ other. (s.lacks v (above-or v i other)).0)

  upper-lacks : (d : Bool) (v : ℕ) → In v through → IsFree (cofactor b.upper x d) v
  upper-lacks d v i = cofactor-lacks b.upper x v d (λ other. (s.lacks v (above-or v i other)).1)

  less-lacks : (f g : ℕ → Bool) (v : ℕ) → IsFree f v → IsFree g v → IsFree (λ k. f k && not (g k)) v
  less-lacks f g v p q = IsFree-place (λ y z. y && not z) f g v p q

  low-lacks : (v : ℕ) → In v through → LacksBoth (low_call b x) v
  low-lacks v i = (less-lacks (cofactor b.lower x false) (cofactor b.upper x true) v (lower-lacks false v i) (upper-lacks true v i), upper-lacks false v i)

  high-lacks : (v : ℕ) → In v through → LacksBoth (high_call b x) v
  high-lacks v i = (less-lacks (cofactor b.lower x true) (cofactor b.upper x false) v (lower-lacks true v i) (upper-lacks false v i), upper-lacks true v i)

  out : (v : ℕ) → In v through → In v s.below → ⊥
  out v = once-apart through s.below (subst Once through-is once) v

  below-vars : IsVars n s.below
  below-vars = vars_of n s.below (once-right through s.below (subst Once through-is once))
      (λ v i. within v (subst (λ (o : List ℕ). In v o) (sym through-is) (In-right v through s.below i)))

  -- the function of what is below depends on nothing above
  function-lacks : (c : Interval) (v : ℕ) → (In v s.below → ⊥) → IsFree (cover_value n m (morreale n m s.below c)) v
  function-lacks c v apart = cover-lacks n m s.below (morreale n m s.below c) v apart (own-answer n m s.below c below-vars)

  skipped : (c : Interval) → ((v : ℕ) → In v through → LacksBoth c v) → morreale n m order c ≡ morreale n m s.below c
  skipped c lacks = ap (λ (o : List ℕ). morreale n m o c) through-is ∙ skip-all n m through s.below c lacks

  low-is : morreale n m order (low_call b x) ≡ morreale n m s.below (low_call b x)
  low-is = skipped (low_call b x) low-lacks

  high-is : morreale n m order (high_call b x) ≡ morreale n m s.below (high_call b x)
  high-is = skipped (high_call b x) high-lacks

  abbrev third : Interval
  third = both_call b x (cover_value n m (morreale n m order (low_call b x))) (cover_value n m (morreale n m order (high_call b x)))

  third-is : third ≡ both_call b x (cover_value n m (morreale n m s.below (low_call b x))) (cover_value n m (morreale n m s.below (high_call b x)))
  third-is = ap₂ (λ p q. both_call b x (cover_value n m p) (cover_value n m q)) low-is high-is

  pub low-function-lacks : (v : ℕ) → (In v s.below → ⊥) → IsFree (cover_value n m (morreale n m order (low_call b x))) v
  low-function-lacks v apart = subst (λ p. IsFree (cover_value n m p) v) (sym low-is) (function-lacks (low_call b x) v apart)

  pub high-function-lacks : (v : ℕ) → (In v s.below → ⊥) → IsFree (cover_value n m (morreale n m order (high_call b x))) v
  high-function-lacks v apart = subst (λ p. IsFree (cover_value n m p) v) (sym high-is) (function-lacks (high_call b x) v apart)

  third-lacks : (v : ℕ) → In v through → LacksBoth third v
  third-lacks v i = (
    IsFree-place (λ y z. y || z) (left_low b x (cover_value n m (morreale n m order (low_call b x)))) (left_high b x (cover_value n m (morreale n m order (high_call b x)))) v
        (less-lacks (cofactor b.lower x false) (cover_value n m (morreale n m order (low_call b x))) v (lower-lacks false v i) (low-function-lacks v (out v i)))
        (less-lacks (cofactor b.lower x true) (cover_value n m (morreale n m order (high_call b x))) v (lower-lacks true v i) (high-function-lacks v (out v i))),
    IsFree-place (λ y z. y && z) (cofactor b.upper x false) (cofactor b.upper x true) v (upper-lacks false v i) (upper-lacks true v i),
  )

  pub third-function-lacks : (v : ℕ) → (In v s.below → ⊥) → IsFree (cover_value n m (morreale n m order third)) v
  third-function-lacks v apart = subst (λ p. IsFree (cover_value n m p) v) (sym (skipped third third-lacks)) (function-lacks third v apart)

  -- its calls are calls of the root's
  pub low-call : IsCallOf n m order root (low_call b x)
  low-call = record { before = through; rest = s.below; parts = through-is; lacks = low-lacks; call = calls_of_calls n m s.call (low s.parted (itself s.below (low_call b x))) }

  pub high-call : IsCallOf n m order root (high_call b x)
  high-call = record { before = through; rest = s.below; parts = through-is; lacks = high-lacks; call = calls_of_calls n m s.call (high s.parted (itself s.below (high_call b x))) }

  pub third-call : IsCallOf n m order root third
  third-call = record {
    before = through;
    rest = s.below;
    parts = through-is;
    lacks = third-lacks;
    call = calls_of_calls n m s.call (both s.parted (subst (λ (c : Interval). IsCall n m s.below c s.below third) third-is (itself s.below third)));
  }

  -- fewer variables are left
  fewer : (c : Interval) → ((v : ℕ) → In v through → LacksBoth c v) → left_of n order c < left_of n order b
  fewer c lacks =
      let own : left_of n order b ≡ suc (length s.below) = ap (λ (o : List ℕ). left_of n o b) s.is ∙ left-all n s.above (x ∷ s.below) b s.lacks ∙ left-here n x s.below b s.depends in
      let its : left_of n order c ≡ left_of n s.below c = ap (λ (o : List ℕ). left_of n o c) through-is ∙ left-all n through s.below c lacks in
      let most = left-most n s.below c in
      omega (arith, own, its, most)

  pub low-fewer : left_of n order (low_call b x) < left_of n order b
  low-fewer = fewer (low_call b x) low-lacks

  pub high-fewer : left_of n order (high_call b x) < left_of n order b
  high-fewer = fewer (high_call b x) high-lacks

  pub third-fewer : left_of n order third < left_of n order b
  third-fewer = fewer third third-lacks

  -- its answer
  pub answer-is : morreale n m order b ≡ union (morreale n m order third) (union (change (morreale n m order (low_call b x)) (2 * x + 1)) (change (morreale n m order (high_call b x)) (2 * x)))
  answer-is =
      ap (λ (o : List ℕ). morreale n m o b) s.is ∙ skip-all n m s.above (x ∷ s.below) b s.lacks ∙ split-answer n m x s.below b s.parted
      ∙ ap₂ (λ p q. union (morreale n m s.below (both_call b x (cover_value n m p) (cover_value n m q))) (union (change p (2 * x + 1)) (change q (2 * x)))) (sym low-is) (sym high-is)
      ∙ ap (λ p. union p (union (change (morreale n m order (low_call b x)) (2 * x + 1)) (change (morreale n m order (high_call b x)) (2 * x)))) (sym (skipped third third-lacks))

  -- what is left of each half
  pub low-left-work : IsWorkOfIsop n m order root (BddFunction (left_low b x (cover_value n m (morreale n m order (low_call b x)))))
  low-left-work = subst (λ p. IsWorkOfIsop n m order root (BddFunction (left_low b x (cover_value n m p)))) (sym low-is)
      (simple (BddFunction (left_low b x (cover_value n m (morreale n m s.below (low_call b x))))) (function (left_low b x (cover_value n m (morreale n m s.below (low_call b x)))) (low_left s.call s.parted)))

  pub high-left-work : IsWorkOfIsop n m order root (BddFunction (left_high b x (cover_value n m (morreale n m order (high_call b x)))))
  high-left-work = subst (λ p. IsWorkOfIsop n m order root (BddFunction (left_high b x (cover_value n m p)))) (sym high-is)
      (simple (BddFunction (left_high b x (cover_value n m (morreale n m s.below (high_call b x))))) (function (left_high b x (cover_value n m (morreale n m s.below (high_call b x)))) (high_left s.call s.parted)))

  -- the halves' answers have no literal of the variable
  pub low-literals : LacksOf (morreale n m order (low_call b x)) x
  low-literals = subst (λ p. LacksOf p x) (sym low-is) (own-lacks s.below (morreale n m s.below (low_call b x)) x (λ i. (s.under x i).1 refl) (own-answer n m s.below (low_call b x) below-vars))

  pub high-literals : LacksOf (morreale n m order (high_call b x)) x
  high-literals = subst (λ p. LacksOf p x) (sym high-is) (own-lacks s.below (morreale n m s.below (high_call b x)) x (λ i. (s.under x i).1 refl) (own-answer n m s.below (high_call b x) below-vars))
