-- Morreale's calls by the order: variables on which no bound depends are passed, and what is true of calls of calls.
use Rattle.std.proofs.Common.{◌≡◌, ◌≢◌, ℕ, suc, ◌+◌, ◌*◌, ◌^◌, ◌<◌, ◌≤◌, Bool, true, false, true≢false, cond, not, ◌&&◌, ◌||◌, ◌⊎◌, inl, inr, ⊎_elim, List, [], ◌∷◌, ◌++◌, length, refl, sym, ap, ap₂, ◌∙◌, subst, arith}
use Rattle.std.proofs.lemmas.Bool.{or_cases}
use Rattle.edge_bits.specs.Assignments.{bit, set_bit}
use Rattle.edge_bits.proofs.AssignmentLemmas.{bit-set_other}
use Rattle.function_laws.specs.Families.{base, change, empty, union}
use Rattle.function_laws.specs.IrredundantCovers.{cover_value}
use Rattle.function_laws.specs.Kinds.{Denoted, BddFunction, ZddFamily}
use Rattle.function_laws.specs.MorrealeCalls.{Interval, IsCall, IsCallFamily, IsCallFunction, IsSimpleWork, IsWorkOfIsop, both, both_call, changed, cover, depends_at, disjoined, family, function, high, high_call, high_left, holds_everywhere, holds_nowhere, itself, low, low_call, low_left, lower, morreale, passes, plain, product, simple, splits, united, upper}
use Rattle.function_laws.specs.Values.{IsFree, IsOf, cofactor, differs}
use Rattle.function_laws.proofs.CoverLaws.{Covers, IsVars, Own, cases_same, changed-has, covers-value, element, lacks_element, own-lacks, value-covers, base_zero, bit-zero}
use Rattle.function_laws.proofs.DistinctLemmas.{In}
use Rattle.function_laws.proofs.ListLemmas.{any_below-true, true-any_below}
use Rattle.function_laws.proofs.ValueLemmas.{IsFree-cofactor_other, IsFree-same_cofactors, everywhere}
use Rattle.function_laws.proofs.WidthLemmas.{same_everywhere}
use Rattle.cover_isop.proofs.CoverFunctions.{same_truth}
use Rattle.cover_isop.specs.Isops.{left_of}

-- whether a function depends on a variable

not_true : (b : Bool) → (b ≡ true → ⊥) → b ≡ false
not_true true h = absurd (h refl)
not_true false h = refl

differs_same : (a : Bool) → differs a a ≡ true → ⊥
differs_same true h = true≢false (sym h)
differs_same false h = true≢false (sym h)

same_from : (a b : Bool) → (differs a b ≡ true → ⊥) → a ≡ b
same_from true true h = refl
same_from true false h = absurd (h refl)
same_from false true h = absurd (h refl)
same_from false false h = refl

pub free_never : (n : ℕ) (f : ℕ → Bool) (v : ℕ) → IsFree f v → depends_at n f v ≡ false
free_never n f v free = not_true (depends_at n f v) (λ h.
    let t = true-any_below (2 ^ n) (λ k. differs (cofactor f v true k) (cofactor f v false k)) h in
    differs_same (f t.0) (ap (λ x. differs x (f t.0)) (sym (free t.0 true)) ∙ ap (differs (cofactor f v true t.0)) (sym (free t.0 false)) ∙ t.1.1))

of_cofactor : (n : ℕ) (f : ℕ → Bool) (v : ℕ) (b : Bool) → v < n → IsOf n f → IsOf n (cofactor f v b)
of_cofactor n f v b lt h u le = IsFree-cofactor_other f u v b (λ e. omega arith) (h u le)

pub never_free : (n : ℕ) (f : ℕ → Bool) (v : ℕ) → IsOf n f → v < n → depends_at n f v ≡ false → IsFree f v
never_free n f v of lt none =
    IsFree-same_cofactors f v (same_everywhere n (cofactor f v true) (cofactor f v false) (of_cofactor n f v true lt of) (of_cofactor n f v false lt of)
    (λ k below. same_from (cofactor f v true k) (cofactor f v false k) (λ h.
    let t = any_below-true (2 ^ n) k (λ k. differs (cofactor f v true k) (cofactor f v false k)) below h in true≢false (sym t ∙ none))))

-- no bound depends on the variable
abbrev pub LacksBoth : Interval → ℕ → Type 0
LacksBoth b v = IsFree b.lower v × IsFree b.upper v

never_either : (n : ℕ) (b : Interval) (v : ℕ) → LacksBoth b v → (depends_at n b.lower v || depends_at n b.upper v) ≡ false
never_either n b v l = ap₂ (λ x y. x || y) (free_never n b.lower v l.0) (free_never n b.upper v l.1)

and_false : (a : Bool) → (a && false) ≡ false
and_false true = refl
and_false false = refl

pub lacks_splits : (n : ℕ) (b : Interval) (v : ℕ) → LacksBoth b v → splits n b v ≡ false
lacks_splits n b v l = ap (λ x. not (holds_nowhere n b.lower) && not (holds_everywhere n b.upper) && x) (never_either n b v l) ∙ and_false (not (holds_nowhere n b.lower) && not (holds_everywhere n b.upper))

-- one of the bounds depends on it
or_true : (a b : Bool) → (a ≡ false → b ≡ false → ⊥) → (a || b) ≡ true
or_true true b h = refl
or_true false true h = refl
or_true false false h = absurd (h refl refl)

pub depends_splits : (n : ℕ) (b : Interval) (v : ℕ) → IsOf n b.lower → IsOf n b.upper → v < n → (IsFree b.lower v → IsFree b.upper v → ⊥) → (depends_at n b.lower v || depends_at n b.upper v) ≡ true
depends_splits n b v of_lower of_upper lt depends = or_true (depends_at n b.lower v) (depends_at n b.upper v)
    (λ p q. depends (never_free n b.lower v of_lower lt p) (never_free n b.upper v of_upper lt q))

pub split_is : (n : ℕ) (b : Interval) (v : ℕ) → holds_nowhere n b.lower ≡ false → holds_everywhere n b.upper ≡ false → (depends_at n b.lower v || depends_at n b.upper v) ≡ true → splits n b v ≡ true
split_is n b v some not_all depends =
    ap (λ x. not x && not (holds_everywhere n b.upper) && (depends_at n b.lower v || depends_at n b.upper v)) some
    ∙ ap (λ x. not x && (depends_at n b.lower v || depends_at n b.upper v)) not_all ∙ depends

-- the answer, by cases
abbrev pub made : ℕ → ℕ → List ℕ → Interval → ℕ → ℕ → Bool
made n m rest b x =
    union (morreale n m rest (both_call b x (cover_value n m (morreale n m rest (low_call b x))) (cover_value n m (morreale n m rest (high_call b x)))))
    (union (change (morreale n m rest (low_call b x)) (2 * x + 1)) (change (morreale n m rest (high_call b x)) (2 * x)))

pub nowhere-empty : (n m : ℕ) (order : List ℕ) (b : Interval) → holds_nowhere n b.lower ≡ true → morreale n m order b ≡ empty
unfolding morreale
nowhere-empty n m [] b none = ap (λ x. cond x empty base) none
nowhere-empty n m (x ∷ rest) b none = ap (λ y. cond y empty (cond (holds_everywhere n b.upper) base (cond (not (depends_at n b.lower x || depends_at n b.upper x)) (morreale n m rest b) (made n m rest b x)))) none

pub everywhere-base : (n m : ℕ) (order : List ℕ) (b : Interval) → holds_nowhere n b.lower ≡ false → holds_everywhere n b.upper ≡ true → morreale n m order b ≡ base
unfolding morreale
everywhere-base n m [] b some all = ap (λ x. cond x empty base) some
everywhere-base n m (x ∷ rest) b some all =
    ap (λ y. cond y empty (cond (holds_everywhere n b.upper) base (cond (not (depends_at n b.lower x || depends_at n b.upper x)) (morreale n m rest b) (made n m rest b x)))) some
    ∙ ap (λ y. cond y base (cond (not (depends_at n b.lower x || depends_at n b.upper x)) (morreale n m rest b) (made n m rest b x))) all

pub end-base : (n m : ℕ) (b : Interval) → holds_nowhere n b.lower ≡ false → morreale n m [] b ≡ base
unfolding morreale
end-base n m b some = ap (λ x. cond x empty base) some

-- one that isn't split is passed
pub skip-answer : (n m x : ℕ) (rest : List ℕ) (b : Interval) → splits n b x ≡ false → morreale n m (x ∷ rest) b ≡ morreale n m rest b
unfolding morreale
skip-answer n m x rest b passed = at (holds_nowhere n b.lower) refl (holds_everywhere n b.upper) refl (depends_at n b.lower x || depends_at n b.upper x) refl
  where
    at : (p : Bool) → holds_nowhere n b.lower ≡ p → (q : Bool) → holds_everywhere n b.upper ≡ q → (r : Bool) → (depends_at n b.lower x || depends_at n b.upper x) ≡ r → morreale n m (x ∷ rest) b ≡ morreale n m rest b
    at true none q _ r _ = nowhere-empty n m (x ∷ rest) b none ∙ sym (nowhere-empty n m rest b none)
    at false some true all r _ = everywhere-base n m (x ∷ rest) b some all ∙ sym (everywhere-base n m rest b some all)
    at false some false not_all true depends = absurd (true≢false (sym (split_is n b x some not_all depends) ∙ passed))
    at false some false not_all false never =
        ap (λ y. cond y empty (cond (holds_everywhere n b.upper) base (cond (not (depends_at n b.lower x || depends_at n b.upper x)) (morreale n m rest b) (made n m rest b x)))) some
        ∙ ap (λ y. cond y base (cond (not (depends_at n b.lower x || depends_at n b.upper x)) (morreale n m rest b) (made n m rest b x))) not_all
        ∙ ap (λ y. cond (not y) (morreale n m rest b) (made n m rest b x)) never

-- one that is split makes three calls
split_parts : (p q r : Bool) → (not p && not q && r) ≡ true → (p ≡ false) × (q ≡ false) × (r ≡ true)
split_parts true q r h = absurd (true≢false (sym h))
split_parts false true r h = absurd (true≢false (sym h))
split_parts false false r h = (refl, refl, h)

pub split-answer : (n m x : ℕ) (rest : List ℕ) (b : Interval) → splits n b x ≡ true → morreale n m (x ∷ rest) b ≡ made n m rest b x
unfolding morreale
split-answer n m x rest b parted =
    let p = split_parts (holds_nowhere n b.lower) (holds_everywhere n b.upper) (depends_at n b.lower x || depends_at n b.upper x) parted in
    ap (λ y. cond y empty (cond (holds_everywhere n b.upper) base (cond (not (depends_at n b.lower x || depends_at n b.upper x)) (morreale n m rest b) (made n m rest b x)))) p.0
    ∙ ap (λ y. cond y base (cond (not (depends_at n b.lower x || depends_at n b.upper x)) (morreale n m rest b) (made n m rest b x))) p.1
    ∙ ap (λ y. cond (not y) (morreale n m rest b) (made n m rest b x)) p.2

pub skip-all : (n m : ℕ) (before rest : List ℕ) (b : Interval) → ((v : ℕ) → In v before → LacksBoth b v) → morreale n m (before ++ rest) b ≡ morreale n m rest b
skip-all n m [] rest b lacks = refl
skip-all n m (x ∷ before) rest b lacks = skip-answer n m x (before ++ rest) b (lacks_splits n b x (lacks x (inl refl))) ∙ skip-all n m before rest b (λ v i. lacks v (inr i))

-- how many are left
pub left-all : (n : ℕ) (before rest : List ℕ) (b : Interval) → ((v : ℕ) → In v before → LacksBoth b v) → left_of n (before ++ rest) b ≡ left_of n rest b
left-all n [] rest b lacks = refl
left-all n (x ∷ before) rest b lacks = ap (λ y. cond y (suc (length (before ++ rest))) (left_of n (before ++ rest) b)) (never_either n b x (lacks x (inl refl))) ∙ left-all n before rest b (λ v i. lacks v (inr i))

pub left-here : (n x : ℕ) (rest : List ℕ) (b : Interval) → (depends_at n b.lower x || depends_at n b.upper x) ≡ true → left_of n (x ∷ rest) b ≡ suc (length rest)
left-here n x rest b depends = ap (λ y. cond y (suc (length rest)) (left_of n rest b)) depends

pub left-most : (n : ℕ) (order : List ℕ) (b : Interval) → left_of n order b ≤ length order
left-most n [] b = omega arith
left-most n (x ∷ rest) b = at (depends_at n b.lower x || depends_at n b.upper x) (left-most n rest b)
  where
    at : (y : Bool) → left_of n rest b ≤ length rest → cond y (suc (length rest)) (left_of n rest b) ≤ suc (length rest)
    at true le = omega arith
    at false le = omega (arith, le)

-- calls of calls
module _ (n m : ℕ) where
  pub calls_of_calls : {order rest last : List ℕ} {b c d : Interval} → IsCall n m order b rest c → IsCall n m rest c last d → IsCall n m order b last d
  calls_of_calls (itself order b) j = j
  calls_of_calls (passes passed i) j = passes passed (calls_of_calls i j)
  calls_of_calls (low parted i) j = low parted (calls_of_calls i j)
  calls_of_calls (high parted i) j = high parted (calls_of_calls i j)
  calls_of_calls (both parted i) j = both parted (calls_of_calls i j)

  pub pass-all : (before rest : List ℕ) (b : Interval) → ((v : ℕ) → In v before → LacksBoth b v) → IsCall n m (before ++ rest) b rest b
  pass-all [] rest b lacks = itself rest b
  pass-all (x ∷ before) rest b lacks = passes (lacks_splits n b x (lacks x (inl refl))) (pass-all before rest b (λ v i. lacks v (inr i)))

-- the work of a call, by its functions and its families
module _ (n m : ℕ) (o p : List ℕ) (a b : Interval) (functions : (f : ℕ → Bool) → IsCallFunction n m o a f → IsCallFunction n m p b f) (families : (f : ℕ → Bool) → IsCallFamily n m o a f → IsCallFamily n m p b f) where
  simple-map : (F : Denoted) → IsSimpleWork n m o a F → IsSimpleWork n m p b F
  simple-map _ (function f is) = function f (functions f is)
  simple-map _ (product f v positive is) = product f v positive (functions f is)
  simple-map _ (family f is) = family f (families f is)

  pub work-map : (F : Denoted) → IsWorkOfIsop n m o a F → IsWorkOfIsop n m p b F
  work-map _ (simple w is) = simple w (simple-map w is)
  work-map _ (disjoined f g one other) = disjoined f g (simple-map (BddFunction f) one) (simple-map (BddFunction g) other)
  work-map _ (united f g one other) = united f g (simple-map (ZddFamily f) one) (simple-map (ZddFamily g) other)

-- of a call of a call
module _ (n m : ℕ) (order rest : List ℕ) (root b : Interval) (call : IsCall n m order root rest b) where
  inner-function : (f : ℕ → Bool) → IsCallFunction n m rest b f → IsCallFunction n m order root f
  inner-function _ (lower c) = lower (calls_of_calls n m call c)
  inner-function _ (upper c) = upper (calls_of_calls n m call c)
  inner-function _ (low_left c parted) = low_left (calls_of_calls n m call c) parted
  inner-function _ (high_left c parted) = high_left (calls_of_calls n m call c) parted
  inner-function _ (cover c) = cover (calls_of_calls n m call c)

  inner-family : (f : ℕ → Bool) → IsCallFamily n m rest b f → IsCallFamily n m order root f
  inner-family _ (plain c) = plain (calls_of_calls n m call c)
  inner-family _ (changed e c) = changed e (calls_of_calls n m call c)

  pub inner-work : (F : Denoted) → IsWorkOfIsop n m rest b F → IsWorkOfIsop n m order root F
  inner-work = work-map n m rest order b root inner-function inner-family

-- of a call at a variable that is passed
module _ (n m x : ℕ) (order : List ℕ) (b : Interval) (passed : splits n b x ≡ false) where
  never : {A : Type 0} → splits n b x ≡ true → A
  never parted = absurd (true≢false (sym parted ∙ passed))

  skip-function : (f : ℕ → Bool) → IsCallFunction n m (x ∷ order) b f → IsCallFunction n m order b f
  skip-function _ (lower (itself _ _)) = lower (itself order b)
  skip-function _ (lower (passes _ c)) = lower c
  skip-function _ (lower (low parted c)) = never parted
  skip-function _ (lower (high parted c)) = never parted
  skip-function _ (lower (both parted c)) = never parted
  skip-function _ (upper (itself _ _)) = upper (itself order b)
  skip-function _ (upper (passes _ c)) = upper c
  skip-function _ (upper (low parted c)) = never parted
  skip-function _ (upper (high parted c)) = never parted
  skip-function _ (upper (both parted c)) = never parted
  skip-function _ (low_left (itself _ _) here) = never here
  skip-function _ (low_left (passes _ c) here) = low_left c here
  skip-function _ (low_left (low parted c) here) = never parted
  skip-function _ (low_left (high parted c) here) = never parted
  skip-function _ (low_left (both parted c) here) = never parted
  skip-function _ (high_left (itself _ _) here) = never here
  skip-function _ (high_left (passes _ c) here) = high_left c here
  skip-function _ (high_left (low parted c) here) = never parted
  skip-function _ (high_left (high parted c) here) = never parted
  skip-function _ (high_left (both parted c) here) = never parted
  skip-function _ (cover (itself _ _)) = subst (λ p. IsCallFunction n m order b (cover_value n m p)) (sym (skip-answer n m x order b passed)) (cover (itself order b))
  skip-function _ (cover (passes _ c)) = cover c
  skip-function _ (cover (low parted c)) = never parted
  skip-function _ (cover (high parted c)) = never parted
  skip-function _ (cover (both parted c)) = never parted

  skip-family : (f : ℕ → Bool) → IsCallFamily n m (x ∷ order) b f → IsCallFamily n m order b f
  skip-family _ (plain (itself _ _)) = subst (λ p. IsCallFamily n m order b p) (sym (skip-answer n m x order b passed)) (plain (itself order b))
  skip-family _ (plain (passes _ c)) = plain c
  skip-family _ (plain (low parted c)) = never parted
  skip-family _ (plain (high parted c)) = never parted
  skip-family _ (plain (both parted c)) = never parted
  skip-family _ (changed e (itself _ _)) = subst (λ p. IsCallFamily n m order b (change p e)) (sym (skip-answer n m x order b passed)) (changed e (itself order b))
  skip-family _ (changed e (passes _ c)) = changed e c
  skip-family _ (changed e (low parted c)) = never parted
  skip-family _ (changed e (high parted c)) = never parted
  skip-family _ (changed e (both parted c)) = never parted

  pub skip-work : (F : Denoted) → IsWorkOfIsop n m (x ∷ order) b F → IsWorkOfIsop n m order b F
  skip-work = work-map n m (x ∷ order) order b b skip-function skip-family

pub skip-works : (n m : ℕ) (before rest : List ℕ) (b : Interval) → ((v : ℕ) → In v before → LacksBoth b v) → (F : Denoted) → IsWorkOfIsop n m (before ++ rest) b F → IsWorkOfIsop n m rest b F
skip-works n m [] rest b lacks F is = is
skip-works n m (x ∷ before) rest b lacks F is = skip-works n m before rest b (λ v i. lacks v (inr i)) F (skip-work n m x (before ++ rest) b (lacks_splits n b x (lacks x (inl refl))) F is)

-- the literals of an answer are those of the order's variables

own_element : (x : ℕ) (d : Bool) → (element x d ≡ 2 * x) ⊎ (element x d ≡ 2 * x + 1)
own_element x true = inl refl
own_element x false = inr refl

own-changed : (m x : ℕ) (rest : List ℕ) (d : Bool) (p : ℕ → Bool) → (In x rest → ⊥) → Own rest p → Own (x ∷ rest) (change p (element x d))
own-changed m x rest d p out own c e member has = at (cases_same e (element x d))
  where
    lacks : (u : ℕ) → p u ≡ true → bit u (element x d) ≡ false
    lacks = lacks_element p x d (own-lacks rest p x out own)

    at : (e ≡ element x d) ⊎ (e ≢ element x d) → (v : ℕ) × In v (x ∷ rest) × ((e ≡ 2 * v) ⊎ (e ≡ 2 * v + 1))
    at (inl same) = (x, inl refl, ⊎_elim (λ a. inl (same ∙ a)) (λ a. inr (same ∙ a)) (own_element x d))
    at (inr other) =
        let o = own (set_bit c (element x d) false) e (changed-has m (element x d) p lacks c member).1 (bit-set_other c (element x d) e false other ∙ has) in
        (o.0, inr o.1, o.2)

own-more : (x : ℕ) (rest : List ℕ) (p : ℕ → Bool) → Own rest p → Own (x ∷ rest) p
own-more x rest p own c e member has = let o = own c e member has in (o.0, inr o.1, o.2)

own-union : (order : List ℕ) (p q : ℕ → Bool) → Own order p → Own order q → Own order (union p q)
own-union order p q one other c e member has = ⊎_elim (λ a. one c e a has) (λ a. other c e a has) (or_cases (p c) (q c) member)

own-empty : (order : List ℕ) → Own order empty
own-empty order c e member has = absurd (true≢false (sym member))

own-base : (order : List ℕ) → Own order base
own-base order c e member has = absurd (true≢false (sym has ∙ ap (λ u. bit u e) (base_zero c member) ∙ bit-zero e))

own_if : (order : List ℕ) (b : Bool) (p q : ℕ → Bool) → Own order p → Own order q → Own order (cond b p q)
own_if order true p q one other = one
own_if order false p q one other = other

pub own-answer : (n m : ℕ) (order : List ℕ) (b : Interval) → IsVars n order → Own order (morreale n m order b)
unfolding morreale
own-answer n m [] b vars = own_if [] (holds_nowhere n b.lower) empty base (own-empty []) (own-base [])
own-answer n m (x ∷ rest) b vars =
    own_if (x ∷ rest) (holds_nowhere n b.lower) empty (cond (holds_everywhere n b.upper) base (cond (not (depends_at n b.lower x || depends_at n b.upper x)) (morreale n m rest b) (made n m rest b x))) (own-empty (x ∷ rest))
    (own_if (x ∷ rest) (holds_everywhere n b.upper) base (cond (not (depends_at n b.lower x || depends_at n b.upper x)) (morreale n m rest b) (made n m rest b x)) (own-base (x ∷ rest))
    (own_if (x ∷ rest) (not (depends_at n b.lower x || depends_at n b.upper x)) (morreale n m rest b) (made n m rest b x) (own-more x rest (morreale n m rest b) (own-answer n m rest b vars.2))
    (own-union (x ∷ rest) (morreale n m rest (both_call b x (cover_value n m (morreale n m rest (low_call b x))) (cover_value n m (morreale n m rest (high_call b x)))))
    (union (change (morreale n m rest (low_call b x)) (2 * x + 1)) (change (morreale n m rest (high_call b x)) (2 * x)))
    (own-more x rest (morreale n m rest (both_call b x (cover_value n m (morreale n m rest (low_call b x))) (cover_value n m (morreale n m rest (high_call b x)))))
    (own-answer n m rest (both_call b x (cover_value n m (morreale n m rest (low_call b x))) (cover_value n m (morreale n m rest (high_call b x)))) vars.2))
    (own-union (x ∷ rest) (change (morreale n m rest (low_call b x)) (2 * x + 1)) (change (morreale n m rest (high_call b x)) (2 * x))
    (own-changed m x rest false (morreale n m rest (low_call b x)) vars.1 (own-answer n m rest (low_call b x) vars.2))
    (own-changed m x rest true (morreale n m rest (high_call b x)) vars.1 (own-answer n m rest (high_call b x) vars.2))))))

-- so its function depends on none of the others
covers-turned : (n m : ℕ) (order : List ℕ) (p : ℕ → Bool) (v k : ℕ) (a b : Bool) → (In v order → ⊥) → Own order p → Covers n m p (set_bit k v a) → Covers n m p (set_bit k v b)
covers-turned n m order p v k a b out own h = (h.0, h.1, h.2, λ u lt. at u lt (cases_same u v))
  where
    lacks : (bit h.0 (2 * v) ≡ false) × (bit h.0 (2 * v + 1) ≡ false)
    lacks = own-lacks order p v out own h.0 h.2

    at : (u : ℕ) → u < n → (u ≡ v) ⊎ (u ≢ v) → (bit h.0 (2 * u) ≡ true → bit (set_bit k v b) u ≡ true) × (bit h.0 (2 * u + 1) ≡ true → bit (set_bit k v b) u ≡ false)
    at u lt (inl same) = (
      (λ e. absurd (true≢false (sym e ∙ ap (λ w. bit h.0 (2 * w)) same ∙ lacks.0))),
      (λ e. absurd (true≢false (sym e ∙ ap (λ w. bit h.0 (2 * w + 1)) same ∙ lacks.1))),
    )
    at u lt (inr other) = (
      (λ e. bit-set_other k v u b other ∙ sym (bit-set_other k v u a other) ∙ (h.3 u lt).0 e),
      (λ e. bit-set_other k v u b other ∙ sym (bit-set_other k v u a other) ∙ (h.3 u lt).1 e),
    )

pub cover-lacks : (n m : ℕ) (order : List ℕ) (p : ℕ → Bool) (v : ℕ) → (In v order → ⊥) → Own order p → IsFree (cover_value n m p) v
cover-lacks n m order p v out own = IsFree-same_cofactors (cover_value n m p) v (everywhere (cofactor (cover_value n m p) v true) (cofactor (cover_value n m p) v false) (λ k.
    same_truth (cover_value n m p (set_bit k v true)) (cover_value n m p (set_bit k v false))
    (λ e. covers-value n m p (set_bit k v false) (covers-turned n m order p v k true false out own (value-covers n m p (set_bit k v true) e)))
    (λ e. covers-value n m p (set_bit k v true) (covers-turned n m order p v k false true out own (value-covers n m p (set_bit k v false) e)))))
