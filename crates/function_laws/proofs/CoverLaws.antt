-- Morreale's answer covers between its bounds.
use Rattle.std.proofs.Common.{◌≡◌, ◌≢◌, ℕ, zero, suc, ◌+◌, ◌*◌, ◌^◌, ◌%◌, ◌==◌, ◌<◌, ◌≤◌, Bool, true, false, true≢false, not, ◌&&◌, ◌||◌, cond, ◌⊎◌, inl, inr, ⊎_elim, List, [], ◌∷◌, refl, sym, ap, ap₂, ◌∙◌, subst, arith}
use Rattle.std.proofs.Common.{eqb-true}
use Rattle.std.proofs.Math.Nat.{div-eq_of_lt, one-le-pow, pow-le-pow_right}
use Rattle.std.proofs.lemmas.Bool.{and_parts, or_cases, not-true, cases_lt}
use Rattle.edge_bits.specs.Assignments.{bit, set_bit}
use Rattle.edge_bits.proofs.AssignmentLemmas.{bit-set_same, bit-set_other, set_bit-own, set_bit-set_same, set_bit_comm, set_bit-below, same_bits}
use Rattle.function_laws.specs.Values.{cofactor, conjunction, disjunction, differs}
use Rattle.function_laws.specs.Families.{empty, base, union, change}
use Rattle.function_laws.specs.Restricting.{IsFreeBelow}
use Rattle.function_laws.proofs.ListLemmas.{any_below-true, true-any_below, all_below-true, true-all_below, false-all_below}
use Rattle.function_laws.proofs.DistinctLemmas.{In}
use Rattle.function_laws.specs.IrredundantCovers.{fits, cover_value}
use Rattle.function_laws.specs.MorrealeCalls.{Interval, interval, less, low_call, high_call, left_low, left_high, both_call, depends_at, holds_nowhere, holds_everywhere, morreale}

-- bits

bit-large : (n k v : ℕ) → k < 2 ^ n → n ≤ v → bit k v ≡ false
bit-large n k v below le = ap (λ q. q % 2 == 1) (div-eq_of_lt at)
  where
    more : 2 ^ n ≤ 2 ^ v
    more = pow-le-pow_right (omega arith) le

    at : k < 2 ^ v
    at = let m = more in omega (arith, below, m)

pub bit-zero : (v : ℕ) → bit 0 v ≡ false
bit-zero v = bit-large 0 0 v (omega arith) (omega arith)

-- j with its first i bits those of k
spliced : ℕ → ℕ → ℕ → ℕ
spliced j k zero = j
spliced j k (suc i) = set_bit (spliced j k i) i (bit k i)

spliced-below : (n j k i : ℕ) → j < 2 ^ n → i ≤ n → spliced j k i < 2 ^ n
unfolding spliced
spliced-below n j k zero below le = below
spliced-below n j k (suc i) below le = set_bit-below n (spliced j k i) i (bit k i) (spliced-below n j k i below (omega (arith, le))) (omega (arith, le))

spliced-low : (j k i v : ℕ) → v < i → bit (spliced j k i) v ≡ bit k v
unfolding spliced
spliced-low j k zero v lt = absurd (omega (arith, lt))
spliced-low j k (suc i) v lt = ⊎_elim
    (λ less. bit-set_other (spliced j k i) i v (bit k i) (λ e. omega (arith, less, e)) ∙ spliced-low j k i v less)
    (λ from. let same : v ≡ i = omega (arith, lt, from) in ap (λ u. bit (set_bit (spliced j k i) i (bit k i)) u) same ∙ bit-set_same (spliced j k i) i (bit k i) ∙ ap (bit k) (sym same)) (cases_lt v i)

spliced-all : (n j k : ℕ) → j < 2 ^ n → k < 2 ^ n → spliced j k n ≡ k
spliced-all n j k jb kb = same_bits (spliced j k n) k (λ v. ⊎_elim (λ less. spliced-low j k n v less)
    (λ from. bit-large n (spliced j k n) v (spliced-below n j k n jb (omega arith)) from ∙ sym (bit-large n k v kb from)) (cases_lt v n))

-- a function that doesn't depend on a variable has one value for both of its values
set_free : (n : ℕ) (f : ℕ → Bool) (v : ℕ) → IsFreeBelow (2 ^ n) f v → (k : ℕ) (b : Bool) → k < 2 ^ n → f (set_bit k v b) ≡ f k
set_free n f v free k b below = to b ∙ sym (to (bit k v)) ∙ ap f (set_bit-own k v)
  where
    to : (b : Bool) → f (set_bit k v b) ≡ f (set_bit k v true)
    to true = refl
    to false = sym (free k below)

same_below : (n : ℕ) (f : ℕ → Bool) → ((v : ℕ) → v < n → IsFreeBelow (2 ^ n) f v) → (j k : ℕ) → j < 2 ^ n → k < 2 ^ n → f j ≡ f k
unfolding spliced
same_below n f free j k jb kb = sym (upto n (omega arith)) ∙ ap f (spliced-all n j k jb kb)
  where
    upto : (i : ℕ) → i ≤ n → f (spliced j k i) ≡ f j
    upto zero le = refl
    upto (suc i) le = set_free n f i (free i (omega (arith, le))) (spliced j k i) (bit k i) (spliced-below n j k i jb (omega (arith, le))) ∙ upto i (omega (arith, le))

-- what fits, and what covers

abbrev pub Fits : ℕ → ℕ → ℕ → Type 0
Fits n c k = (v : ℕ) → v < n → (bit c (2 * v) ≡ true → bit k v ≡ true) × (bit c (2 * v + 1) ≡ true → bit k v ≡ false)

implied : (a b : Bool) → (not a || b) ≡ true → a ≡ true → b ≡ true
implied true b h e = h
implied false b h e = absurd (true≢false (sym e))

implies : (a b : Bool) → (a ≡ true → b ≡ true) → (not a || b) ≡ true
implies true b h = h refl
implies false b h = refl

pub both : (a b : Bool) → a ≡ true → b ≡ true → (a && b) ≡ true
both true b h e = e
both false b h e = absurd (true≢false (sym h))

pub from_not : (b : Bool) → b ≡ false → not b ≡ true
from_not true e = absurd (true≢false e)
from_not false e = refl

pub fits-Fits : (n c k : ℕ) → fits n c k ≡ true → Fits n c k
fits-Fits n c k h v lt =
    let p = and_parts (not (bit c (2 * v)) || bit k v) (not (bit c (2 * v + 1)) || not (bit k v)) (true-all_below n v _ h lt) in
    ((λ e. implied (bit c (2 * v)) (bit k v) p.0 e), (λ e. not-true (bit k v) (implied (bit c (2 * v + 1)) (not (bit k v)) p.1 e)))

pub Fits-fits : (n c k : ℕ) → Fits n c k → fits n c k ≡ true
Fits-fits n c k h = all_below-true n _ (λ v lt. both (not (bit c (2 * v)) || bit k v) (not (bit c (2 * v + 1)) || not (bit k v))
    (implies (bit c (2 * v)) (bit k v) (h v lt).0) (implies (bit c (2 * v + 1)) (not (bit k v)) (λ e. from_not (bit k v) ((h v lt).1 e))))

abbrev pub Covers : ℕ → ℕ → (ℕ → Bool) → ℕ → Type 0
Covers n m p k = (c : ℕ) × (c < 2 ^ m) × (p c ≡ true) × Fits n c k

pub covers-value : (n m : ℕ) (p : ℕ → Bool) (k : ℕ) → Covers n m p k → cover_value n m p k ≡ true
unfolding cover_value
covers-value n m p k h = any_below-true (2 ^ m) h.0 _ h.1 (both (p h.0) (fits n h.0 k) h.2 (Fits-fits n h.0 k h.3))

pub value-covers : (n m : ℕ) (p : ℕ → Bool) (k : ℕ) → cover_value n m p k ≡ true → Covers n m p k
unfolding cover_value
value-covers n m p k h = let a = true-any_below (2 ^ m) _ h in let b = and_parts (p a.0) (fits n a.0 k) a.1.1 in (a.0, a.1.0, b.0, fits-Fits n a.0 k b.1)

-- members have no literal of a variable
abbrev pub LacksOf : (ℕ → Bool) → ℕ → Type 0
LacksOf p x = (c : ℕ) → p c ≡ true → (bit c (2 * x) ≡ false) × (bit c (2 * x + 1) ≡ false)

-- members have literals of these variables alone
abbrev pub Own : List ℕ → (ℕ → Bool) → Type 0
Own order p = (c e : ℕ) → p c ≡ true → bit c e ≡ true → (v : ℕ) × In v order × ((e ≡ 2 * v) ⊎ (e ≡ 2 * v + 1))

pub own-lacks : (order : List ℕ) (p : ℕ → Bool) (x : ℕ) → (In x order → ⊥) → Own order p → LacksOf p x
own-lacks order p x out own c member = (none (2 * x) (inl refl), none (2 * x + 1) (inr refl))
  where
    at : (e v : ℕ) → In v order → ((e ≡ 2 * v) ⊎ (e ≡ 2 * v + 1)) → ((e ≡ 2 * x) ⊎ (e ≡ 2 * x + 1)) → ⊥
    at e v i (inl a) (inl b) = out (subst (λ u. In u order) (omega (arith, a, b)) i)
    at e v i (inl a) (inr b) = omega (arith, a, b)
    at e v i (inr a) (inl b) = omega (arith, a, b)
    at e v i (inr a) (inr b) = out (subst (λ u. In u order) (omega (arith, a, b)) i)

    is_none : (e : ℕ) (b : Bool) → bit c e ≡ b → ((e ≡ 2 * x) ⊎ (e ≡ 2 * x + 1)) → bit c e ≡ false
    is_none e true h w = absurd (let o = own c e member h in at e o.0 o.1 o.2 w)
    is_none e false h w = h

    none : (e : ℕ) → ((e ≡ 2 * x) ⊎ (e ≡ 2 * x + 1)) → bit c e ≡ false
    none e w = is_none e (bit c e) refl w

-- a member with one more literal: element 2 x + d

-- the added literal fits k
pub LiteralFits : ℕ → ℕ → ℕ → Type 0
LiteralFits k x e = ((e ≡ 2 * x) × (bit k x ≡ true)) ⊎ ((e ≡ 2 * x + 1) × (bit k x ≡ false))

pub fits_with : (n c k x e : ℕ) → Fits n c k → LiteralFits k x e → Fits n (set_bit c e true) k
unfolding LiteralFits
fits_with n c k x e h w v lt = (upper (cases_eq' (2 * v) e), lower (cases_eq' (2 * v + 1) e))
  where
    cases_eq' : (a b : ℕ) → (a ≡ b) ⊎ (a ≢ b)
    cases_eq' a b = ⊎_elim (λ less. inr (λ same. omega (arith, less, same))) (λ from. ⊎_elim (λ less. inr (λ same. omega (arith, less, same))) (λ back. inl (omega (arith, from, back))) (cases_lt b a)) (cases_lt a b)

    upper : (2 * v ≡ e) ⊎ (2 * v ≢ e) → bit (set_bit c e true) (2 * v) ≡ true → bit k v ≡ true
    upper (inl same) b = at same w
      where
        at : 2 * v ≡ e → LiteralFits k x e → bit k v ≡ true
        at same (inl a) = ap (bit k) (omega (arith, same, a.0)) ∙ a.1
        at same (inr a) = absurd (omega (arith, same, a.0))
    upper (inr other) b = (h v lt).0 (sym (bit-set_other c e (2 * v) true other) ∙ b)

    lower : (2 * v + 1 ≡ e) ⊎ (2 * v + 1 ≢ e) → bit (set_bit c e true) (2 * v + 1) ≡ true → bit k v ≡ false
    lower (inl same) b = at same w
      where
        at : 2 * v + 1 ≡ e → LiteralFits k x e → bit k v ≡ false
        at same (inl a) = absurd (omega (arith, same, a.0))
        at same (inr a) = ap (bit k) (omega (arith, same, a.0)) ∙ a.1
    lower (inr other) b = (h v lt).1 (sym (bit-set_other c e (2 * v + 1) true other) ∙ b)

pub fits_less : (n c k e : ℕ) → Fits n c k → Fits n (set_bit c e false) k
fits_less n c k e h v lt = (upper, lower)
  where
    was : (u : ℕ) → bit (set_bit c e false) u ≡ true → bit c u ≡ true
    was u b = ⊎_elim (λ less. sym (bit-set_other c e u false (λ same. omega (arith, less, same))) ∙ b)
        (λ from. ⊎_elim (λ less. sym (bit-set_other c e u false (λ same. omega (arith, less, same))) ∙ b)
        (λ back. absurd (true≢false (sym b ∙ ap (bit (set_bit c e false)) (let s : u ≡ e = omega (arith, from, back) in s) ∙ bit-set_same c e false))) (cases_lt e u)) (cases_lt u e)

    upper : bit (set_bit c e false) (2 * v) ≡ true → bit k v ≡ true
    upper b = (h v lt).0 (was (2 * v) b)

    lower : bit (set_bit c e false) (2 * v + 1) ≡ true → bit k v ≡ false
    lower b = (h v lt).1 (was (2 * v + 1) b)

-- with the literal added to each member
covers-changed : (n m k x e : ℕ) (p : ℕ → Bool) → e < m → ((c : ℕ) → p c ≡ true → bit c e ≡ false) → LiteralFits k x e → Covers n m p k → Covers n m (change p e) k
covers-changed n m k x e p within lacks w h = (
  set_bit h.0 e true,
  set_bit-below m h.0 e true h.1 within,
  ap (λ b. p (set_bit (set_bit h.0 e true) e (not b))) (bit-set_same h.0 e true) ∙ ap p (set_bit-set_same h.0 e true false ∙ ap (set_bit h.0 e) (sym (lacks h.0 h.2)) ∙ set_bit-own h.0 e) ∙ h.2,
  fits_with n h.0 k x e h.3 w,
)

-- and back: the member without it covers, and the literal fits
pub changed-has : (m e : ℕ) (p : ℕ → Bool) → ((c : ℕ) → p c ≡ true → bit c e ≡ false) → (c : ℕ) → change p e c ≡ true → (bit c e ≡ true) × (p (set_bit c e false) ≡ true)
changed-has m e p lacks c member = at (bit c e) refl
  where
    at : (b : Bool) → bit c e ≡ b → (bit c e ≡ true) × (p (set_bit c e false) ≡ true)
    at true is = (is, sym (ap (λ b. p (set_bit c e (not b))) is) ∙ member)
    at false is = absurd (true≢false (sym (bit-set_same c e true) ∙ lacks (set_bit c e true) (sym (ap (λ b. p (set_bit c e (not b))) is) ∙ member)))

pub changed-covers : (n m k e : ℕ) (p : ℕ → Bool) → e < m → ((c : ℕ) → p c ≡ true → bit c e ≡ false) → Covers n m (change p e) k → Covers n m p k
changed-covers n m k e p within lacks h = let c = changed-has m e p lacks h.0 h.2 in (set_bit h.0 e false, set_bit-below m h.0 e false h.1 within, c.1, fits_less n h.0 k e h.3)

-- freedom

abbrev pub Free : ℕ → List ℕ → (ℕ → Bool) → Type 0
Free n order f = (v : ℕ) → v < n → (In v order → ⊥) → IsFreeBelow (2 ^ n) f v

pub cases_same : (a b : ℕ) → (a ≡ b) ⊎ (a ≢ b)
cases_same a b = ⊎_elim (λ less. inr (λ same. omega (arith, less, same))) (λ from. ⊎_elim (λ less. inr (λ same. omega (arith, less, same))) (λ back. inl (omega (arith, from, back))) (cases_lt b a)) (cases_lt a b)

bool_same : (a b : Bool) → (a ≡ true → b ≡ true) → (b ≡ true → a ≡ true) → a ≡ b
bool_same true b to back = sym (to refl)
bool_same false true to back = back refl
bool_same false false to back = refl

free-cofactor : (n x : ℕ) (rest : List ℕ) (f : ℕ → Bool) (d : Bool) → x < n → Free n (x ∷ rest) f → Free n rest (cofactor f x d)
free-cofactor n x rest f d within free v lt out k below = at (cases_same v x)
  where
    at : (v ≡ x) ⊎ (v ≢ x) → cofactor f x d (set_bit k v true) ≡ cofactor f x d (set_bit k v false)
    at (inl same) = ap f (ap (λ u. set_bit (set_bit k u true) x d) same ∙ set_bit-set_same k x true d ∙ sym (set_bit-set_same k x false d) ∙ ap (λ u. set_bit (set_bit k u false) x d) (sym same))
    at (inr other) =
        ap f (set_bit_comm k v x true d other)
        ∙ free v lt (λ i. ⊎_elim other out i) (set_bit k x d) (set_bit-below n k x d below within)
        ∙ ap f (sym (set_bit_comm k v x false d other))

free-less : (n : ℕ) (order : List ℕ) (f g : ℕ → Bool) → Free n order f → Free n order g → Free n order (less f g)
free-less n order f g a b v lt out k below = ap₂ (λ p q. p && not q) (a v lt out k below) (b v lt out k below)

free-or : (n : ℕ) (order : List ℕ) (f g : ℕ → Bool) → Free n order f → Free n order g → Free n order (disjunction f g)
free-or n order f g a b v lt out k below = ap₂ (λ p q. p || q) (a v lt out k below) (b v lt out k below)

free-and : (n : ℕ) (order : List ℕ) (f g : ℕ → Bool) → Free n order f → Free n order g → Free n order (conjunction f g)
free-and n order f g a b v lt out k below = ap₂ (λ p q. p && q) (a v lt out k below) (b v lt out k below)

covers-other : (n m : ℕ) (order : List ℕ) (p : ℕ → Bool) (v k : ℕ) (a b : Bool) → (In v order → ⊥) → Own order p → Covers n m p (set_bit k v a) → Covers n m p (set_bit k v b)
covers-other n m order p v k a b out own h = (h.0, h.1, h.2, λ u lt. at u lt (cases_same u v))
  where
    lacks : (bit h.0 (2 * v) ≡ false) × (bit h.0 (2 * v + 1) ≡ false)
    lacks = own-lacks order p v out own h.0 h.2

    at : (u : ℕ) → u < n → (u ≡ v) ⊎ (u ≢ v) → (bit h.0 (2 * u) ≡ true → bit (set_bit k v b) u ≡ true) × (bit h.0 (2 * u + 1) ≡ true → bit (set_bit k v b) u ≡ false)
    at u lt (inl same) = (
      (λ e. absurd (true≢false (sym e ∙ ap (λ w. bit h.0 (2 * w)) same ∙ lacks.0))),
      (λ e. absurd (true≢false (sym e ∙ ap (λ w. bit h.0 (2 * w + 1)) same ∙ lacks.1))),
    )
    at u lt (inr other) = (
      (λ e. bit-set_other k v u b other ∙ sym (bit-set_other k v u a other) ∙ (h.3 u lt).0 e),
      (λ e. bit-set_other k v u b other ∙ sym (bit-set_other k v u a other) ∙ (h.3 u lt).1 e),
    )

free-cover : (n m : ℕ) (order : List ℕ) (p : ℕ → Bool) → Own order p → Free n order (cover_value n m p)
free-cover n m order p own v lt out k below = bool_same (cover_value n m p (set_bit k v true)) (cover_value n m p (set_bit k v false))
    (λ e. covers-value n m p (set_bit k v false) (covers-other n m order p v k true false out own (value-covers n m p (set_bit k v true) e)))
    (λ e. covers-value n m p (set_bit k v true) (covers-other n m order p v k false true out own (value-covers n m p (set_bit k v false) e)))

-- both halves of a call alike

abbrev pub half_call : Interval → ℕ → Bool → Interval
half_call b x d = interval (less (cofactor b.lower x d) (cofactor b.upper x (not d))) (cofactor b.upper x d)

abbrev pub element : ℕ → Bool → ℕ
element x true = 2 * x
element x false = 2 * x + 1

pub literal_fits : (k x : ℕ) (d : Bool) → bit k x ≡ d → LiteralFits k x (element x d)
unfolding LiteralFits
literal_fits k x true is = inl (refl, is)
literal_fits k x false is = inr (refl, is)

pub lacks_element : (p : ℕ → Bool) (x : ℕ) (d : Bool) → LacksOf p x → (c : ℕ) → p c ≡ true → bit c (element x d) ≡ false
lacks_element p x true lacks c member = (lacks c member).0
lacks_element p x false lacks c member = (lacks c member).1

pub within_element : (n m x : ℕ) (d : Bool) → 2 * n ≤ m → x < n → element x d < m
within_element n m x true few lt = omega (arith, few, lt)
within_element n m x false few lt = omega (arith, few, lt)

pub literal_at : (n c k x : ℕ) (d : Bool) → x < n → Fits n c k → bit c (element x d) ≡ true → bit k x ≡ d
literal_at n c k x true lt h e = (h x lt).0 e
literal_at n c k x false lt h e = (h x lt).1 e

abbrev pub IsLe : ℕ → Interval → Type 0
IsLe n b = (k : ℕ) → k < 2 ^ n → b.lower k ≡ true → b.upper k ≡ true

-- What an answer is.
pub record Good (n m : ℕ) (order : List ℕ) (b : Interval) (p : ℕ → Bool) : Type 0 where
  pub own : Own order p
  pub below : (c : ℕ) → p c ≡ true → c < 2 ^ m
  pub reaches : (k : ℕ) → k < 2 ^ n → b.lower k ≡ true → Covers n m p k
  pub stays : (k : ℕ) → k < 2 ^ n → Covers n m p k → b.upper k ≡ true

good-empty : (n m : ℕ) (order : List ℕ) (b : Interval) → holds_nowhere n b.lower ≡ true → Good n m order b empty
good-empty n m order b none = record {
  own = λ c e member. absurd (true≢false (sym member));
  below = λ c member. absurd (true≢false (sym member));
  reaches = λ k below holds. absurd (true≢false (sym holds ∙ not-true (b.lower k) (true-all_below (2 ^ n) k _ none below)));
  stays = λ k below h. absurd (true≢false (sym h.2));
}

pub base_zero : (c : ℕ) → base c ≡ true → c ≡ 0
base_zero c h = eqb-true c 0 h

good-base : (n m : ℕ) (order : List ℕ) (b : Interval) → ((k : ℕ) → k < 2 ^ n → b.upper k ≡ true) → Good n m order b base
good-base n m order b holds = record {
  own = λ c e member has. absurd (true≢false (sym has ∙ ap (λ u. bit u e) (base_zero c member) ∙ bit-zero e));
  below = λ c member. subst (λ u. u < 2 ^ m) (sym (base_zero c member)) (some m);
  reaches = λ k below lower. (0, some m, refl, λ v lt. ((λ e. absurd (true≢false (sym e ∙ bit-zero (2 * v)))), (λ e. absurd (true≢false (sym e ∙ bit-zero (2 * v + 1))))));
  stays = λ k below h. holds k below;
}
  where
    some : (m : ℕ) → 0 < 2 ^ m
    some m = let e = one-le-pow m 2 (omega arith) in omega (arith, e)

-- one step

abbrev pub half_free : ℕ → ℕ → List ℕ → Interval → Bool → Type 0
half_free n x rest b d = Free n rest (half_call b x d).lower × Free n rest (half_call b x d).upper

pub half-free : (n x : ℕ) (rest : List ℕ) (b : Interval) (d : Bool) → x < n → Free n (x ∷ rest) b.lower → Free n (x ∷ rest) b.upper → half_free n x rest b d
half-free n x rest b d within lower upper = (
  free-less n rest (cofactor b.lower x d) (cofactor b.upper x (not d)) (free-cofactor n x rest b.lower d within lower) (free-cofactor n x rest b.upper (not d) within upper),
  free-cofactor n x rest b.upper d within upper,
)

pub half-le : (n x : ℕ) (b : Interval) (d : Bool) → x < n → IsLe n b → IsLe n (half_call b x d)
half-le n x b d within le k below h = le (set_bit k x d) (set_bit-below n k x d below within) (and_parts (cofactor b.lower x d k) (not (cofactor b.upper x (not d) k)) h).0

-- what is left of a half is within the other half's upper bound: else the half's own answer covers it
left-within : (n m x : ℕ) (rest : List ℕ) (b : Interval) (d : Bool) (p : ℕ → Bool) → Good n m rest (half_call b x d) p
    → (k : ℕ) → k < 2 ^ n → less (cofactor b.lower x d) (cover_value n m p) k ≡ true → cofactor b.upper x (not d) k ≡ true
left-within n m x rest b d p good k below h = at (cofactor b.upper x (not d) k) refl
  where
    parts : (cofactor b.lower x d k ≡ true) × (not (cover_value n m p k) ≡ true)
    parts = and_parts (cofactor b.lower x d k) (not (cover_value n m p k)) h

    at : (u : Bool) → cofactor b.upper x (not d) k ≡ u → cofactor b.upper x (not d) k ≡ true
    at true is = is
    at false is = absurd (true≢false (sym (covers-value n m p k (good.reaches k below (both (cofactor b.lower x d k) (not (cofactor b.upper x (not d) k)) parts.0 (ap not is)))) ∙ not-true (cover_value n m p k) parts.1))

-- what a half of the lower bound asks is covered by the half's answer with its literal, or is left
half-reaches : (n m x : ℕ) (rest : List ℕ) (b : Interval) (d : Bool) (p : ℕ → Bool) → 2 * n ≤ m → x < n → (In x rest → ⊥) → Good n m rest (half_call b x d) p
    → (k : ℕ) → k < 2 ^ n → bit k x ≡ d → b.lower k ≡ true
    → Covers n m (change p (element x d)) k ⊎ (less (cofactor b.lower x d) (cover_value n m p) k ≡ true)
half-reaches n m x rest b d p few within out good k below is lower = at (cover_value n m p k) refl
  where
    at : (g : Bool) → cover_value n m p k ≡ g → Covers n m (change p (element x d)) k ⊎ (less (cofactor b.lower x d) (cover_value n m p) k ≡ true)
    at true g = inl (covers-changed n m k x (element x d) p (within_element n m x d few within) (lacks_element p x d (own-lacks rest p x out good.own)) (literal_fits k x d is) (value-covers n m p k g))
    at false g = inr (both (cofactor b.lower x d k) (not (cover_value n m p k)) (ap b.lower (ap (set_bit k x) (sym is) ∙ set_bit-own k x) ∙ lower) (ap not g))

half-stays : (n m x : ℕ) (rest : List ℕ) (b : Interval) (d : Bool) (p : ℕ → Bool) → 2 * n ≤ m → x < n → (In x rest → ⊥) → Good n m rest (half_call b x d) p
    → (k : ℕ) → k < 2 ^ n → Covers n m (change p (element x d)) k → b.upper k ≡ true
half-stays n m x rest b d p few within out good k below h =
    ap b.upper (sym (set_bit-own k x) ∙ ap (set_bit k x) (literal_at n h.0 k x d within h.3 has.0))
    ∙ good.stays k below (changed-covers n m k (element x d) p (within_element n m x d few within) lacks h)
  where
    lacks : (c : ℕ) → p c ≡ true → bit c (element x d) ≡ false
    lacks = lacks_element p x d (own-lacks rest p x out good.own)

    has : (bit h.0 (element x d) ≡ true) × (p (set_bit h.0 (element x d) false) ≡ true)
    has = changed-has m (element x d) p lacks h.0 h.2

half-own : (n m x : ℕ) (rest : List ℕ) (b : Interval) (d : Bool) (p : ℕ → Bool) → (In x rest → ⊥) → Good n m rest (half_call b x d) p → Own (x ∷ rest) (change p (element x d))
half-own n m x rest b d p out good c e member has = at (cases_same e (element x d))
  where
    lacks : (u : ℕ) → p u ≡ true → bit u (element x d) ≡ false
    lacks = lacks_element p x d (own-lacks rest p x out good.own)

    own_element : (d : Bool) → (element x d ≡ 2 * x) ⊎ (element x d ≡ 2 * x + 1)
    own_element true = inl refl
    own_element false = inr refl

    at : (e ≡ element x d) ⊎ (e ≢ element x d) → (v : ℕ) × In v (x ∷ rest) × ((e ≡ 2 * v) ⊎ (e ≡ 2 * v + 1))
    at (inl same) = (x, inl refl, ⊎_elim (λ a. inl (same ∙ a)) (λ a. inr (same ∙ a)) (own_element d))
    at (inr other) =
        let o = good.own (set_bit c (element x d) false) e (changed-has m (element x d) p lacks c member).1 (bit-set_other c (element x d) e false other ∙ has) in
        (o.0, inr o.1, o.2)

half-below : (n m x : ℕ) (rest : List ℕ) (b : Interval) (d : Bool) (p : ℕ → Bool) → 2 * n ≤ m → x < n → (In x rest → ⊥) → Good n m rest (half_call b x d) p
    → (c : ℕ) → change p (element x d) c ≡ true → c < 2 ^ m
half-below n m x rest b d p few within out good c member =
    subst (λ u. u < 2 ^ m) (set_bit-set_same c (element x d) false true ∙ ap (set_bit c (element x d)) (sym has.0) ∙ set_bit-own c (element x d))
    (set_bit-below m (set_bit c (element x d) false) (element x d) true (good.below (set_bit c (element x d) false) has.1) (within_element n m x d few within))
  where
    has : (bit c (element x d) ≡ true) × (p (set_bit c (element x d) false) ≡ true)
    has = changed-has m (element x d) p (lacks_element p x d (own-lacks rest p x out good.own)) c member

or_left : (a b : Bool) → a ≡ true → (a || b) ≡ true
or_left true b h = refl
or_left false b h = absurd (true≢false (sym h))

or_right : (a b : Bool) → b ≡ true → (a || b) ≡ true
or_right true b h = refl
or_right false b h = h

pub neither : (a b : Bool) → (a || b) ≡ false → (a ≡ false) × (b ≡ false)
neither true b h = absurd (true≢false h)
neither false b h = (refl, h)

same_from_differs : (a b : Bool) → differs a b ≡ false → a ≡ b
same_from_differs true true h = refl
same_from_differs true false h = absurd (true≢false h)
same_from_differs false true h = absurd (true≢false h)
same_from_differs false false h = refl

free_from_test : (n : ℕ) (f : ℕ → Bool) (x : ℕ) → depends_at n f x ≡ false → IsFreeBelow (2 ^ n) f x
free_from_test n f x none k below = at (differs (cofactor f x true k) (cofactor f x false k)) refl
  where
    at : (d : Bool) → differs (cofactor f x true k) (cofactor f x false k) ≡ d → cofactor f x true k ≡ cofactor f x false k
    at true is = absurd (true≢false (sym (any_below-true (2 ^ n) k (λ j. differs (cofactor f x true j) (cofactor f x false j)) below is) ∙ none))
    at false is = same_from_differs (cofactor f x true k) (cofactor f x false k) is

-- the answers of the three calls make an answer of the call
good-step : (n m x : ℕ) (rest : List ℕ) (b : Interval) (p0 p1 p : ℕ → Bool) → 2 * n ≤ m → x < n → (In x rest → ⊥)
    → Good n m rest (low_call b x) p0 → Good n m rest (high_call b x) p1 → Good n m rest (both_call b x (cover_value n m p0) (cover_value n m p1)) p
    → Good n m (x ∷ rest) b (union p (union (change p0 (2 * x + 1)) (change p1 (2 * x))))
good-step n m x rest b p0 p1 p few within out low high all = record {
  own = λ c e member has. ⊎_elim (λ a. let o = all.own c e a has in (o.0, inr o.1, o.2)) (λ r. ⊎_elim
      (λ a. half-own n m x rest b false p0 out low c e a has) (λ a. half-own n m x rest b true p1 out high c e a has) (or_cases (change p0 (2 * x + 1) c) (change p1 (2 * x) c) r))
      (or_cases (p c) (change p0 (2 * x + 1) c || change p1 (2 * x) c) member);
  below = λ c member. ⊎_elim (all.below c) (λ r. ⊎_elim
      (half-below n m x rest b false p0 few within out low c) (half-below n m x rest b true p1 few within out high c) (or_cases (change p0 (2 * x + 1) c) (change p1 (2 * x) c) r))
      (or_cases (p c) (change p0 (2 * x + 1) c || change p1 (2 * x) c) member);
  reaches = λ k below lower. reach k below lower (bit k x) refl;
  stays = λ k below h. ⊎_elim (λ a. middle k (all.stays k below (h.0, h.1, a, h.3)) (bit k x) refl) (λ r. ⊎_elim
      (λ a. half-stays n m x rest b false p0 few within out low k below (h.0, h.1, a, h.3)) (λ a. half-stays n m x rest b true p1 few within out high k below (h.0, h.1, a, h.3))
      (or_cases (change p0 (2 * x + 1) h.0) (change p1 (2 * x) h.0) r))
      (or_cases (p h.0) (change p0 (2 * x + 1) h.0 || change p1 (2 * x) h.0) h.2);
}
  where
    whole : ℕ → Bool
    whole = union p (union (change p0 (2 * x + 1)) (change p1 (2 * x)))

    from_all : (k : ℕ) → Covers n m p k → Covers n m (union p (union (change p0 (2 * x + 1)) (change p1 (2 * x)))) k
    from_all k h = (h.0, h.1, or_left (p h.0) (change p0 (2 * x + 1) h.0 || change p1 (2 * x) h.0) h.2, h.3)

    from_low : (k : ℕ) → Covers n m (change p0 (2 * x + 1)) k → Covers n m (union p (union (change p0 (2 * x + 1)) (change p1 (2 * x)))) k
    from_low k h = (h.0, h.1, or_right (p h.0) (change p0 (2 * x + 1) h.0 || change p1 (2 * x) h.0) (or_left (change p0 (2 * x + 1) h.0) (change p1 (2 * x) h.0) h.2), h.3)

    from_high : (k : ℕ) → Covers n m (change p1 (2 * x)) k → Covers n m (union p (union (change p0 (2 * x + 1)) (change p1 (2 * x)))) k
    from_high k h = (h.0, h.1, or_right (p h.0) (change p0 (2 * x + 1) h.0 || change p1 (2 * x) h.0) (or_right (change p0 (2 * x + 1) h.0) (change p1 (2 * x) h.0) h.2), h.3)

    left : (ℕ → Bool) × (ℕ → Bool)
    left = (left_low b x (cover_value n m p0), left_high b x (cover_value n m p1))

    reach : (k : ℕ) → k < 2 ^ n → b.lower k ≡ true → (d : Bool) → bit k x ≡ d → Covers n m (union p (union (change p0 (2 * x + 1)) (change p1 (2 * x)))) k
    reach k below lower false is = ⊎_elim (from_low k) (λ r. from_all k (all.reaches k below (or_left (left_low b x (cover_value n m p0) k) (left_high b x (cover_value n m p1) k) r)))
        (half-reaches n m x rest b false p0 few within out low k below is lower)
    reach k below lower true is = ⊎_elim (from_high k) (λ r. from_all k (all.reaches k below (or_right (left_low b x (cover_value n m p0) k) (left_high b x (cover_value n m p1) k) r)))
        (half-reaches n m x rest b true p1 few within out high k below is lower)

    middle : (k : ℕ) → conjunction (cofactor b.upper x false) (cofactor b.upper x true) k ≡ true → (d : Bool) → bit k x ≡ d → b.upper k ≡ true
    middle k h false is = ap b.upper (sym (set_bit-own k x) ∙ ap (set_bit k x) is) ∙ (and_parts (cofactor b.upper x false k) (cofactor b.upper x true k) h).0
    middle k h true is = ap b.upper (sym (set_bit-own k x) ∙ ap (set_bit k x) is) ∙ (and_parts (cofactor b.upper x false k) (cofactor b.upper x true k) h).1

-- the bounds of the third call are in order
pub both-le : (n m x : ℕ) (rest : List ℕ) (b : Interval) (p0 p1 : ℕ → Bool) → x < n → IsLe n b → Good n m rest (low_call b x) p0 → Good n m rest (high_call b x) p1
    → IsLe n (both_call b x (cover_value n m p0) (cover_value n m p1))
both-le n m x rest b p0 p1 within le low high k below h = ⊎_elim
    (λ a. both (cofactor b.upper x false k) (cofactor b.upper x true k)
    (le (set_bit k x false) (set_bit-below n k x false below within) (and_parts (cofactor b.lower x false k) (not (cover_value n m p0 k)) a).0)
    (left-within n m x rest b false p0 low k below a))
    (λ a. both (cofactor b.upper x false k) (cofactor b.upper x true k)
    (left-within n m x rest b true p1 high k below a)
    (le (set_bit k x true) (set_bit-below n k x true below within) (and_parts (cofactor b.lower x true k) (not (cover_value n m p1 k)) a).0))
    (or_cases (left_low b x (cover_value n m p0) k) (left_high b x (cover_value n m p1) k) h)

pub both-free : (n m x : ℕ) (rest : List ℕ) (b : Interval) (p0 p1 : ℕ → Bool) → x < n → Free n (x ∷ rest) b.lower → Free n (x ∷ rest) b.upper → Own rest p0 → Own rest p1
    → Free n rest (both_call b x (cover_value n m p0) (cover_value n m p1)).lower × Free n rest (both_call b x (cover_value n m p0) (cover_value n m p1)).upper
both-free n m x rest b p0 p1 within lower upper own0 own1 = (
  free-or n rest (left_low b x (cover_value n m p0)) (left_high b x (cover_value n m p1))
      (free-less n rest (cofactor b.lower x false) (cover_value n m p0) (free-cofactor n x rest b.lower false within lower) (free-cover n m rest p0 own0))
      (free-less n rest (cofactor b.lower x true) (cover_value n m p1) (free-cofactor n x rest b.lower true within lower) (free-cover n m rest p1 own1)),
  free-and n rest (cofactor b.upper x false) (cofactor b.upper x true) (free-cofactor n x rest b.upper false within upper) (free-cofactor n x rest b.upper true within upper),
)

-- an order of different variables below n
abbrev pub IsVars : ℕ → List ℕ → Type 0
IsVars n [] = Unit {0}
IsVars n (x ∷ rest) = (x < n) × (In x rest → ⊥) × IsVars n rest

pub either : (P : (ℕ → Bool) → Type 0) (b : Bool) (f g : ℕ → Bool) → (b ≡ true → P f) → (b ≡ false → P g) → P (cond b f g)
either P true f g holds fails = holds refl
either P false f g holds fails = fails refl

pub free_rest : (n x : ℕ) (rest : List ℕ) (f : ℕ → Bool) → Free n (x ∷ rest) f → depends_at n f x ≡ false → Free n rest f
free_rest n x rest f free none v lt out = at (cases_same v x)
  where
    at : (v ≡ x) ⊎ (v ≢ x) → IsFreeBelow (2 ^ n) f v
    at (inl same) = subst (λ u. IsFreeBelow (2 ^ n) f u) (sym same) (free_from_test n f x none)
    at (inr other) = free v lt (λ i. ⊎_elim other out i)

-- Morreale's answer covers between its bounds, by combinations of the literals of the order's variables.
pub good : (n m : ℕ) → 2 * n ≤ m → (order : List ℕ) → IsVars n order → (b : Interval) → Free n order b.lower → Free n order b.upper → IsLe n b → Good n m order b (morreale n m order b)
unfolding morreale
good n m few [] vars b lower upper le = either (Good n m [] b) (holds_nowhere n b.lower) empty base (good-empty n m [] b)
    (λ some. let k = false-all_below (2 ^ n) (λ j. not (b.lower j)) some in
    good-base n m [] b (λ j below. same_below n b.upper (λ v lt. upper v lt (λ i. i)) j k.0 below k.1.0 ∙ le k.0 k.1.0 (true_from_not (b.lower k.0) k.1.1)))
  where
    true_from_not : (u : Bool) → not u ≡ false → u ≡ true
    true_from_not true h = refl
    true_from_not false h = absurd (true≢false h)
good n m few (x ∷ rest) vars b lower upper le =
    let p0 = morreale n m rest (low_call b x) in
    let p1 = morreale n m rest (high_call b x) in
    let p = morreale n m rest (both_call b x (cover_value n m p0) (cover_value n m p1)) in
    let none = not (depends_at n b.lower x || depends_at n b.upper x) in
    let made = union p (union (change p0 (2 * x + 1)) (change p1 (2 * x))) in
    let free0 = half-free n x rest b false vars.0 lower upper in
    let free1 = half-free n x rest b true vars.0 lower upper in
    let g0 = good n m few rest vars.2 (low_call b x) free0.0 free0.1 (half-le n x b false vars.0 le) in
    let g1 = good n m few rest vars.2 (high_call b x) free1.0 free1.1 (half-le n x b true vars.0 le) in
    let free2 = both-free n m x rest b p0 p1 vars.0 lower upper g0.own g1.own in
    let g = good n m few rest vars.2 (both_call b x (cover_value n m p0) (cover_value n m p1)) free2.0 free2.1 (both-le n m x rest b p0 p1 vars.0 le g0 g1) in
    either (Good n m (x ∷ rest) b) (holds_nowhere n b.lower) empty (cond (holds_everywhere n b.upper) base (cond none (morreale n m rest b) made)) (good-empty n m (x ∷ rest) b) (λ _.
    either (Good n m (x ∷ rest) b) (holds_everywhere n b.upper) base (cond none (morreale n m rest b) made) (λ holds. good-base n m (x ∷ rest) b (λ k below. true-all_below (2 ^ n) k b.upper holds below)) (λ _.
    either (Good n m (x ∷ rest) b) none (morreale n m rest b) made
    (λ holds. let parts = neither (depends_at n b.lower x) (depends_at n b.upper x) (not-true (depends_at n b.lower x || depends_at n b.upper x) holds) in
    let h = good n m few rest vars.2 b (free_rest n x rest b.lower lower parts.0) (free_rest n x rest b.upper upper parts.1) le in
    record { own = λ c e member has. (let o = h.own c e member has in (o.0, inr o.1, o.2)); below = h.below; reaches = h.reaches; stays = h.stays })
    (λ _. good-step n m x rest b p0 p1 p few vars.0 vars.1 g0 g1 g)))
