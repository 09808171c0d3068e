-- Morreale's calls on the way to an irredundant cover between two functions, its answer, and the functions that it makes.
use Rattle.std.specs.Prelude.{◌≡◌, ℕ, ◌+◌, ◌*◌, ◌^◌, Bool, true, false, not, ◌&&◌, ◌||◌, List, [], ◌∷◌, if◌then◌else◌}
use Rattle.edge_bits.specs.Assignments.{bit}
use Rattle.function_laws.specs.Lists.{any_below, all_below}
use Rattle.function_laws.specs.Values.{cofactor, conjunction, disjunction, negation, differs}
use Rattle.function_laws.specs.Families.{empty, base, union, change}
use Rattle.function_laws.specs.Kinds.{Denoted, BddFunction, ZddFamily}
use Rattle.function_laws.specs.IrredundantCovers.{cover_value}

-- the two bounds of a call
pub record Interval : Type 0 where
  pub lower : ℕ → Bool
  pub upper : ℕ → Bool

abbrev pub interval : (ℕ → Bool) → (ℕ → Bool) → Interval
interval lower upper = record { lower = lower; upper = upper }

abbrev pub less : (ℕ → Bool) → (ℕ → Bool) → ℕ → Bool
less f g = conjunction f (negation g)

-- where x is 0 and where it is 1: what the other half's upper bound leaves uncovered
abbrev pub low_call : Interval → ℕ → Interval
low_call b x = interval (less (cofactor b.lower x false) (cofactor b.upper x true)) (cofactor b.upper x false)

abbrev pub high_call : Interval → ℕ → Interval
high_call b x = interval (less (cofactor b.lower x true) (cofactor b.upper x false)) (cofactor b.upper x true)

-- what the two answers' functions leave uncovered in each half
abbrev pub left_low : Interval → ℕ → (ℕ → Bool) → ℕ → Bool
left_low b x g0 = less (cofactor b.lower x false) g0

abbrev pub left_high : Interval → ℕ → (ℕ → Bool) → ℕ → Bool
left_high b x g1 = less (cofactor b.lower x true) g1

abbrev pub both_call : Interval → ℕ → (ℕ → Bool) → (ℕ → Bool) → Interval
both_call b x g0 g1 = interval (disjunction (left_low b x g0) (left_high b x g1)) (conjunction (cofactor b.upper x false) (cofactor b.upper x true))

-- neither bound depends on x, over n variables
abbrev pub depends_at : ℕ → (ℕ → Bool) → ℕ → Bool
depends_at n f x = any_below (2 ^ n) (λ k. differs (cofactor f x true k) (cofactor f x false k))

abbrev pub holds_nowhere : ℕ → (ℕ → Bool) → Bool
holds_nowhere n f = all_below (2 ^ n) (λ k. not (f k))

abbrev pub holds_everywhere : ℕ → (ℕ → Bool) → Bool
holds_everywhere n f = all_below (2 ^ n) f

-- The answer of a call that goes by the variables of an order from the top, over n variables and m elements.
unfoldable pub morreale : ℕ → ℕ → List ℕ → Interval → ℕ → Bool
morreale n m [] b = if holds_nowhere n b.lower then empty else base
morreale n m (x ∷ order) b =
    if holds_nowhere n b.lower then empty else if holds_everywhere n b.upper then base else
    if not (depends_at n b.lower x || depends_at n b.upper x) then morreale n m order b else
    let p0 = morreale n m order (low_call b x) in
    let p1 = morreale n m order (high_call b x) in
    let p = morreale n m order (both_call b x (cover_value n m p0) (cover_value n m p1)) in
    union p (union (change p0 (2 * x + 1)) (change p1 (2 * x)))

-- the call makes further calls at x
abbrev pub splits : ℕ → Interval → ℕ → Bool
splits n b x = not (holds_nowhere n b.lower) && not (holds_everywhere n b.upper) && (depends_at n b.lower x || depends_at n b.upper x)

-- each call of a call, with what is left of the order
pub data IsCall (n m : ℕ) : List ℕ → Interval → List ℕ → Interval → Type 0 where
  itself : (order : List ℕ) (b : Interval) → IsCall n m order b order b
  passes : {x : ℕ} {order rest : List ℕ} {b c : Interval} → splits n b x ≡ false → IsCall n m order b rest c → IsCall n m (x ∷ order) b rest c
  low : {x : ℕ} {order rest : List ℕ} {b c : Interval} → splits n b x ≡ true → IsCall n m order (low_call b x) rest c → IsCall n m (x ∷ order) b rest c
  high : {x : ℕ} {order rest : List ℕ} {b c : Interval} → splits n b x ≡ true → IsCall n m order (high_call b x) rest c → IsCall n m (x ∷ order) b rest c
  both : {x : ℕ} {order rest : List ℕ} {b c : Interval} → splits n b x ≡ true
      → IsCall n m order (both_call b x (cover_value n m (morreale n m order (low_call b x))) (cover_value n m (morreale n m order (high_call b x)))) rest c
      → IsCall n m (x ∷ order) b rest c

-- the functions of a call: its bounds, what is left at its topmost variable, and its answer's cover
pub data IsCallFunction (n m : ℕ) (order : List ℕ) (b : Interval) : (ℕ → Bool) → Type 0 where
  lower : {rest : List ℕ} {c : Interval} → IsCall n m order b rest c → IsCallFunction n m order b c.lower
  upper : {rest : List ℕ} {c : Interval} → IsCall n m order b rest c → IsCallFunction n m order b c.upper
  low_left : {x : ℕ} {rest : List ℕ} {c : Interval} → IsCall n m order b (x ∷ rest) c → splits n c x ≡ true → IsCallFunction n m order b (left_low c x (cover_value n m (morreale n m rest (low_call c x))))
  high_left : {x : ℕ} {rest : List ℕ} {c : Interval} → IsCall n m order b (x ∷ rest) c → splits n c x ≡ true → IsCallFunction n m order b (left_high c x (cover_value n m (morreale n m rest (high_call c x))))
  cover : {rest : List ℕ} {c : Interval} → IsCall n m order b rest c → IsCallFunction n m order b (cover_value n m (morreale n m rest c))

pub data IsCallFamily (n m : ℕ) (order : List ℕ) (b : Interval) : (ℕ → Bool) → Type 0 where
  plain : {rest : List ℕ} {c : Interval} → IsCall n m order b rest c → IsCallFamily n m order b (morreale n m rest c)
  changed : {rest : List ℕ} {c : Interval} (e : ℕ) → IsCall n m order b rest c → IsCallFamily n m order b (change (morreale n m rest c) e)

-- a literal of a variable
abbrev pub literal : ℕ → Bool → ℕ → Bool
literal v positive k = if positive then bit k v else not (bit k v)

pub data IsSimpleWork (n m : ℕ) (order : List ℕ) (b : Interval) : Denoted → Type 0 where
  function : (f : ℕ → Bool) → IsCallFunction n m order b f → IsSimpleWork n m order b (BddFunction f)
  product : (f : ℕ → Bool) (v : ℕ) (positive : Bool) → IsCallFunction n m order b f → IsSimpleWork n m order b (BddFunction (conjunction f (literal v positive)))
  family : (p : ℕ → Bool) → IsCallFamily n m order b p → IsSimpleWork n m order b (ZddFamily p)

-- the work of an `isop`: these, and the ors and unions of two of them
pub data IsWorkOfIsop (n m : ℕ) (order : List ℕ) (b : Interval) : Denoted → Type 0 where
  simple : (w : Denoted) → IsSimpleWork n m order b w → IsWorkOfIsop n m order b w
  disjoined : (f g : ℕ → Bool) → IsSimpleWork n m order b (BddFunction f) → IsSimpleWork n m order b (BddFunction g) → IsWorkOfIsop n m order b (BddFunction (disjunction f g))
  united : (p q : ℕ → Bool) → IsSimpleWork n m order b (ZddFamily p) → IsSimpleWork n m order b (ZddFamily q) → IsWorkOfIsop n m order b (ZddFamily (union p q))
