-- Composition at a top variable, and on lists of values.
use Rattle.std.proofs.Common.{◌≡◌, ◌≢◌, ℕ, ◌^◌, ◌<◌, ◌==◌, Bool, true, false, not, ◌||◌, eqb, List, [], ◌∷◌, Option, Some, None, map, refl, sym, ap, ap₂, ◌∙◌, subst, arith, eqb-true}
use Rattle.std.specs.Prelude.{find, if◌then◌else◌}
use Rattle.std.specs.List.{All, list_any}
use Rattle.std.proofs.lemmas.Bool.{and_parts, not-true}
use Rattle.std.proofs.lemmas.List.Elements.{All-head, All-tail}
use Rattle.edge_bits.specs.Assignments.{bit, set_bit}
use Rattle.edge_bits.proofs.AssignmentLemmas.{bit-set_same, bit-set_other, set_bit-below}
use Rattle.function_laws.specs.Lists.{list_of, truth}
use Rattle.function_laws.specs.Values.{IsFree, choice, cofactor, composed, composed_at_once, if_then_else, set_each}
use Rattle.function_laws.specs.Functions.{compose_of, vector_compose_of}
use Rattle.function_laws.specs.Makings.{are_distinct}
use Rattle.function_laws.proofs.ListLemmas.{length-list_of, truth-list_of, list_of-same}
use Rattle.function_laws.proofs.ValueLemmas.{everywhere, cofactor-choice_false, cofactor-choice_other, cofactor-choice_true, cofactor-free, composed-cofactors, ite-choice, IsFree-cofactor, IsFree-cofactor_other}

-- what doesn't depend on the variable stays
pub composed-free : (f g : ℕ → Bool) (v : ℕ) → IsFree f v → composed f v g ≡ f
composed-free f g v free = everywhere (composed f v g) f (λ k. free k (g k))

-- a cofactor depends on no more variables
pub IsFree-cofactor_any : (f : ℕ → Bool) (u v : ℕ) (b : Bool) → IsFree f u → IsFree (cofactor f v b) u
IsFree-cofactor_any f u v b free = by_test (eqb u v) refl
  where
    by_test : (c : Bool) → eqb u v ≡ c → IsFree (cofactor f v b) u
    by_test true t = let same : v ≡ u = grind (arith, t) in subst (λ x. IsFree (cofactor f v b) x) same (IsFree-cofactor f v b)
    by_test false t = let apart : u ≢ v = grind (arith, t) in IsFree-cofactor_other f u v b apart free

pub IsFree-composed : (f g : ℕ → Bool) (u v : ℕ) → IsFree f u → IsFree g u → IsFree (composed f v g) u
IsFree-composed f g u v free_f free_g k b = ap (λ c. f (set_bit (set_bit k u b) v c)) (free_g k b) ∙ IsFree-cofactor_any f u v (g k) free_f k b

-- the parts at another variable, and at the variable itself
pub composed-choice : (f f' g g' : ℕ → Bool) (x v : ℕ) → x ≢ v → composed (choice x f f') v (choice x g g') ≡ choice x (composed f v g) (composed f' v g')
composed-choice f f' g g' x v apart =
    composed-cofactors (choice x f f') (choice x g g') v
    ∙ ap₂ (λ a b. if_then_else (choice x g g') a b) (cofactor-choice_other f f' x v true apart) (cofactor-choice_other f f' x v false apart)
    ∙ ite-choice g g' (cofactor f v true) (cofactor f' v true) (cofactor f v false) (cofactor f' v false) x
    ∙ ap₂ (λ a b. choice x a b) (sym (composed-cofactors f g v)) (sym (composed-cofactors f' g' v))

pub composed-own : (f f' g : ℕ → Bool) (v : ℕ) → IsFree f v → IsFree f' v → composed (choice v f f') v g ≡ if_then_else g f f'
composed-own f f' g v first second =
    composed-cofactors (choice v f f') g v
    ∙ ap₂ (λ a b. if_then_else g a b) (cofactor-choice_true f f' v ∙ cofactor-free f v true first) (cofactor-choice_false f f' v ∙ cofactor-free f' v false second)

pub compose_of-list_of : (n v : ℕ) (f g : ℕ → Bool) → v < n → compose_of (list_of (2 ^ n) f) v (list_of (2 ^ n) g) ≡ list_of (2 ^ n) (composed f v g)
compose_of-list_of n v f g within =
    ap (λ size. list_of size (composed (truth (list_of (2 ^ n) f)) v (truth (list_of (2 ^ n) g)))) (length-list_of (2 ^ n) f)
    ∙ list_of-same (2 ^ n) (composed (truth (list_of (2 ^ n) f)) v (truth (list_of (2 ^ n) g))) (composed f v g) (λ k below.
    ap (λ b. truth (list_of (2 ^ n) f) (set_bit k v b)) (truth-list_of (2 ^ n) k g below)
    ∙ truth-list_of (2 ^ n) (set_bit k v (g k)) f (set_bit-below n k v (g k) below within))

-- all at once
abbrev pub Pairs : Type 0
Pairs = List (ℕ × (ℕ → Bool))

-- a function that depends on none of the variables stays
free_at : (f : ℕ → Bool) (pairs : Pairs) (k from : ℕ) → All (λ pair. IsFree f pair.0) pairs → f (set_each pairs k from) ≡ f from
unfolding set_each
free_at f [] k from free = refl
free_at f (pair ∷ pairs) k from free =
    free_at f pairs k (set_bit from pair.0 (pair.1 k)) (All-tail (λ pair. IsFree f pair.0) pair pairs free)
    ∙ All-head (λ pair. IsFree f pair.0) pair pairs free from (pair.1 k)

pub composed_at_once-free : (f : ℕ → Bool) (pairs : Pairs) → All (λ pair. IsFree f pair.0) pairs → composed_at_once f pairs ≡ f
composed_at_once-free f pairs free = everywhere (composed_at_once f pairs) f (λ k. free_at f pairs k k free)

-- the function that is put for a variable; of one for which none is put its projection
abbrev pub value_or : Option (ℕ × (ℕ → Bool)) → ℕ → Bool → Bool
value_or (Some pair) k b = pair.1 k
value_or None k b = b

abbrev pub image : Pairs → ℕ → ℕ → Bool
image pairs x k = value_or (find (λ pair. pair.0 == x) pairs) k (bit k x)

-- its value is the variable's in the assignment at which a composition takes its function
neither : (a b : Bool) → (a || b) ≡ false → (a ≡ false) × (b ≡ false)
neither true b e = cc
neither false b e = (refl, e)

not_among : (pairs : Pairs) (x : ℕ) → list_any (λ u. u == x) (map (λ pair. pair.0) pairs) ≡ false → find (λ pair. pair.0 == x) pairs ≡ None
not_among [] x none = refl
not_among (pair ∷ pairs) x none =
    let parts = neither (pair.0 == x) (list_any (λ u. u == x) (map (λ pair. pair.0) pairs)) none in
    ap (λ c. if c then Some pair else find (λ pair. pair.0 == x) pairs) parts.0 ∙ not_among pairs x parts.1

-- where the pair is the variable's, and where it isn't
own_bit : (pair : ℕ × (ℕ → Bool)) (pairs : Pairs) (k from x : ℕ) → pair.0 ≡ x → list_any (λ u. u == pair.0) (map (λ pair. pair.0) pairs) ≡ false
    → value_or (find (λ pair. pair.0 == x) pairs) k (bit (set_bit from pair.0 (pair.1 k)) x) ≡ pair.1 k
own_bit pair pairs k from x same none =
    ap (λ o. value_or o k (bit (set_bit from pair.0 (pair.1 k)) x)) (not_among pairs x (subst (λ y. list_any (λ u. u == y) (map (λ pair. pair.0) pairs) ≡ false) same none))
    ∙ subst (λ y. bit (set_bit from pair.0 (pair.1 k)) y ≡ pair.1 k) same (bit-set_same from pair.0 (pair.1 k))

first_bit : (pair : ℕ × (ℕ → Bool)) (pairs : Pairs) (k from x : ℕ) (c : Bool) → (pair.0 == x) ≡ c → list_any (λ u. u == pair.0) (map (λ pair. pair.0) pairs) ≡ false
    → value_or (find (λ pair. pair.0 == x) pairs) k (bit (set_bit from pair.0 (pair.1 k)) x) ≡ value_or (if c then Some pair else find (λ pair. pair.0 == x) pairs) k (bit from x)
first_bit pair pairs k from x true t none = own_bit pair pairs k from x (eqb-true pair.0 x t) none
first_bit pair pairs k from x false t none =
    let apart : x ≢ pair.0 = grind (arith, t) in ap (λ b. value_or (find (λ pair. pair.0 == x) pairs) k b) (bit-set_other from pair.0 x (pair.1 k) apart)

set_each-bit : (pairs : Pairs) (k from x : ℕ) → are_distinct (map (λ pair. pair.0) pairs) ≡ true
    → bit (set_each pairs k from) x ≡ value_or (find (λ pair. pair.0 == x) pairs) k (bit from x)
unfolding set_each
set_each-bit [] k from x distinct = refl
set_each-bit (pair ∷ pairs) k from x distinct =
    let both = and_parts (not (list_any (λ u. u == pair.0) (map (λ pair. pair.0) pairs))) (are_distinct (map (λ pair. pair.0) pairs)) distinct in
    set_each-bit pairs k (set_bit from pair.0 (pair.1 k)) x both.1
    ∙ first_bit pair pairs k from x (pair.0 == x) refl (not-true (list_any (λ u. u == pair.0) (map (λ pair. pair.0) pairs)) both.0)

pub set_each-image : (pairs : Pairs) (x : ℕ) → are_distinct (map (λ pair. pair.0) pairs) ≡ true → (λ k. bit (set_each pairs k k) x) ≡ image pairs x
set_each-image pairs x distinct = everywhere (λ k. bit (set_each pairs k k) x) (image pairs x) (λ k. set_each-bit pairs k k x distinct)

-- the parts at a variable
pub composed_at_once-choice : (f f' : ℕ → Bool) (pairs : Pairs) (x : ℕ) → are_distinct (map (λ pair. pair.0) pairs) ≡ true
    → composed_at_once (choice x f f') pairs ≡ if_then_else (image pairs x) (composed_at_once f pairs) (composed_at_once f' pairs)
composed_at_once-choice f f' pairs x distinct = ap (λ h. if_then_else h (composed_at_once f pairs) (composed_at_once f' pairs)) (set_each-image pairs x distinct)

-- on lists of values
abbrev pub listed : ℕ → ℕ × (ℕ → Bool) → ℕ × List Bool
listed size pair = (pair.0, list_of size pair.1)

set_each-listed : (n : ℕ) (pairs : Pairs) (k from : ℕ) → k < 2 ^ n
    → set_each (map (λ pair. (pair.0, truth pair.1)) (map (listed (2 ^ n)) pairs)) k from ≡ set_each pairs k from
unfolding set_each
set_each-listed n [] k from below = refl
set_each-listed n (pair ∷ pairs) k from below =
    set_each-listed n pairs k (set_bit from pair.0 (truth (list_of (2 ^ n) pair.1) k)) below
    ∙ ap (λ b. set_each pairs k (set_bit from pair.0 b)) (truth-list_of (2 ^ n) k pair.1 below)

set_each-below : (n : ℕ) (pairs : Pairs) (k from : ℕ) → All (λ pair. pair.0 < n) pairs → from < 2 ^ n → set_each pairs k from < 2 ^ n
unfolding set_each
set_each-below n [] k from within below = below
set_each-below n (pair ∷ pairs) k from within below =
    set_each-below n pairs k (set_bit from pair.0 (pair.1 k)) (All-tail (λ pair. pair.0 < n) pair pairs within)
    (set_bit-below n from pair.0 (pair.1 k) below (All-head (λ pair. pair.0 < n) pair pairs within))

pub vector_compose_of-list_of : (n : ℕ) (f : ℕ → Bool) (pairs : Pairs) → All (λ pair. pair.0 < n) pairs
    → vector_compose_of (list_of (2 ^ n) f) (map (listed (2 ^ n)) pairs) ≡ list_of (2 ^ n) (composed_at_once f pairs)
vector_compose_of-list_of n f pairs within =
    ap (λ size. list_of size (composed_at_once (truth (list_of (2 ^ n) f)) (map (λ pair. (pair.0, truth pair.1)) (map (listed (2 ^ n)) pairs)))) (length-list_of (2 ^ n) f)
    ∙ list_of-same (2 ^ n) (composed_at_once (truth (list_of (2 ^ n) f)) (map (λ pair. (pair.0, truth pair.1)) (map (listed (2 ^ n)) pairs))) (composed_at_once f pairs) (λ k below.
    ap (truth (list_of (2 ^ n) f)) (set_each-listed n pairs k k below)
    ∙ truth-list_of (2 ^ n) (set_each pairs k k) f (set_each-below n pairs k k within below))
