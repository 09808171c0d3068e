-- The topmost variable of a function: the first of the order on which it depends.
use Rattle.std.proofs.Common.{◌≡◌, ℕ, ◌^◌, ◌<◌, inl, inr, Bool, true, false, not, ◌&&◌, cond, List, [], ◌∷◌, length, Some, None, ℤ, refl, sym, ap, ◌∙◌, arith}
use Rattle.std.specs.Ordering.{int_eq}
use Rattle.std.proofs.lemmas.Bool.Decides.{Decides-int_eq}
use Rattle.edge_bits.specs.Assignments.{bit}
use Rattle.function_laws.specs.Values.{cofactor, negation, differs, IsOf}
use Rattle.function_laws.specs.Families.{subset0}
use Rattle.function_laws.proofs.ListLemmas.{any_below-true, true-any_below, any_below-same}
use Rattle.function_laws.proofs.ValueLemmas.{IsFree-same_cofactors, IsFree-cofactor_other}
use Rattle.function_laws.proofs.WidthLemmas.{same_everywhere}
use Rattle.function_laws.specs.Kinds.{Denoted, BddFunction, AddFunction, ZddFamily, opposite}
use Rattle.function_laws.specs.declared.orders.Order.{Order}
use Rattle.function_laws.specs.declared.orders.Order.TheVariants.{Variables, Elements}
use Rattle.function_laws.specs.Sizes.{Orders, order_of, depends_on, topmost, in_order}
use Rattle.function_laws.proofs.DistinctLemmas.{In}
use Rattle.function_laws.proofs.LackingParts.{Free}
use Rattle.function_laws.proofs.PartLaws.{Above}
use Rattle.function_laws.proofs.OneFunctions.{IsWithin, same_family}

-- the order in which the function's kind stands
abbrev pub which_of : Denoted → Order
which_of (BddFunction f) = Variables
which_of (AddFunction f) = Variables
which_of (ZddFamily p) = Elements

pub order_of-which : (o : Orders) (f : Denoted) → in_order o (which_of f) ≡ order_of o f
order_of-which o (BddFunction f) = refl
order_of-which o (AddFunction f) = refl
order_of-which o (ZddFamily f) = refl

not_true : (b : Bool) → (b ≡ true → ⊥) → b ≡ false
not_true true h = absurd (h refl)
not_true false h = refl

differs_same : (a : Bool) → differs a a ≡ true → ⊥
differs_same true h = let c : false ≡ true = h in cc
differs_same false h = let c : false ≡ true = h in cc

not_differs : (a b : Bool) → (differs a b ≡ true → ⊥) → a ≡ b
not_differs true true h = refl
not_differs true false h = absurd (h refl)
not_differs false true h = absurd (h refl)
not_differs false false h = refl

numbers_same : (a b : ℤ) → a ≡ b → not (int_eq a b) ≡ true → ⊥
numbers_same a b e h = let s = (Decides-int_eq a b).1 e in let c : not true ≡ true = ap not (sym s) ∙ h in never c
  where
    never : false ≡ true → ⊥
    never e = cc

numbers_apart : (a b : ℤ) → (not (int_eq a b) ≡ true → ⊥) → a ≡ b
numbers_apart a b h = (Decides-int_eq a b).0 (back (int_eq a b) h)
  where
    back : (x : Bool) → (not x ≡ true → ⊥) → x ≡ true
    back true h = refl
    back false h = absurd (h refl)

member_bit : (b c : Bool) → (b && c) ≡ true → (b ≡ true) × (c ≡ true)
member_bit true c h = (refl, h)
member_bit false c h = cc

keeps_member : (b c : Bool) → ((b && c) ≡ true → ⊥) → c ≡ (not b && c)
keeps_member true true h = absurd (h refl)
keeps_member true false h = refl
keeps_member false c h = refl

-- a function that lacks the variable doesn't depend on it
pub free-depends : (o : Orders) (f : Denoted) (v : ℕ) → Free f v → depends_on o (which_of f) f v ≡ false
free-depends o (BddFunction f) v free =
    not_true (depends_on o Variables (BddFunction f) v) (λ h.
    let t = true-any_below (2 ^ length o.variables) (λ k. differs (cofactor f v true k) (cofactor f v false k)) h in
    differs_same (f t.0) (ap (λ x. differs x (f t.0)) (sym (free t.0 true)) ∙ ap (differs (cofactor f v true t.0)) (sym (free t.0 false)) ∙ t.1.1))
free-depends o (AddFunction f) v free =
    not_true (depends_on o Variables (AddFunction f) v) (λ h.
    let t = true-any_below (2 ^ length o.variables) (λ k. not (int_eq (cofactor f v true k) (cofactor f v false k))) h in
    numbers_same (cofactor f v true t.0) (cofactor f v false t.0) (free t.0 true ∙ sym (free t.0 false)) t.1.1)
free-depends o (ZddFamily p) v free =
    not_true (depends_on o Elements (ZddFamily p) v) (λ h.
    let t = true-any_below (2 ^ length o.elements) (λ a. bit a v && p a) h in
    let m = member_bit (bit t.0 v) (p t.0) t.1.1 in
    let c : true ≡ false = sym m.1 ∙ free t.0 m.0 in never c)
  where
    never : true ≡ false → ⊥
    never e = cc

of_cofactor : {X : Type 0} (n : ℕ) (f : ℕ → X) (v : ℕ) (b : Bool) → v < n → IsOf n f → IsOf n (cofactor f v b)
of_cofactor n f v b lt h u le = IsFree-cofactor_other f u v b (λ e. omega arith) (h u le)

-- and one that doesn't depend on it lacks it
pub depends-free : (o : Orders) (f : Denoted) (v : ℕ) → IsWithin o f → v < length (in_order o (which_of f)) → depends_on o (which_of f) f v ≡ false → Free f v
depends-free o (BddFunction f) v within lt none =
    IsFree-same_cofactors f v (same_everywhere (length o.variables) (cofactor f v true) (cofactor f v false) (of_cofactor (length o.variables) f v true lt within) (of_cofactor (length o.variables) f v false lt within)
    (λ k below. not_differs (cofactor f v true k) (cofactor f v false k) (λ h.
    let t = any_below-true (2 ^ length o.variables) k (λ k. differs (cofactor f v true k) (cofactor f v false k)) below h in
    let c : true ≡ false = sym t ∙ none in cc)))
depends-free o (AddFunction f) v within lt none =
    IsFree-same_cofactors f v (same_everywhere (length o.variables) (cofactor f v true) (cofactor f v false) (of_cofactor (length o.variables) f v true lt within) (of_cofactor (length o.variables) f v false lt within)
    (λ k below. numbers_apart (cofactor f v true k) (cofactor f v false k) (λ h.
    let t = any_below-true (2 ^ length o.variables) k (λ k. not (int_eq (cofactor f v true k) (cofactor f v false k))) below h in
    let c : true ≡ false = sym t ∙ none in cc)))
depends-free o (ZddFamily p) v within lt none =
    let same : p ≡ subset0 p v = same_family (length o.elements) p (subset0 p v) within (λ e le a has. and_false (not (bit a v)) (p a) (within e le a has))
    (λ a below. keeps_member (bit a v) (p a) (λ h.
    let t = any_below-true (2 ^ length o.elements) a (λ a. bit a v && p a) below h in
    let c : true ≡ false = sym t ∙ none in cc)) in
    λ a has. ap (λ (q : ℕ → Bool). q a) same ∙ ap (λ b. not b && p a) has
  where
    and_false : (a b : Bool) → b ≡ false → (a && b) ≡ false
    and_false true b h = h
    and_false false b h = refl

-- where it depends on v, and lacks all before it, that is its topmost one
pub topmost_is : (o : Orders) (f : Denoted) (v : ℕ) (order : List ℕ) → depends_on o (which_of f) f v ≡ true → In v order → Above Free order v f → topmost o (which_of f) order f ≡ Some v
unfolding topmost
topmost_is o f v [] d i above = absurd i
topmost_is o f v (u ∷ us) d i (inl same) =
    ap (λ b. cond b (Some u) (topmost o (which_of f) us f)) (ap (depends_on o (which_of f) f) same ∙ d) ∙ ap Some same
topmost_is o f v (u ∷ us) d (inl same) (inr (free, rest)) =
    let c : true ≡ false = sym d ∙ ap (depends_on o (which_of f) f) same ∙ free-depends o f u free in cc
topmost_is o f v (u ∷ us) d (inr i) (inr (free, rest)) =
    ap (λ b. cond b (Some u) (topmost o (which_of f) us f)) (free-depends o f u free) ∙ topmost_is o f v us d i rest

pub topmost_none : (o : Orders) (f : Denoted) (order : List ℕ) → ((v : ℕ) → Free f v) → topmost o (which_of f) order f ≡ None
unfolding topmost
topmost_none o f [] free = refl
topmost_none o f (u ∷ us) free = ap (λ b. cond b (Some u) (topmost o (which_of f) us f)) (free-depends o f u (free u)) ∙ topmost_none o f us free

-- in the other order it depends on nothing
abbrev pub other : Order → Order
other Variables = Elements
other Elements = Variables

pub topmost_other : (o : Orders) (f : Denoted) (order : List ℕ) → topmost o (other (which_of f)) order f ≡ None
unfolding topmost
topmost_other o f [] = refl
topmost_other o f (u ∷ us) = ap (λ b. cond b (Some u) (topmost o (other (which_of f)) us f)) (never o f u) ∙ topmost_other o f us
  where
    never : (o : Orders) (f : Denoted) (u : ℕ) → depends_on o (other (which_of f)) f u ≡ false
    never o (BddFunction f) u = refl
    never o (AddFunction f) u = refl
    never o (ZddFamily f) u = refl

not_differs_not : (a b : Bool) → differs (not a) (not b) ≡ differs a b
not_differs_not true true = refl
not_differs_not true false = refl
not_differs_not false true = refl
not_differs_not false false = refl

pub depends_opposite : (o : Orders) (which : Order) (f : Denoted) (u : ℕ) → depends_on o which (opposite f) u ≡ depends_on o which f u
depends_opposite o Variables (BddFunction f) u =
    any_below-same (2 ^ length o.variables) (λ k. differs (cofactor (negation f) u true k) (cofactor (negation f) u false k)) (λ k. differs (cofactor f u true k) (cofactor f u false k))
    (λ k lt. not_differs_not (cofactor f u true k) (cofactor f u false k))
depends_opposite o Elements (BddFunction f) u = refl
depends_opposite o which (AddFunction f) u = refl
depends_opposite o which (ZddFamily f) u = refl

-- a function and its opposite have one topmost variable
pub topmost_opposite : (o : Orders) (which : Order) (f : Denoted) (order : List ℕ) → topmost o which order (opposite f) ≡ topmost o which order f
unfolding topmost
topmost_opposite o which f [] = refl
topmost_opposite o which f (u ∷ us) =
    ap (λ b. cond b (Some u) (topmost o which us (opposite f))) (depends_opposite o which f u) ∙ ap (cond (depends_on o which f u) (Some u)) (topmost_opposite o which f us)
