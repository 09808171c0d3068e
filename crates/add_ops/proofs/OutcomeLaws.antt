-- What comes of the calls on ADDs, by what their names stand for.
use Rattle.std.proofs.Common.{arith, Bool, ◌<◌, not, true, false, ◌≡◌, ℕ, ◌^◌, cond, length, Option, Some, ap, ap₂, ◌∙◌, pos, ℤ, ◌+ℤ◌, int_le}
use Rattle.std.proofs.lemmas.Bool.{lt-ltb}
use Rattle.edge_bits.specs.declared.edges.Edge.{Edge}
use Rattle.edge_bits.specs.declared.edges.Kind.TheVariants as kinds
use Rattle.edge_bits.specs.Words.{IsLeafValue}
use Rattle.edge_bits.specs.Assignments.{set_bit}
use Rattle.edge_bits.proofs.AssignmentLemmas.{set_bit-below}
use Rattle.function_laws.specs.declared.history.Name.{Name}
use Rattle.function_laws.specs.declared.history.Call.TheVariants.{Makes}
use Rattle.function_laws.specs.declared.making.Making.TheVariants as makings
use Rattle.function_laws.specs.declared.making.BddMaking.TheVariants as bdds
use Rattle.function_laws.specs.declared.making.AddMaking.TheVariants as adds
use Rattle.function_laws.specs.declared.making.ExactMaking.TheVariants as exacts
use Rattle.function_laws.specs.declared.history.Function.{Function}
use Rattle.function_laws.specs.declared.history.Function.TheVariants.{Add, Bdd}
use Rattle.function_laws.specs.Lists.{list_of, truth, whole}
use Rattle.function_laws.specs.Values.{IsOf, cofactor, constant, if_then_else}
use Rattle.function_laws.specs.Numbers.{at_least, exactly, from_truth, is_zero, pattern, sum_over}
use Rattle.function_laws.specs.Functions.{add_ite_of, at_least_of, from_bdd_of, pattern_of, sum_of}
use Rattle.function_laws.specs.Outcomes.{in_range, makes, as_add, as_bdd, when, with_one, with_two, with_three}
use Rattle.function_laws.specs.Steps.{outcome_of}
use Rattle.function_laws.specs.Tables.{Sizes}
use Rattle.function_laws.proofs.ListLemmas.{length-list_of, list_of-same, truth-list_of, whole-list_of}
use Rattle.function_laws.proofs.NumberLemmas.{is_value-true}
use Rattle.function_laws.proofs.ValueLemmas.{IsFree-cofactor_other}
use Rattle.node_store.specs.Listed.{listed_at}
use Rattle.node_store.specs.Views.{View, add_at, bdd_at}
use Rattle.node_store.proofs.ListedLaws.{one_listed, two_listed}

ite_listed : (size : ℕ) (f : ℕ → Bool) (g h : ℕ → ℤ) → add_ite_of (list_of size f) (list_of size g) (list_of size h) ≡ list_of size (if_then_else f g h)
ite_listed size f g h =
    ap (λ n. list_of n (if_then_else (truth (list_of size f)) (whole (list_of size g)) (whole (list_of size h)))) (length-list_of size g)
    ∙ list_of-same size (if_then_else (truth (list_of size f)) (whole (list_of size g)) (whole (list_of size h))) (if_then_else f g h)
    (λ k below. ap₂ (λ b x. cond b x (whole (list_of size h) k)) (truth-list_of size k f below) (whole-list_of size k g below)
    ∙ ap (cond (f k) (g k)) (whole-list_of size k h below))

-- the sum of both cofactors
sum_listed : (n v : ℕ) (f : ℕ → ℤ) → v < n → list_of (length (list_of (2 ^ n) f)) (sum_over (whole (list_of (2 ^ n) f)) v) ≡ list_of (2 ^ n) (sum_over f v)
sum_listed n v f within =
    ap (λ size. list_of size (sum_over (whole (list_of (2 ^ n) f)) v)) (length-list_of (2 ^ n) f)
    ∙ list_of-same (2 ^ n) (sum_over (whole (list_of (2 ^ n) f)) v) (sum_over f v)
    (λ k below. ap₂ (λ x y. x +ℤ y) (whole-list_of (2 ^ n) (set_bit k v true) f (set_bit-below n k v true below within))
    (whole-list_of (2 ^ n) (set_bit k v false) f (set_bit-below n k v false below within)))

-- a function of two functions of the first n variables is one of them
pub IsOf-place : {X Y Z : Type 0} (op : X → Y → Z) (n : ℕ) (f : ℕ → X) (g : ℕ → Y) → IsOf n f → IsOf n g → IsOf n (λ k. op (f k) (g k))
IsOf-place op n f g of_f of_g v from k b = ap₂ op (of_f v from k b) (of_g v from k b)

pub IsOf-sum : (n v : ℕ) (f : ℕ → ℤ) → v < n → IsOf n f → IsOf n (sum_over f v)
IsOf-sum n v f within of_f = IsOf-place (λ x y. x +ℤ y) n (cofactor f v true) (cofactor f v false) (part true) (part false)
  where
    part : (b : Bool) → IsOf n (cofactor f v b)
    part b u from = IsFree-cofactor_other f u v b (omega (arith, from, within)) (of_f u from)

module _ (w : View) (z : Sizes) (cells : ℕ → Option Function) (live : Name → Option Function) where
  pub outcome-constant : z.variables ≡ w.vars → (x : ℤ) → IsLeafValue x → outcome_of z cells live (Makes (makings.Add (adds.Constant x))) ≡ Some (makes (Add (list_of (2 ^ w.vars) (constant x))))
  outcome-constant vars x fits = ap₂ (λ c n. when c (Some (makes (Add (list_of (2 ^ n) (constant x)))))) (is_value-true x fits.0 fits.1) vars

  pub outcome-from_bdd : (a : Name) (e : Edge) → live a ≡ Some (listed_at kinds.Bdd w e) → outcome_of z cells live (Makes (makings.Add (adds.FromBdd a))) ≡ Some (makes (Add (list_of (2 ^ w.vars) (from_truth (bdd_at w e)))))
  outcome-from_bdd a e stands =
      ap (λ x. with_one (as_bdd x) (λ f. makes (Add (from_bdd_of f)))) stands
      ∙ ap (λ f. Some (makes (Add f))) (one_listed (λ b. cond b (pos 1) (pos 0)) false (2 ^ w.vars) (bdd_at w e))

  pub outcome-add_ite : (a b c : Name) (e d i : Edge) → live a ≡ Some (listed_at kinds.Bdd w e) → live b ≡ Some (listed_at kinds.Add w d) → live c ≡ Some (listed_at kinds.Add w i)
      → outcome_of z cells live (Makes (makings.Add (adds.AddIte a b c))) ≡ Some (makes (Add (list_of (2 ^ w.vars) (if_then_else (bdd_at w e) (add_at w d) (add_at w i)))))
  outcome-add_ite a b c e d i first second third =
      ap₂ (λ x y. with_three (as_bdd x) (as_add y) (as_add (live c)) (λ f g h. makes (Add (add_ite_of f g h)))) first second
      ∙ ap (λ x. with_three (Some (list_of (2 ^ w.vars) (bdd_at w e))) (Some (list_of (2 ^ w.vars) (add_at w d))) (as_add x) (λ f g h. makes (Add (add_ite_of f g h)))) third
      ∙ ap (λ f. Some (makes (Add f))) (ite_listed (2 ^ w.vars) (bdd_at w e) (add_at w d) (add_at w i))

  module _ (a : Name) (e : Edge) (stands : live a ≡ Some (listed_at kinds.Add w e)) where
    pub outcome-sum_over : z.variables ≡ w.vars → (v : ℕ) → v < w.vars → outcome_of z cells live (Makes (makings.Exact (exacts.SumOver a v))) ≡ Some (in_range (exactly (list_of (2 ^ w.vars) (sum_over (add_at w e) v))))
    outcome-sum_over vars v within =
        ap₂ (λ c x. when c (with_one (as_add x) (λ f. in_range (sum_of f v)))) (lt-ltb v z.variables (omega (arith, within, vars))) stands
        ∙ ap (λ f. Some (in_range (exactly f))) (sum_listed w.vars v (add_at w e) within)

    pub outcome-at_least : (x : ℤ) → outcome_of z cells live (Makes (makings.Bdd (bdds.AtLeast a x))) ≡ Some (makes (Bdd (list_of (2 ^ w.vars) (at_least (add_at w e) x))))
    outcome-at_least x =
        ap (λ y. with_one (as_add y) (λ f. makes (Bdd (at_least_of f x)))) stands ∙ ap (λ f. Some (makes (Bdd f))) (one_listed (int_le x) (pos 0) (2 ^ w.vars) (add_at w e))

    pub outcome-pattern : outcome_of z cells live (Makes (makings.Bdd (bdds.Pattern a))) ≡ Some (makes (Bdd (list_of (2 ^ w.vars) (pattern (add_at w e)))))
    outcome-pattern =
        ap (λ x. with_one (as_add x) (λ f. makes (Bdd (pattern_of f)))) stands ∙ ap (λ f. Some (makes (Bdd f))) (one_listed (λ x. not (is_zero x)) (pos 0) (2 ^ w.vars) (add_at w e))

  module _ (a b : Name) (e d : Edge) (first : live a ≡ Some (listed_at kinds.Add w e)) (second : live b ≡ Some (listed_at kinds.Add w d)) where
    -- what an operation gives, place by place, and what one gives whose values may be out of range
    pub outcome-placed : (op : ℤ → ℤ → ℤ) → with_two (as_add (live a)) (as_add (live b)) (λ f g. makes (Add (list_of (length f) (λ k. op (whole f k) (whole g k)))))
        ≡ Some (makes (Add (list_of (2 ^ w.vars) (λ k. op (add_at w e k) (add_at w d k)))))
    outcome-placed op =
        ap₂ (λ x y. with_two (as_add x) (as_add y) (λ f g. makes (Add (list_of (length f) (λ k. op (whole f k) (whole g k)))))) first second
        ∙ ap (λ f. Some (makes (Add f))) (two_listed op (pos 0) (pos 0) (2 ^ w.vars) (add_at w e) (add_at w d))

    pub outcome-exact : (op : ℤ → ℤ → ℤ) → with_two (as_add (live a)) (as_add (live b)) (λ f g. in_range (exactly (list_of (length f) (λ k. op (whole f k) (whole g k)))))
        ≡ Some (in_range (exactly (list_of (2 ^ w.vars) (λ k. op (add_at w e k) (add_at w d k)))))
    outcome-exact op =
        ap₂ (λ x y. with_two (as_add x) (as_add y) (λ f g. in_range (exactly (list_of (length f) (λ k. op (whole f k) (whole g k)))))) first second
        ∙ ap (λ f. Some (in_range (exactly f))) (two_listed op (pos 0) (pos 0) (2 ^ w.vars) (add_at w e) (add_at w d))
