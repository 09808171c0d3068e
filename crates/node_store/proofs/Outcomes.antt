-- What comes of the questions that are asked of functions of any kind, by what their names stand for.
use Rattle.std.proofs.Common.{◌≡◌, ℕ, ◌<◌, ◌^◌, Bool, true, List, length, Option, Some, option_and_then, refl, ap, ap₂, ◌∙◌, arith, subst, pos, take_all}
use Rattle.edge_bits.specs.declared.edges.Edge.{Edge}
use Rattle.edge_bits.specs.declared.edges.Kind.{Kind}
use Rattle.edge_bits.specs.declared.edges.Kind.TheVariants as kinds
use Rattle.edge_bits.specs.Words.{digit}
use Rattle.function_laws.specs.declared.history.Name.{Name}
use Rattle.function_laws.specs.declared.history.Call.TheVariants.{Same, Eval}
use Rattle.function_laws.specs.declared.history.Function.{Function}
use Rattle.function_laws.specs.Kinds.{ValueOf}
use Rattle.function_laws.specs.Lists.{list_of, truth, whole}
use Rattle.function_laws.specs.Outcomes.{compares, shows, when, with_one}
use Rattle.function_laws.specs.Steps.{outcome_of, same_kind, value_at}
use Rattle.function_laws.specs.Tables.{Sizes}
use Rattle.function_laws.specs.Values.{assignment_of}
use Rattle.function_laws.proofs.BitLists.{assignment_of-below}
use Rattle.function_laws.proofs.ListLemmas.{truth-list_of, whole-list_of}
use Rattle.node_store.specs.Listed.{listed, listed_at, number_of}
use Rattle.node_store.specs.Views.{View, levels, values_at}

-- two functions of one kind
kind_with_itself : (k : Kind) (w : View) (f g : ℕ → ValueOf k) → same_kind (listed k w f) (listed k w g) ≡ true
kind_with_itself kinds.Bdd w f g = refl
kind_with_itself kinds.Add w f g = refl
kind_with_itself kinds.Zdd w f g = refl

pub outcome-same : (w : View) (z : Sizes) (cells : ℕ → Option Function) (live : Name → Option Function) (k : Kind) (a b : Name) (e d : Edge)
    → live a ≡ Some (listed_at k w e) → live b ≡ Some (listed_at k w d) → outcome_of z cells live (Same a b) ≡ Some (compares (listed_at k w e) (listed_at k w d))
outcome-same w z cells live k a b e d first second =
    ap₂ (λ x y. option_and_then (λ f. option_and_then (λ g. when (same_kind f g) (Some (compares f g))) y) x) first second
    ∙ ap (λ c. when c (Some (compares (listed_at k w e) (listed_at k w d)))) (kind_with_itself k w (values_at k w e) (values_at k w d))

-- the value of a list at the bits
pub value-listed : (w : View) (z : Sizes) → z.variables ≡ w.vars → z.elements ≡ w.elements → (k : Kind) (e : Edge) (bits : List Bool) → length bits ≡ levels k w
    → value_at z (listed_at k w e) bits ≡ number_of k (values_at k w e (assignment_of bits))
value-listed w z vars elements k e bits long = by_kind k long
  where
    below : (m : ℕ) → length bits ≡ m → assignment_of bits < 2 ^ m
    below m long = subst (λ n. assignment_of bits < 2 ^ n) long (assignment_of-below bits)

    by_kind : (k : Kind) → length bits ≡ levels k w → value_at z (listed_at k w e) bits ≡ number_of k (values_at k w e (assignment_of bits))
    by_kind kinds.Bdd long =
        ap (λ bs. pos (digit (truth (list_of (2 ^ w.vars) (values_at kinds.Bdd w e)) (assignment_of bs)))) (take_all z.variables bits (omega (arith, vars, long)))
        ∙ ap (λ b. pos (digit b)) (truth-list_of (2 ^ w.vars) (assignment_of bits) (values_at kinds.Bdd w e) (below w.vars long))
    by_kind kinds.Add long =
        ap (λ bs. whole (list_of (2 ^ w.vars) (values_at kinds.Add w e)) (assignment_of bs)) (take_all z.variables bits (omega (arith, vars, long)))
        ∙ whole-list_of (2 ^ w.vars) (assignment_of bits) (values_at kinds.Add w e) (below w.vars long)
    by_kind kinds.Zdd long =
        ap (λ bs. pos (digit (truth (list_of (2 ^ w.elements) (values_at kinds.Zdd w e)) (assignment_of bs)))) (take_all z.elements bits (omega (arith, elements, long)))
        ∙ ap (λ b. pos (digit b)) (truth-list_of (2 ^ w.elements) (assignment_of bits) (values_at kinds.Zdd w e) (below w.elements long))

pub outcome-eval : (w : View) (z : Sizes) (cells : ℕ → Option Function) (live : Name → Option Function) → z.variables ≡ w.vars → z.elements ≡ w.elements
    → (k : Kind) (a : Name) (bits : List Bool) (e : Edge) → length bits ≡ levels k w → live a ≡ Some (listed_at k w e)
    → outcome_of z cells live (Eval a bits) ≡ Some (shows (number_of k (values_at k w e (assignment_of bits))))
outcome-eval w z cells live vars elements k a bits e long stands =
    ap (λ x. with_one x (λ f. shows (value_at z f bits))) stands ∙ ap (λ x. Some (shows x)) (value-listed w z vars elements k e bits long)
