-- What comes of the calls on BDDs, by what their names stand for.
use Rattle.std.proofs.Common.{◌≡◌, ℕ, ◌<◌, ◌^◌, Bool, true, false, ◌||◌, Option, Some, ap, ap₂, ◌∙◌, arith}
use Rattle.std.specs.Prelude.{nat_lt}
use Rattle.std.proofs.lemmas.Bool.{lt-ltb}
use Rattle.edge_bits.specs.declared.edges.Edge.{Edge}
use Rattle.edge_bits.specs.declared.edges.Kind.TheVariants as kinds
use Rattle.function_laws.specs.declared.history.Name.{Name}
use Rattle.function_laws.specs.declared.history.Call.TheVariants.{Makes, Leq}
use Rattle.function_laws.specs.declared.making.Making.TheVariants as makings
use Rattle.function_laws.specs.declared.making.BddMaking.TheVariants as bdds
use Rattle.function_laws.specs.declared.history.Function.{Function}
use Rattle.function_laws.specs.declared.history.Function.TheVariants.{Bdd}
use Rattle.function_laws.specs.Functions.{and_of, cofactor_of, ite_of, leq_of, not_of, or_of, xor_of}
use Rattle.function_laws.specs.Lists.{list_of}
use Rattle.function_laws.specs.Outcomes.{as_bdd, makes, tells, when, with_one, with_three, with_two}
use Rattle.function_laws.specs.Steps.{outcome_of}
use Rattle.function_laws.specs.Tables.{Sizes}
use Rattle.function_laws.specs.Values.{cofactor, conjunction, constant, disjunction, exclusive, if_then_else, negation, projection}
use Rattle.function_laws.proofs.BridgeLemmas.{and_of-list_of, cofactor_of-list_of, ite_of-list_of, not_of-list_of, place_two-list_of, xor_of-list_of}
use Rattle.node_store.specs.Listed.{listed_at}
use Rattle.node_store.specs.Views.{View, bdd_at}

module _ (w : View) (z : Sizes) (cells : ℕ → Option Function) (live : Name → Option Function) where
  -- a variable is in range
  pub variable_in_range : z.variables ≡ w.vars → (v : ℕ) → v < w.vars → nat_lt v z.variables ≡ true
  variable_in_range vars v within = lt-ltb v z.variables (omega (arith, within, vars))

  pub outcome-one : z.variables ≡ w.vars → outcome_of z cells live (Makes (makings.Bdd bdds.One)) ≡ Some (makes (Bdd (list_of (2 ^ w.vars) (constant true))))
  outcome-one vars = ap (λ n. Some (makes (Bdd (list_of (2 ^ n) (constant true))))) vars

  pub outcome-zero : z.variables ≡ w.vars → outcome_of z cells live (Makes (makings.Bdd bdds.Zero)) ≡ Some (makes (Bdd (list_of (2 ^ w.vars) (constant false))))
  outcome-zero vars = ap (λ n. Some (makes (Bdd (list_of (2 ^ n) (constant false))))) vars

  pub outcome-var : z.variables ≡ w.vars → (v : ℕ) → v < w.vars → outcome_of z cells live (Makes (makings.Bdd (bdds.Var v))) ≡ Some (makes (Bdd (list_of (2 ^ w.vars) (projection v))))
  outcome-var vars v within =
      ap₂ (λ c n. when c (Some (makes (Bdd (list_of (2 ^ n) (projection v)))))) (variable_in_range vars v within) vars

  pub outcome-not : (a : Name) (e : Edge) → live a ≡ Some (listed_at kinds.Bdd w e) → outcome_of z cells live (Makes (makings.Bdd (bdds.Not a))) ≡ Some (makes (Bdd (list_of (2 ^ w.vars) (negation (bdd_at w e)))))
  outcome-not a e stands = ap (λ x. with_one (as_bdd x) (λ f. makes (Bdd (not_of f)))) stands ∙ ap (λ f. Some (makes (Bdd f))) (not_of-list_of (2 ^ w.vars) (bdd_at w e))

  pub outcome-cofactor : z.variables ≡ w.vars → (a : Name) (v : ℕ) (b : Bool) (e : Edge) → v < w.vars → live a ≡ Some (listed_at kinds.Bdd w e)
      → outcome_of z cells live (Makes (makings.Bdd (bdds.Cofactor a v b))) ≡ Some (makes (Bdd (list_of (2 ^ w.vars) (cofactor (bdd_at w e) v b))))
  outcome-cofactor vars a v b e within stands =
      ap₂ (λ c x. when c (with_one (as_bdd x) (λ f. makes (Bdd (cofactor_of f v b))))) (variable_in_range vars v within) stands
      ∙ ap (λ f. Some (makes (Bdd f))) (cofactor_of-list_of w.vars v b (bdd_at w e) within)

  pub outcome-ite : (a b c : Name) (e d i : Edge) → live a ≡ Some (listed_at kinds.Bdd w e) → live b ≡ Some (listed_at kinds.Bdd w d) → live c ≡ Some (listed_at kinds.Bdd w i)
      → outcome_of z cells live (Makes (makings.Bdd (bdds.Ite a b c))) ≡ Some (makes (Bdd (list_of (2 ^ w.vars) (if_then_else (bdd_at w e) (bdd_at w d) (bdd_at w i)))))
  outcome-ite a b c e d i first second third =
      ap₂ (λ x y. with_three (as_bdd x) (as_bdd y) (as_bdd (live c)) (λ f g h. makes (Bdd (ite_of f g h)))) first second
      ∙ ap (λ x. with_three (Some (list_of (2 ^ w.vars) (bdd_at w e))) (Some (list_of (2 ^ w.vars) (bdd_at w d))) (as_bdd x) (λ f g h. makes (Bdd (ite_of f g h)))) third
      ∙ ap (λ f. Some (makes (Bdd f))) (ite_of-list_of (2 ^ w.vars) (bdd_at w e) (bdd_at w d) (bdd_at w i))

  module _ (a b : Name) (e d : Edge) (first : live a ≡ Some (listed_at kinds.Bdd w e)) (second : live b ≡ Some (listed_at kinds.Bdd w d)) where
    pub outcome-and : outcome_of z cells live (Makes (makings.Bdd (bdds.And a b))) ≡ Some (makes (Bdd (list_of (2 ^ w.vars) (conjunction (bdd_at w e) (bdd_at w d)))))
    outcome-and =
        ap₂ (λ x y. with_two (as_bdd x) (as_bdd y) (λ f g. makes (Bdd (and_of f g)))) first second
        ∙ ap (λ f. Some (makes (Bdd f))) (and_of-list_of (2 ^ w.vars) (bdd_at w e) (bdd_at w d))

    pub outcome-or : outcome_of z cells live (Makes (makings.Bdd (bdds.Or a b))) ≡ Some (makes (Bdd (list_of (2 ^ w.vars) (disjunction (bdd_at w e) (bdd_at w d)))))
    outcome-or =
        ap₂ (λ x y. with_two (as_bdd x) (as_bdd y) (λ f g. makes (Bdd (or_of f g)))) first second
        ∙ ap (λ f. Some (makes (Bdd f))) (place_two-list_of (λ p q. p || q) (2 ^ w.vars) (bdd_at w e) (bdd_at w d))

    pub outcome-xor : outcome_of z cells live (Makes (makings.Bdd (bdds.Xor a b))) ≡ Some (makes (Bdd (list_of (2 ^ w.vars) (exclusive (bdd_at w e) (bdd_at w d)))))
    outcome-xor =
        ap₂ (λ x y. with_two (as_bdd x) (as_bdd y) (λ f g. makes (Bdd (xor_of f g)))) first second
        ∙ ap (λ f. Some (makes (Bdd f))) (xor_of-list_of (2 ^ w.vars) (bdd_at w e) (bdd_at w d))

    pub outcome-leq : outcome_of z cells live (Leq a b) ≡ Some (tells (leq_of (list_of (2 ^ w.vars) (bdd_at w e)) (list_of (2 ^ w.vars) (bdd_at w d))))
    outcome-leq = ap₂ (λ x y. with_two (as_bdd x) (as_bdd y) (λ f g. tells (leq_of f g))) first second
