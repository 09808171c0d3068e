-- What comes of the calls on BDDs that quantify, compose, restrict or tell a support, by what their names stand for.
use Rattle.std.proofs.Common.{◌≡◌, ℕ, ◌<◌, ◌^◌, true, ◌&&◌, List, get_or, Option, Some, ap, ap₂, ◌∙◌, arith}
use Rattle.std.specs.Prelude.{map, nat_lt}
use Rattle.std.specs.List.{All, list_all}
use Rattle.std.proofs.lemmas.Bool.{lt-ltb}
use Rattle.std.proofs.lemmas.List.Elements.{All-map}
use Rattle.std.proofs.lemmas.List.Sums.{list_all-from_AllPass}
use Rattle.edge_bits.specs.declared.edges.Edge.{Edge}
use Rattle.edge_bits.specs.declared.edges.Kind.TheVariants as kinds
use Rattle.function_laws.specs.declared.history.Name.{Name}
use Rattle.function_laws.specs.declared.history.Call.TheVariants.{Makes}
use Rattle.function_laws.specs.declared.making.Making.TheVariants as makings
use Rattle.function_laws.specs.declared.making.BddMaking.TheVariants as bdds
use Rattle.function_laws.specs.declared.history.Function.{Function}
use Rattle.function_laws.specs.declared.history.Function.TheVariants.{Bdd}
use Rattle.function_laws.specs.Functions.{and_exists_of, compose_of, exists_of, forall_of, support_of, vector_compose_of}
use Rattle.function_laws.specs.Lists.{list_of}
use Rattle.function_laws.specs.Makings.{are_distinct, bdds_of}
use Rattle.function_laws.specs.Outcomes.{as_bdd, makes, restricts, when, with_one, with_two}
use Rattle.function_laws.specs.Steps.{outcome_of}
use Rattle.function_laws.specs.Tables.{Sizes}
use Rattle.function_laws.specs.Values.{composed, conjunction, exists_all, forall_all, support}
use Rattle.function_laws.proofs.BridgeLemmas.{support_of-list_of}
use Rattle.function_laws.proofs.ComposeLemmas.{compose_of-list_of, listed, vector_compose_of-list_of}
use Rattle.function_laws.proofs.ExistsLemmas.{and_exists_of-list_of, exists_of-list_of, forall_of-list_of}
use Rattle.node_store.specs.Listed.{listed_at}
use Rattle.node_store.specs.Views.{View, bdd_at}
use Rattle.ite_core.proofs.OutcomeLaws.{variable_in_range}
use Rattle.quantify_ops.specs.Substituted.{function_with, functions_of, substituted_at}

module _ (w : View) (z : Sizes) (cells : ℕ → Option Function) (live : Name → Option Function) where
  -- the variables are in range
  all_in_range : z.variables ≡ w.vars → (vs : List ℕ) → All (λ v. v < w.vars) vs → list_all (λ v. nat_lt v z.variables) vs ≡ true
  all_in_range vars vs within = list_all-from_AllPass (λ v. nat_lt v z.variables) vs (λ k d below. variable_in_range w z cells live vars (get_or vs k d) (within k d below))

  pub outcome-exists : z.variables ≡ w.vars → (a : Name) (vs : List ℕ) (e : Edge) → All (λ v. v < w.vars) vs → live a ≡ Some (listed_at kinds.Bdd w e)
      → outcome_of z cells live (Makes (makings.Bdd (bdds.Exists a vs))) ≡ Some (makes (Bdd (list_of (2 ^ w.vars) (exists_all (bdd_at w e) vs))))
  outcome-exists vars a vs e within stands =
      ap₂ (λ c x. when c (with_one (as_bdd x) (λ f. makes (Bdd (exists_of f vs))))) (all_in_range vars vs within) stands
      ∙ ap (λ f. Some (makes (Bdd f))) (exists_of-list_of w.vars (bdd_at w e) vs within)

  pub outcome-forall : z.variables ≡ w.vars → (a : Name) (vs : List ℕ) (e : Edge) → All (λ v. v < w.vars) vs → live a ≡ Some (listed_at kinds.Bdd w e)
      → outcome_of z cells live (Makes (makings.Bdd (bdds.Forall a vs))) ≡ Some (makes (Bdd (list_of (2 ^ w.vars) (forall_all (bdd_at w e) vs))))
  outcome-forall vars a vs e within stands =
      ap₂ (λ c x. when c (with_one (as_bdd x) (λ f. makes (Bdd (forall_of f vs))))) (all_in_range vars vs within) stands
      ∙ ap (λ f. Some (makes (Bdd f))) (forall_of-list_of w.vars (bdd_at w e) vs within)

  pub outcome-support : z.variables ≡ w.vars → (a : Name) (e : Edge) → live a ≡ Some (listed_at kinds.Bdd w e)
      → outcome_of z cells live (Makes (makings.Bdd (bdds.Support a))) ≡ Some (makes (Bdd (list_of (2 ^ w.vars) (support w.vars (bdd_at w e)))))
  outcome-support vars a e stands =
      ap₂ (λ n x. with_one (as_bdd x) (λ f. makes (Bdd (support_of n f)))) vars stands ∙ ap (λ f. Some (makes (Bdd f))) (support_of-list_of w.vars (bdd_at w e))

  -- the pairs by their names, and by their edges
  pub outcome-vector_compose : z.variables ≡ w.vars → (a : Name) (pairs : List (ℕ × Name)) (e : Edge) (edges : List (ℕ × Edge)) → All (λ pair. pair.0 < w.vars) pairs → All (λ pair. pair.0 < w.vars) edges
      → are_distinct (map (λ pair. pair.0) pairs) ≡ true → live a ≡ Some (listed_at kinds.Bdd w e) → bdds_of live pairs ≡ Some (map (listed (2 ^ w.vars)) (functions_of w edges))
      → outcome_of z cells live (Makes (makings.Bdd (bdds.VectorCompose a pairs))) ≡ Some (makes (Bdd (list_of (2 ^ w.vars) (substituted_at w e edges))))
  outcome-vector_compose vars a pairs e edges named within distinct stands others =
      let fs = functions_of w edges in
      let ranges : list_all (λ pair. nat_lt pair.0 z.variables) pairs ≡ true =
      list_all-from_AllPass (λ pair. nat_lt pair.0 z.variables) pairs (λ k d below. lt-ltb (get_or pairs k d).0 z.variables (omega (arith, named k d below, vars))) in
      ap₂ (λ c x. when c (with_two (as_bdd x) (bdds_of live pairs) (λ f gs. makes (Bdd (vector_compose_of f gs))))) (ap₂ (λ b c. b && c) ranges distinct) stands
      ∙ ap (λ o. with_two (Some (list_of (2 ^ w.vars) (bdd_at w e))) o (λ f gs. makes (Bdd (vector_compose_of f gs)))) others
      ∙ ap (λ f. Some (makes (Bdd f))) (vector_compose_of-list_of w.vars (bdd_at w e) fs (All-map (λ pair. pair.0 < w.vars) (function_with w) edges within))

  module _ (a b : Name) (e d : Edge) (first : live a ≡ Some (listed_at kinds.Bdd w e)) (second : live b ≡ Some (listed_at kinds.Bdd w d)) where
    pub outcome-and_exists : z.variables ≡ w.vars → (vs : List ℕ) → All (λ v. v < w.vars) vs
        → outcome_of z cells live (Makes (makings.Bdd (bdds.AndExists a b vs))) ≡ Some (makes (Bdd (list_of (2 ^ w.vars) (exists_all (conjunction (bdd_at w e) (bdd_at w d)) vs))))
    outcome-and_exists vars vs within =
        ap₂ (λ c x. when c (with_two (as_bdd x) (as_bdd (live b)) (λ f g. makes (Bdd (and_exists_of f g vs))))) (all_in_range vars vs within) first
        ∙ ap (λ y. with_two (Some (list_of (2 ^ w.vars) (bdd_at w e))) (as_bdd y) (λ f g. makes (Bdd (and_exists_of f g vs)))) second
        ∙ ap (λ f. Some (makes (Bdd f))) (and_exists_of-list_of w.vars (bdd_at w e) (bdd_at w d) vs within)

    pub outcome-compose : z.variables ≡ w.vars → (v : ℕ) → v < w.vars → outcome_of z cells live (Makes (makings.Bdd (bdds.Compose a v b))) ≡ Some (makes (Bdd (list_of (2 ^ w.vars) (composed (bdd_at w e) v (bdd_at w d)))))
    outcome-compose vars v within =
        ap₂ (λ c x. when c (with_two (as_bdd x) (as_bdd (live b)) (λ f g. makes (Bdd (compose_of f v g))))) (variable_in_range w z cells live vars v within) first
        ∙ ap (λ y. with_two (Some (list_of (2 ^ w.vars) (bdd_at w e))) (as_bdd y) (λ f g. makes (Bdd (compose_of f v g)))) second
        ∙ ap (λ f. Some (makes (Bdd f))) (compose_of-list_of w.vars v (bdd_at w e) (bdd_at w d) within)

    pub outcome-restrict : outcome_of z cells live (Makes (makings.Bdd (bdds.Restrict a b))) ≡ Some (restricts (list_of (2 ^ w.vars) (bdd_at w e)) (list_of (2 ^ w.vars) (bdd_at w d)))
    outcome-restrict = ap₂ (λ x y. with_two (as_bdd x) (as_bdd y) restricts) first second
