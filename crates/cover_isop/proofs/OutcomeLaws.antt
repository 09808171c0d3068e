-- What comes of the function of a cover, by what the name of its family stands for.
use Rattle.std.proofs.Common.{◌≡◌, ℕ, ◌^◌, Bool, true, ◌&&◌, Option, Some, ap, ap₂, ◌∙◌}
use Rattle.edge_bits.specs.declared.edges.Edge.{Edge}
use Rattle.edge_bits.specs.declared.edges.Kind.TheVariants as kinds
use Rattle.function_laws.specs.declared.history.Name.{Name}
use Rattle.function_laws.specs.declared.history.Call.TheVariants.{Makes}
use Rattle.function_laws.specs.declared.history.Function.{Function}
use Rattle.function_laws.specs.declared.history.Function.TheVariants.{Bdd}
use Rattle.function_laws.specs.declared.making.Making.TheVariants as makings
use Rattle.function_laws.specs.declared.making.BddMaking.TheVariants as bdds
use Rattle.function_laws.specs.IrredundantCovers.{cover_value, fits}
use Rattle.function_laws.specs.Lists.{list_of, truth}
use Rattle.function_laws.specs.Makings.{cover_function, has_literals}
use Rattle.function_laws.specs.Outcomes.{as_zdd, makes, when, with_one}
use Rattle.function_laws.specs.Steps.{outcome_of}
use Rattle.function_laws.specs.Tables.{Sizes}
use Rattle.function_laws.proofs.ListLemmas.{any_below-same, list_of-same, truth-list_of}
use Rattle.node_store.specs.Listed.{listed_at}
use Rattle.node_store.specs.Views.{View, family_at}

-- the function of a whole list
pub cover-listed : (n m : ℕ) (p : ℕ → Bool) (k : ℕ) → cover_value n m (truth (list_of (2 ^ m) p)) k ≡ cover_value n m p k
unfolding cover_value
cover-listed n m p k = any_below-same (2 ^ m) (λ c. truth (list_of (2 ^ m) p) c && fits n c k) (λ c. p c && fits n c k) (λ c below. ap (λ x. x && fits n c k) (truth-list_of (2 ^ m) c p below))

module _ (w : View) (z : Sizes) (cells : ℕ → Option Function) (live : Name → Option Function) (vars : z.variables ≡ w.vars) (elements : z.elements ≡ w.elements) where
  whole-list : (p : ℕ → Bool) → cover_function z (list_of (2 ^ w.elements) p) ≡ list_of (2 ^ w.vars) (cover_value w.vars w.elements p)
  whole-list p = rw (vars, elements) (list_of-same (2 ^ w.vars) (cover_value w.vars w.elements (truth (list_of (2 ^ w.elements) p))) (cover_value w.vars w.elements p) (λ k below. cover-listed w.vars w.elements p k))

  pub outcome-cover_of : has_literals z ≡ true → (a : Name) (e : Edge) → live a ≡ Some (listed_at kinds.Zdd w e)
      → outcome_of z cells live (Makes (makings.Bdd (bdds.CoverOf a))) ≡ Some (makes (Bdd (list_of (2 ^ w.vars) (cover_value w.vars w.elements (family_at w e)))))
  outcome-cover_of few a e stands =
      ap₂ (λ c x. when c (with_one (as_zdd x) (λ p. makes (Bdd (cover_function z p))))) few stands
      ∙ ap (λ f. Some (makes (Bdd f))) (whole-list (family_at w e))
