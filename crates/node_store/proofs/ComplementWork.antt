-- What is part of a function's work, up to complement, is part of its complement's.
use Rattle.std.proofs.Common.{◌≡◌, ℕ, Bool, true, false, not, Option, Some, ◌⊎◌, inl, inr, refl, ap, ◌∙◌}
use Rattle.edge_bits.specs.declared.edges.Kind.{Kind}
use Rattle.edge_bits.specs.declared.edges.Kind.TheVariants.{Bdd, Add, Zdd}
use Rattle.function_laws.specs.Values.{negation}
use Rattle.function_laws.proofs.ValueLemmas.{everywhere}
use Rattle.function_laws.specs.Kinds.{Denoted, BddFunction, ValueOf, function_of, values_of, opposite}
use Rattle.node_store.specs.Views.{View}
use Rattle.node_store.specs.Work.{IsPart, IsWork, Adds}
use Rattle.node_store.specs.WorkLaws.{IsPart-not}

not_not : (b : Bool) → b ≡ not (not b)
not_not true = refl
not_not false = refl

pub negation-negation : (f : ℕ → Bool) → f ≡ negation (negation f)
negation-negation f = everywhere f (negation (negation f)) (λ k. not_not (f k))

pub IsWork-negation : (w : View) (f : ℕ → Bool) (o : Option Denoted) → IsWork w (λ F. F ≡ BddFunction f) o → IsWork w (λ F. F ≡ BddFunction (negation f)) o
IsWork-negation w f o i = by_kind i.kind i.root i.part i.asked i.is_part i.is
  where
    by_kind : (k : Kind) (root part : ℕ → ValueOf k) → function_of k root ≡ BddFunction f → IsPart k w root part
        → (o ≡ Some (function_of k part)) ⊎ (o ≡ Some (opposite (function_of k part))) → IsWork w (λ F. F ≡ BddFunction (negation f)) o
    by_kind Bdd root part asked p is = record {
      kind = Bdd;
      root = negation root;
      part = negation part;
      asked = ap (λ F. BddFunction (negation (values_of Bdd (Some F)))) asked;
      is_part = IsPart-not w root part p;
      is = elim is [ inl e ↦ inr (e ∙ ap (λ x. Some (BddFunction x)) (negation-negation part)) | inr e ↦ inl e ];
    }
    by_kind Add root part asked p is = cc
    by_kind Zdd root part asked p is = cc

pub Adds-negation : (v w : View) (f : ℕ → Bool) → Adds (λ F. F ≡ BddFunction f) v w → Adds (λ F. F ≡ BddFunction (negation f)) v w
Adds-negation v w f adds s h = elim (adds s h) [ inl old ↦ inl old | inr i ↦ inr (IsWork-negation w f (w.content s) i) ]
