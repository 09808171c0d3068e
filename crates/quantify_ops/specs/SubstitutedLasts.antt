-- What is true of tasks of a composition of several functions stays true while a store grows.
use Rattle.std.proofs.Common.{◌≡◌, ℕ, List, [], ◌∷◌, Option, Some, None, refl, ap, ap₂, sym, ◌∙◌}
use Rattle.std.specs.List.{All}
use Rattle.std.proofs.lemmas.List.Elements.{All-head, All-tail}
use Rattle.edge_bits.specs.declared.edges.Edge.{Edge}
use Rattle.edge_bits.specs.declared.edges.Kind.TheVariants.{Bdd}
use Rattle.function_laws.specs.Values.{composed_at_once}
use Rattle.function_laws.specs.Kinds.{Denoted, BddFunction}
use Rattle.node_store.specs.Views.{View, Denotes, Grown, Is, bdd_at}
use Rattle.node_store.specs.ViewLaws.{Denotes-grown, Denotes-lasts, Is-grown, IsVariable-grown, Permanent-grown, Splits-grown, level-grown, values_at-grown}
use Rattle.node_store.specs.WorkLaws.{IsPart-back, IsPart-grown}
use Rattle.node_store.specs.declared.operator.Task.{Task}
use Rattle.quantify_ops.specs.Substituted.{functions_of, IsPair, AreSubstituted, substituted_at, value_of_vector_compose, ReachesDownTo, SubstituteDue, SubstituteAnswers, SubstituteSplits}

pub functions_of-grown : {v w : View} (pairs : List (ℕ × Edge)) → Grown v w → All (IsPair v) pairs → functions_of w pairs ≡ functions_of v pairs
functions_of-grown [] m all = refl
functions_of-grown {v} {w} (pair ∷ pairs) m all =
    ap₂ (λ h rest. (pair.0, h) ∷ rest) (values_at-grown Bdd m (All-head (IsPair v) pair pairs all).1) (functions_of-grown pairs m (All-tail (IsPair v) pair pairs all))

pub AreSubstituted-grown : {v w : View} {f : Edge} {pairs : List (ℕ × Edge)} → Grown v w → AreSubstituted v f pairs → AreSubstituted w f pairs
AreSubstituted-grown {v} {w} {f} {pairs} m d = record {
  edge = Is-grown Bdd m d.edge;
  each = λ i none within. let p = d.each i none within in (IsVariable-grown Bdd m _ p.0, Is-grown Bdd m p.1);
  distinct = d.distinct;
}

pub substituted_at-grown : {v w : View} {f : Edge} (pairs : List (ℕ × Edge)) → Grown v w → All (IsPair v) pairs → Is Bdd v f → substituted_at w f pairs ≡ substituted_at v f pairs
substituted_at-grown pairs m all d = ap₂ (λ h fs. composed_at_once h fs) (values_at-grown Bdd m d) (functions_of-grown pairs m all)

pub value_of_vector_compose-stays : (f : Edge) (pairs : List (ℕ × Edge)) (v w : View) (F : Denoted) → Grown v w → AreSubstituted v f pairs → value_of_vector_compose f pairs v F → value_of_vector_compose f pairs w F
value_of_vector_compose-stays f pairs v w F m d (a, (part, is)) = (
  a,
  (
    rw (values_at-grown Bdd m d.edge) (IsPart-grown Bdd m (bdd_at v f) a part),
    is ∙ ap (λ fs. BddFunction (composed_at_once a fs)) (sym (functions_of-grown pairs m d.each)),
  ),
)

reach-grown : {v w : View} (lowest : Option ℕ) (pair : ℕ × Edge) → Grown v w → ReachesDownTo v lowest pair → ReachesDownTo w lowest pair
reach-grown (Some level) pair m h = rw (level-grown m pair.0) h
reach-grown None pair m h = h

pub SubstituteDue-stays : (f : Edge) (pairs : List (ℕ × Edge)) (lowest : Option ℕ) (v w : View) (t : Task) → Grown v w → SubstituteDue f pairs lowest v t → SubstituteDue f pairs lowest w t
SubstituteDue-stays f pairs lowest v w t m d = record {
  permanent = Permanent-grown m d.permanent;
  root = AreSubstituted-grown m d.root;
  reach = λ i none within. reach-grown lowest _ m (d.reach i none within);
  edge = Is-grown Bdd m d.edge;
  part = rw (values_at-grown Bdd m d.root.edge, values_at-grown Bdd m d.edge) (IsPart-grown Bdd m (bdd_at v f) (bdd_at v t.f) d.part);
}

pub SubstituteAnswers-stay : (pairs : List (ℕ × Edge)) (v w : View) (t : Task) (e : Edge) → Grown v w → All (IsPair v) pairs → Is Bdd v t.f → SubstituteAnswers pairs v t e → SubstituteAnswers pairs w t e
SubstituteAnswers-stay pairs v w t e m all d a = rw (substituted_at-grown pairs m all d) (Denotes-grown Bdd m a)

pub SubstituteSplits-stay : (v w : View) (t : Task) (x : ℕ) (a b : Task) → Grown v w → Is Bdd v t.f → SubstituteSplits v t x a b → SubstituteSplits w t x a b
SubstituteSplits-stay v w t x a b m d s = record { in_range = IsVariable-grown Bdd m x s.in_range; splits = rw (values_at-grown Bdd m d) (Splits-grown Bdd m s.splits) }

-- a call's answer, and what is told of it, by the operands at its start
pub substituted_at-lasts : (f : Edge) (pairs : List (ℕ × Edge)) (u v w x : View) (e : Edge) → Grown u v → Grown w x → AreSubstituted u f pairs
    → Denotes Bdd w e (substituted_at v f pairs) → Denotes Bdd x e (substituted_at u f pairs)
substituted_at-lasts f pairs u v w x e before after d a = Denotes-lasts Bdd after (substituted_at-grown pairs before d.each d.edge) a

pub value_of_vector_compose-back : (f : Edge) (pairs : List (ℕ × Edge)) (v w : View) (F : Denoted) → Grown v w → AreSubstituted v f pairs → value_of_vector_compose f pairs w F → value_of_vector_compose f pairs v F
value_of_vector_compose-back f pairs v w F m d (a, (part, is)) = (
  a,
  (
    IsPart-back Bdd m (bdd_at v f) a (rw (values_at-grown Bdd m d.edge) at part),
    is ∙ ap (λ fs. BddFunction (composed_at_once a fs)) (functions_of-grown pairs m d.each),
  ),
)
