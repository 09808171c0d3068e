-- What is true of tasks of a cofactor stays true while a store grows.
use Rattle.std.proofs.Common.{◌≡◌, ℕ, Bool, refl, ap, sym, ◌∙◌}
use Rattle.edge_bits.specs.declared.edges.Edge.{Edge}
use Rattle.edge_bits.specs.declared.edges.Kind.TheVariants.{Bdd}
use Rattle.function_laws.specs.Values.{cofactor}
use Rattle.function_laws.specs.Kinds.{Denoted, BddFunction}
use Rattle.node_store.specs.Views.{View, Denotes, Is, Grown}
use Rattle.node_store.specs.ViewLaws.{Permanent-grown, Denotes-grown, Denotes-lasts, Is-grown, values_at-grown, Splits-grown, top-grown, IsVariable-grown}
use Rattle.node_store.specs.ThreeLaws.{IsPartOrComplement-grown}
use Rattle.node_store.specs.declared.operator.Task.{Task}
use Rattle.ite_core.specs.Cofactors.{cofactor_at, HasCofactor, value_of_cofactor, CofactorDue, CofactorAnswers, CofactorSplits, one_depth}

pub cofactor_at-grown : {v w : View} {f : Edge} (x : ℕ) (b : Bool) → Grown v w → Is Bdd v f → cofactor_at w f x b ≡ cofactor_at v f x b
cofactor_at-grown x b m d = ap (λ g. cofactor g x b) (values_at-grown Bdd m d)

pub HasCofactor-grown : {v w : View} {f : Edge} {x : ℕ} → Grown v w → HasCofactor v f x → HasCofactor w f x
HasCofactor-grown {v} {w} {f} {x} m d = record { edge = Is-grown Bdd m d.edge; in_range = IsVariable-grown Bdd m x d.in_range }

pub CofactorDue-stays : (f : Edge) (x : ℕ) (b : Bool) (l : Edge) (v w : View) (t : Task) → Grown v w → CofactorDue f x b l v t → CofactorDue f x b l w t
CofactorDue-stays f x b l v w t m d = record {
  literal = Denotes-grown Bdd m d.literal;
  permanent = Permanent-grown m d.permanent;
  root = HasCofactor-grown m d.root;
  edge = Is-grown Bdd m d.edge;
  part = rw (values_at-grown Bdd m d.root.edge, values_at-grown Bdd m d.edge) (IsPartOrComplement-grown Bdd (cofactor_at v f x b) (cofactor_at v t.f x b) m d.part);
}

pub CofactorAnswers-stay : (x : ℕ) (b : Bool) (v w : View) (t : Task) (e : Edge) → Grown v w → Is Bdd v t.f → CofactorAnswers x b v t e → CofactorAnswers x b w t e
CofactorAnswers-stay x b v w t e m d a = rw (values_at-grown Bdd m d) (Denotes-grown Bdd m a)

pub CofactorSplits-stay : (y : ℕ) (v w : View) (t : Task) (x : ℕ) (a b : Task) → Grown v w → Is Bdd v t.f → CofactorSplits y v t x a b → CofactorSplits y w t x a b
CofactorSplits-stay y v w t x a b m d s = record {
  in_range = IsVariable-grown Bdd m x s.in_range;
  apart = s.apart;
  splits = rw (values_at-grown Bdd m d) (Splits-grown Bdd m s.splits);
}

pub one_depth-stays : (v w : View) (t : Task) → Grown v w → Is Bdd v t.f → one_depth w t ≡ one_depth v t
one_depth-stays v w t m d = rw (m.vars, top-grown Bdd m d) refl

pub value_of_cofactor-stays : (f : Edge) (x : ℕ) (b : Bool) (v w : View) (F : Denoted) → Grown v w → HasCofactor v f x → value_of_cofactor f x b v F → value_of_cofactor f x b w F
value_of_cofactor-stays f x b v w F m d is = is ∙ ap BddFunction (sym (cofactor_at-grown x b m d.edge))

-- a call's answer, and what is told of it, by the operands at its start
pub cofactor_at-lasts : (f : Edge) (x : ℕ) (b : Bool) (u v w y : View) (e : Edge) → Grown u v → Grown w y → HasCofactor u f x
    → Denotes Bdd w e (cofactor_at v f x b) → Denotes Bdd y e (cofactor_at u f x b)
cofactor_at-lasts f x b u v w y e before after d a = Denotes-lasts Bdd after (cofactor_at-grown x b before d.edge) a

pub value_of_cofactor-back : (f : Edge) (x : ℕ) (b : Bool) (v w : View) (F : Denoted) → Grown v w → HasCofactor v f x → value_of_cofactor f x b w F → value_of_cofactor f x b v F
value_of_cofactor-back f x b v w F m d is = is ∙ ap BddFunction (cofactor_at-grown x b m d.edge)
