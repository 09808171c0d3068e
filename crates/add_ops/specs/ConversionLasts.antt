-- What is true of tasks of a conversion stays true while a store grows.
use Rattle.std.proofs.Common.{◌≡◌, ℕ, refl, ap, sym, ◌∙◌}
use Rattle.edge_bits.specs.declared.edges.Edge.{Edge}
use Rattle.edge_bits.specs.declared.edges.Kind.{Kind}
use Rattle.function_laws.specs.Kinds.{Denoted, ValueOf, function_of}
use Rattle.node_store.specs.Views.{View, Denotes, Grown, Is}
use Rattle.node_store.specs.ViewLaws.{Denotes-grown, Denotes-lasts, Is-grown, IsVariable-grown, Permanent-grown, Splits-grown, levels-grown, top-grown, values_at-grown}
use Rattle.node_store.specs.WorkLaws.{IsPart-grown}
use Rattle.node_store.specs.declared.operator.Task.{Task}
use Rattle.add_ops.specs.Conversions.{converted, converted_at, value_of_one, OneDue, OneAnswers, OneSplits, one_depth}

pub converted_at-grown : (j k : Kind) (op : ValueOf j → ValueOf k) {v w : View} {f : Edge} → Grown v w → Is j v f → converted_at j k op w f ≡ converted_at j k op v f
converted_at-grown j k op m d = ap (converted op) (values_at-grown j m d)

pub value_of_one-stays : (j k : Kind) (op : ValueOf j → ValueOf k) (f : Edge) (v w : View) (F : Denoted) → Grown v w → Is j v f → value_of_one j k op f v F → value_of_one j k op f w F
value_of_one-stays j k op f v w F m d is = is ∙ ap (function_of k) (sym (converted_at-grown j k op m d))

-- a call's answer, by the operand at its start
pub converted_at-lasts : (j k : Kind) (op : ValueOf j → ValueOf k) (f : Edge) (u v w x : View) (e : Edge) → Grown u v → Grown w x → Is j u f
    → Denotes k w e (converted_at j k op v f) → Denotes k x e (converted_at j k op u f)
converted_at-lasts j k op f u v w x e before after d a = Denotes-lasts k after (converted_at-grown j k op before d) a

pub value_of_one-back : (j k : Kind) (op : ValueOf j → ValueOf k) (f : Edge) (v w : View) (F : Denoted) → Grown v w → Is j v f → value_of_one j k op f w F → value_of_one j k op f v F
value_of_one-back j k op f v w F m d is = is ∙ ap (function_of k) (converted_at-grown j k op m d)

pub OneDue-stays : (j k : Kind) (op : ValueOf j → ValueOf k) (f : Edge) (v w : View) (t : Task) → Grown v w → OneDue j k op f v t → OneDue j k op f w t
OneDue-stays j k op f v w t m d = record {
  permanent = Permanent-grown m d.permanent;
  root = Is-grown j m d.root;
  edge = Is-grown j m d.edge;
  part = rw (converted_at-grown j k op m d.root, converted_at-grown j k op m d.edge) (IsPart-grown k m (converted_at j k op v f) (converted_at j k op v t.f) d.part);
}

pub OneAnswers-stay : (j k : Kind) (op : ValueOf j → ValueOf k) (v w : View) (t : Task) (e : Edge) → Grown v w → Is j v t.f → OneAnswers j k op v t e → OneAnswers j k op w t e
OneAnswers-stay j k op v w t e m d a = rw (converted_at-grown j k op m d) (Denotes-grown k m a)

pub OneSplits-stay : (j : Kind) (v w : View) (t : Task) (x : ℕ) (a b : Task) → Grown v w → Is j v t.f → OneSplits j v t x a b → OneSplits j w t x a b
OneSplits-stay j v w t x a b m d s = record { in_range = IsVariable-grown j m x s.in_range; splits = rw (values_at-grown j m d) (Splits-grown j m s.splits) }

pub one_depth-stays : (j : Kind) (v w : View) (t : Task) → Grown v w → Is j v t.f → one_depth j w t ≡ one_depth j v t
one_depth-stays j v w t m d = rw (levels-grown j m, top-grown j m d) refl
