-- What is true of tasks of an implication stays true while a store grows.
use Rattle.std.proofs.Common.{refl, ◌∙◌}
use Rattle.edge_bits.specs.declared.edges.Edge.{Edge}
use Rattle.edge_bits.specs.declared.edges.Kind.TheVariants.{Bdd}
use Rattle.node_store.specs.Views.{View, Grown}
use Rattle.node_store.specs.ViewLaws.{Kept-refl, Kept-trans, Permanent-grown, values_at-grown}
use Rattle.node_store.specs.States.{State}
use Rattle.node_store.specs.TwoLaws.{AreTwo-grown, TwoSplits-stay, two_depth-stays}
use Rattle.node_store.specs.Two.{TwoSplits, two_depth}
use Rattle.node_store.specs.Waiting.{Waiting-stays}
use Rattle.node_store.specs.declared.operator.Frame.{Frame}
use Rattle.node_store.specs.declared.operator.Task.{Task}
use Rattle.ite_core.specs.Implications.{Untouched, ImplicationDue, ImplicationAnswers, ImplicationWaits}

pub Untouched-none : (v : State) → Untouched v v
Untouched-none v = record { kept = Kept-refl v.view; known = refl; marks = refl }

pub Untouched-both : (u v w : State) → Untouched u v → Untouched v w → Untouched u w
Untouched-both u v w p q = record { kept = Kept-trans p.kept q.kept; known = q.known ∙ p.known; marks = q.marks ∙ p.marks }

pub ImplicationDue-stays : (v w : View) (t : Task) → Grown v w → ImplicationDue v t → ImplicationDue w t
ImplicationDue-stays v w t m d = record { permanent = Permanent-grown m d.permanent; two = AreTwo-grown Bdd m d.two }

pub ImplicationAnswers-stay : (v w : View) (t : Task) (e : Edge) → Grown v w → ImplicationDue v t → ImplicationAnswers v t e → ImplicationAnswers w t e
ImplicationAnswers-stay v w t e m d a = rw (values_at-grown Bdd m d.two.first, values_at-grown Bdd m d.two.second) a

pub ImplicationWaits-stay : (v w : View) (t : Task) (f : Frame) (u : Task) → Grown v w → ImplicationDue v t → ImplicationWaits v t f u → ImplicationWaits w t f u
ImplicationWaits-stay v w t f u m d q = record {
  task = q.task;
  waiting = Waiting-stays ImplicationDue ImplicationAnswers (λ w t. ⊥) (TwoSplits Bdd) (two_depth Bdd) ImplicationDue-stays ImplicationAnswers-stay
      (λ v w t x a b m d. TwoSplits-stay Bdd v w t x a b m d.two) (λ v w t m d. two_depth-stays Bdd v w t m d.two) v w t f u m d q.waiting;
}
