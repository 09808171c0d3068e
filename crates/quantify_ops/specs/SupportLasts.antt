-- What is true of a walk stays true while it goes on.
use Rattle.std.proofs.Common.{inl, inr, refl, ◌∙◌}
use Rattle.edge_bits.specs.declared.edges.Edge.{Edge}
use Rattle.edge_bits.specs.declared.edges.Kind.TheVariants.{Bdd}
use Rattle.ite_core.specs.CofactorLasts.{one_depth-stays}
use Rattle.node_store.specs.States.{State}
use Rattle.node_store.specs.ViewLaws.{Is-grown, Kept-refl, Kept-trans, values_at-grown}
use Rattle.node_store.specs.declared.operator.Frame.{Frame}
use Rattle.node_store.specs.declared.operator.Task.{Task}
use Rattle.node_store.specs.declared.operator.Wait.{Wait}
use Rattle.node_store.specs.declared.operator.Wait.TheVariants.{Only, First, Second, Third, Fourth}
use Rattle.quantify_ops.specs.Supports.{WalkAnswers, WalkDue, WalkMoves, WalkStep, WalkWaits}

pub WalkMoves-none : (f : Edge) (s : State) → WalkMoves f s s
WalkMoves-none f s = record { kept = Kept-refl s.view; more = λ v n. n; size = refl; walk = λ i. i }

pub WalkMoves-both : (f : Edge) (u v w : State) → WalkMoves f u v → WalkMoves f v w → WalkMoves f u w
WalkMoves-both f u v w p q = record { kept = Kept-trans p.kept q.kept; more = λ x n. q.more x (p.more x n); size = q.size ∙ p.size; walk = λ i. q.walk (p.walk i) }

pub WalkDue-stays : (f : Edge) (v w : State) (t : Task) → WalkMoves f v w → WalkDue f v t → WalkDue f w t
WalkDue-stays f v w t m d = record {
  walk = m.walk d.walk;
  edge = Is-grown Bdd m.kept.grown d.edge;
  part = rw (values_at-grown Bdd m.kept.grown d.walk.root, values_at-grown Bdd m.kept.grown d.edge) d.part;
}

pub WalkAnswers-stay : (f : Edge) (v w : State) (t : Task) (e : Edge) → WalkMoves f v w → WalkDue f v t → WalkAnswers v t e → WalkAnswers w t e
WalkAnswers-stay f v w t e m d a = rw (values_at-grown Bdd m.kept.grown d.edge) (λ x. elim (a x) [ inl free ↦ inl free | inr needs ↦ inr (m.more x needs) ])

pub WalkWaits-stay : (f : Edge) (v w : State) (t : Task) (frame : Frame) (u : Task) → WalkMoves f v w → WalkDue f v t → WalkWaits f v t frame u → WalkWaits f w t frame u
WalkWaits-stay f v w t frame u m d q = record { own = q.own; step = by_wait frame.wait q.step }
  where
    by_wait : (s : Wait) → WalkStep f v t u s → WalkStep f w t u s
    by_wait Only h = h
    by_wait (First later) a = record {
      child_is = Is-grown Bdd m.kept.grown a.child_is;
      later_due = WalkDue-stays f v w later m a.later_due;
      less = rw (one_depth-stays v.view w.view later m.kept.grown a.later_due.edge, one_depth-stays v.view w.view t m.kept.grown d.edge) a.less;
      covers = rw (values_at-grown Bdd m.kept.grown a.child_is, values_at-grown Bdd m.kept.grown a.later_due.edge, values_at-grown Bdd m.kept.grown d.edge)
          (λ c more. a.covers c (λ x n. more x (m.more x n)));
    }
    by_wait (Second b) a = record {
      child_is = Is-grown Bdd m.kept.grown a.child_is;
      covers = rw (values_at-grown Bdd m.kept.grown a.child_is, values_at-grown Bdd m.kept.grown d.edge) (λ c more. a.covers c (λ x n. more x (m.more x n)));
    }
    by_wait (Third b c) h = h
    by_wait (Fourth b c e) h = h
