-- What is true of tasks of a composition stays true while a store grows.
use Rattle.std.proofs.Common.{◌≡◌, ℕ, inl, inr, refl, ap, sym, ◌∙◌}
use Rattle.edge_bits.specs.declared.edges.Edge.{Edge}
use Rattle.edge_bits.specs.declared.edges.Kind.TheVariants.{Bdd}
use Rattle.function_laws.specs.Kinds.{Denoted, BddFunction}
use Rattle.node_store.specs.Three.{IsPartOrComplement}
use Rattle.node_store.specs.ThreeLaws.{IsPartOrComplement-grown}
use Rattle.node_store.specs.TwoLaws.{AreTwo-grown, TwoSplits-stay}
use Rattle.node_store.specs.Views.{View, AreTwo, Denotes, Grown}
use Rattle.node_store.specs.ViewLaws.{Denotes-grown, Denotes-lasts, IsVariable-grown, Permanent-grown, Splits-grown, level-grown, top-grown, values_at-grown}
use Rattle.node_store.specs.declared.operator.Task.{Task}
use Rattle.quantify_ops.specs.Composed.{composed_at, AreComposed, value_of_compose, IsPartOrBelow, ComposeDue, ComposeAnswers, SplitsAround, ComposeSplits}

pub composed_at-grown : {v w : View} {f g : Edge} (x : ℕ) → Grown v w → AreTwo Bdd v f g → composed_at w f x g ≡ composed_at v f x g
composed_at-grown {v} {w} {f} {g} x m d = rw (values_at-grown Bdd m d.first, values_at-grown Bdd m d.second) refl

pub AreComposed-grown : {v w : View} {f g : Edge} {x : ℕ} → Grown v w → AreComposed v f x g → AreComposed w f x g
AreComposed-grown {v} {w} {f} {g} {x} m d = record { two = AreTwo-grown Bdd m d.two; in_range = IsVariable-grown Bdd m x d.in_range }

pub value_of_compose-stays : (f : Edge) (x : ℕ) (g : Edge) (v w : View) (F : Denoted) → Grown v w → AreComposed v f x g → value_of_compose f x g v F → value_of_compose f x g w F
value_of_compose-stays f x g v w F m d is = is ∙ ap BddFunction (sym (composed_at-grown x m d.two))

pub part-stays : (f : Edge) (x : ℕ) (g : Edge) (v w : View) (t : Task) → Grown v w → AreComposed v f x g → AreTwo Bdd v t.f t.g
    → IsPartOrComplement Bdd v (composed_at v f x g) (composed_at v t.f x t.g) → IsPartOrComplement Bdd w (composed_at w f x g) (composed_at w t.f x t.g)
part-stays f x g v w t m d two p = rw (composed_at-grown x m d.two, composed_at-grown x m two) (IsPartOrComplement-grown Bdd (composed_at v f x g) (composed_at v t.f x t.g) m p)

pub place-stays : (f : Edge) (x : ℕ) (g : Edge) (v w : View) (t : Task) → Grown v w → AreComposed v f x g → AreTwo Bdd v t.f t.g → IsPartOrBelow f x g v t → IsPartOrBelow f x g w t
place-stays f x g v w t m d two (inl p) = inl (part-stays f x g v w t m d two p)
place-stays f x g v w t m d two (inr below) = inr (rw (level-grown m x, top-grown Bdd m two.first) below)

pub ComposeDue-stays : (f : Edge) (x : ℕ) (g p : Edge) (v w : View) (t : Task) → Grown v w → ComposeDue f x g p v t → ComposeDue f x g p w t
ComposeDue-stays f x g p v w t m d = record {
  projection = Denotes-grown Bdd m d.projection;
  permanent = Permanent-grown m d.permanent;
  root = AreComposed-grown m d.root;
  two = AreTwo-grown Bdd m d.two;
  place = place-stays f x g v w t m d.root d.two d.place;
}

pub ComposeAnswers-stay : (x : ℕ) (v w : View) (t : Task) (e : Edge) → Grown v w → AreTwo Bdd v t.f t.g → ComposeAnswers x v t e → ComposeAnswers x w t e
ComposeAnswers-stay x v w t e m d a = rw (composed_at-grown x m d) (Denotes-grown Bdd m a)

around-stays : (v w : View) (t : Task) (y x : ℕ) (a b : Task) → Grown v w → AreTwo Bdd v t.f t.g → SplitsAround y v t x a b → SplitsAround y w t x a b
around-stays v w t y x a b m d (inl own) = inl (own.0, rw (values_at-grown Bdd m d.first) (Splits-grown Bdd m own.1))
around-stays v w t y x a b m d (inr other) = inr (other.0, TwoSplits-stay Bdd v w t x a b m d other.1)

pub ComposeSplits-stay : (f : Edge) (y : ℕ) (g : Edge) (v w : View) (t : Task) (x : ℕ) (a b : Task) → Grown v w → AreComposed v f y g → AreTwo Bdd v t.f t.g
    → ComposeSplits f y g v t x a b → ComposeSplits f y g w t x a b
ComposeSplits-stay f y g v w t x a b m d two s = record {
  part = part-stays f y g v w t m d two s.part;
  in_range = IsVariable-grown Bdd m x s.in_range;
  hi_is = AreTwo-grown Bdd m s.hi_is;
  lo_is = AreTwo-grown Bdd m s.lo_is;
  around = around-stays v w t y x a b m two s.around;
}

-- a call's answer, and what is told of it, by the operands at its start
pub composed_at-lasts : (f : Edge) (x : ℕ) (g : Edge) (u v w y : View) (e : Edge) → Grown u v → Grown w y → AreComposed u f x g
    → Denotes Bdd w e (composed_at v f x g) → Denotes Bdd y e (composed_at u f x g)
composed_at-lasts f x g u v w y e before after d a = Denotes-lasts Bdd after (composed_at-grown x before d.two) a

pub value_of_compose-back : (f : Edge) (x : ℕ) (g : Edge) (v w : View) (F : Denoted) → Grown v w → AreComposed v f x g → value_of_compose f x g w F → value_of_compose f x g v F
value_of_compose-back f x g v w F m d is = is ∙ ap BddFunction (composed_at-grown x m d.two)
