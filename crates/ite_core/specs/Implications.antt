-- Tasks of two functions of which it is asked whether the first implies the second.
use Rattle.std.specs.Prelude.{◌≡◌, Bool, Option, Some, None}
use Rattle.edge_bits.specs.Permanent.{truth_edge}
use Rattle.edge_bits.specs.declared.edges.Edge.{Edge}
use Rattle.edge_bits.specs.declared.edges.Kind.TheVariants.{Bdd}
use Rattle.node_store.specs.Views.{View, AreTwo, Kept, NotBothLeaves, Permanent, bdd_at}
use Rattle.node_store.specs.States.{State}
use Rattle.node_store.specs.Memo.{Tells}
use Rattle.node_store.specs.Splits.{Waiting}
use Rattle.node_store.specs.Two.{TwoSplits, two_depth}
use Rattle.node_store.specs.declared.operator.Frame.{Frame}
use Rattle.node_store.specs.declared.operator.Task.{Task}

-- nothing is made, and the call's own answers and marks stay
pub record Untouched (old new : State) : Type 0 where
  pub kept : Kept old.view new.view
  pub known : new.answers ≡ old.answers
  pub marks : new.marks ≡ old.marks

pub record ImplicationDue (w : View) (t : Task) : Type 0 where
  pub permanent : Permanent w
  pub two : AreTwo Bdd w t.f t.g

abbrev pub ImplicationAnswers : View → Task → Edge → Type 0
ImplicationAnswers w t e = Tells (bdd_at w t.f) (bdd_at w t.g) e

-- a frame that waits for an answer of one of its task's parts
pub record ImplicationWaits (w : View) (root : Task) (frame : Frame) (child : Task) : Type 0 where
  pub task : frame.task ≡ root
  pub waiting : Waiting ImplicationDue ImplicationAnswers (λ w t. ⊥) (TwoSplits Bdd) (two_depth Bdd) w root frame child

-- the answer of a terminal case; else not both are leaves
abbrev pub ImplicationTerminal : View → Edge → Edge → Option Bool → Type 0
ImplicationTerminal w f g (Some b) = Tells (bdd_at w f) (bdd_at w g) (truth_edge b)
ImplicationTerminal w f g None = NotBothLeaves Bdd w f g
