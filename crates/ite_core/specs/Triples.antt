-- An operand of if-then-else that stands for another.
use Rattle.std.specs.Prelude.{◌≡◌, ℕ, true, ◌⊎◌}
use Rattle.edge_bits.specs.declared.edges.Edge.{Edge}
use Rattle.edge_bits.specs.declared.edges.Kind.TheVariants.{Bdd}
use Rattle.node_store.specs.Views.{View, Is, bdd_at}

-- the edge denotes the same where f is true, and has no higher top
pub record StandsFor (w : View) (f g e : Edge) : Type 0 where
  pub is : Is Bdd w e
  pub same : (k : ℕ) → bdd_at w f k ≡ true → bdd_at w e k ≡ bdd_at w g k
  pub top : (w.top e.index ≡ w.top g.index) ⊎ ((w.top e.index ≡ w.vars) × (w.top g.index ≡ w.top f.index))
