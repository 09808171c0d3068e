-- What comes of the operations on families, by the edges of their rows.
use Rattle.std.proofs.Common.{◌≡◌, ℕ, ◌<◌, ap, arith}
use Rattle.edge_bits.specs.declared.edges.Edge.{Edge}
use Rattle.edge_bits.specs.declared.edges.Kind.TheVariants as kinds
use Rattle.function_laws.specs.declared.history.Name.{Name}
use Rattle.function_laws.specs.declared.history.Call.TheVariants as calls
use Rattle.function_laws.specs.declared.making.Making.TheVariants as makings
use Rattle.function_laws.specs.declared.making.ZddMaking.TheVariants as zdds
use Rattle.function_laws.specs.Families.{change, single, subset0, subset1}
use Rattle.node_store.specs.Views.{View, Denotes, Is, family_at}
use Rattle.zdd_ops.specs.Elements.{IsElement}
use Rattle.zdd_ops.proofs.OutcomeLaws.{outcome-change, outcome-single, outcome-subset0, outcome-subset1}
use Rattle.seat_guard.specs.declared.view.Draws.{Draws}
use Rattle.dd_session.specs.Turns.{HasValue, IsEdgeOf, IsSmall, Stands}
use Rattle.dd_session.proofs.NumberLaws.{held_at}
use Rattle.dd_session.proofs.Outcomes.{elements, has_value}

module _ (d : Draws) where
  -- an element of the manager is one of the store
  element_in : (x : View) → IsSmall x → Stands x d → (e : ℕ) → e < d.elements → IsElement x e
  element_in x of stands e lt =
      let few = of.1 in
      let n : x.elements ≡ d.elements = ap (λ (p : ℕ × ℕ × ℕ). p.1) stands.counts_are in
      record { few = omega (arith, few, n, lt); in_range = omega (arith, n, lt) }

  pub told_single : (e : ℕ) → e < d.elements → (x : View) → IsSmall x → Stands x d → IsElement x e × HasValue kinds.Zdd (λ u edge. Denotes kinds.Zdd u edge (single e)) d x (calls.Makes (makings.Zdd (zdds.Single e)))
  told_single e lt x of stands = let w = x in let element = element_in x of stands e lt in
      (element, has_value kinds.Zdd d x (calls.Makes (makings.Zdd (zdds.Single e))) (single e) (λ t agrees. outcome-single w t.sizes t.cells (t.live d.session) (elements d t x agrees stands) e element.in_range))

  -- an operation by one element
  module _ (a : Name) (i : Edge) (first : IsEdgeOf kinds.Zdd d a i) (e : ℕ) (lt : e < d.elements) (x : View) (of : IsSmall x) (stands : Stands x d) where
    abbrev w₁ : View
    w₁ = x

    element : IsElement w₁ e
    element = element_in x of stands e lt

    pub told_subset1 : (Is kinds.Zdd w₁ i × IsElement w₁ e) × HasValue kinds.Zdd (λ u edge. Denotes kinds.Zdd u edge (subset1 (family_at w₁ i) e)) d w₁ (calls.Makes (makings.Zdd (zdds.Subset1 a e)))
    told_subset1 = (((first x stands).0, element), has_value kinds.Zdd d w₁ (calls.Makes (makings.Zdd (zdds.Subset1 a e))) (subset1 (family_at w₁ i) e) (λ t agrees. outcome-subset1 w₁ t.sizes t.cells (t.live d.session) (elements d t x agrees stands) a e i element.in_range (held_at d kinds.Zdd a i first x stands t agrees)))

    pub told_subset0 : (Is kinds.Zdd w₁ i × IsElement w₁ e) × HasValue kinds.Zdd (λ u edge. Denotes kinds.Zdd u edge (subset0 (family_at w₁ i) e)) d w₁ (calls.Makes (makings.Zdd (zdds.Subset0 a e)))
    told_subset0 = (((first x stands).0, element), has_value kinds.Zdd d w₁ (calls.Makes (makings.Zdd (zdds.Subset0 a e))) (subset0 (family_at w₁ i) e) (λ t agrees. outcome-subset0 w₁ t.sizes t.cells (t.live d.session) (elements d t x agrees stands) a e i element.in_range (held_at d kinds.Zdd a i first x stands t agrees)))

    pub told_change : (Is kinds.Zdd w₁ i × IsElement w₁ e) × HasValue kinds.Zdd (λ u edge. Denotes kinds.Zdd u edge (change (family_at w₁ i) e)) d w₁ (calls.Makes (makings.Zdd (zdds.Change a e)))
    told_change = (((first x stands).0, element), has_value kinds.Zdd d w₁ (calls.Makes (makings.Zdd (zdds.Change a e))) (change (family_at w₁ i) e) (λ t agrees. outcome-change w₁ t.sizes t.cells (t.live d.session) (elements d t x agrees stands) a e i element.in_range (held_at d kinds.Zdd a i first x stands t agrees)))
