-- Calls in the scratch that the store lends.
use Rattle.edge_bits.specs.Permanent.{first_element}
use Rattle.std.proofs.Common.{◌≡◌, ℕ, ◌+◌, ap}
use Rattle.edge_bits.specs.declared.edges.Edge.{Edge}
use Rattle.edge_bits.specs.declared.edges.Kind.TheVariants.{Zdd}
use Rattle.node_store.specs.Views.{View, Grown, IsVariable, family_at}
use Rattle.node_store.specs.ViewLaws.{IsVariable-grown}
use Rattle.zdd_ops.specs.Elements.{IsElement}
use Rattle.zdd_ops.proofs.Singles.{IsVariable-element, element_of-number}
use Rattle.zdd_ops.specs.Subsets.{ElementOperation, subset_at}

pub element_at : (v w : View) (e : ℕ) → Grown v w → IsElement v e → IsVariable Zdd w (first_element + e)
element_at v w e m i = IsVariable-grown Zdd m (first_element + e) (IsVariable-element v e i)

pub element_value : (part : ElementOperation) (w : View) (p : Edge) (e : ℕ) → subset_at part (first_element + e) w p ≡ part (family_at w p) e
element_value part w p e = ap (part (family_at w p)) (element_of-number e)
