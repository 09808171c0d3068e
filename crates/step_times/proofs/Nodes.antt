-- A node of numbers with two leaves may be made.
use Rattle.std.proofs.Common.{ℕ, ◌<◌, ℤ, refl, sym, subst}
use Rattle.edge_bits.specs.declared.edges.Edge.{Edge}
use Rattle.edge_bits.specs.declared.edges.Kind.TheVariants.{Add}
use Rattle.edge_bits.specs.Permanent.{first_element}
use Rattle.function_laws.specs.Kinds.{Lacks}
use Rattle.function_laws.specs.Values.{constant}
use Rattle.node_store.specs.Views.{View, CanMake, Denotes, IsBelow, values_at}
use Rattle.node_store.specs.ViewLaws.{Is-from, values_at-is}

leaf_below : (w : View) (v : ℕ) (e : Edge) (x : ℤ) → Denotes Add w e (constant x) → IsBelow Add w v (values_at Add w e)
leaf_below w v e x d = λ u is above. subst (λ (f : ℕ → ℤ). Lacks Add f u) (sym (values_at-is Add d)) (λ k b. refl)

pub two_leaves : (w : View) (v : ℕ) (hi lo : Edge) (x y : ℤ) → v < w.vars → v < first_element → Denotes Add w hi (constant x) → Denotes Add w lo (constant y) → CanMake Add w v hi lo
two_leaves w v hi lo x y inside few first second = record {
  in_range = (few, inside);
  hi_is = Is-from Add first;
  lo_is = Is-from Add second;
  hi_below = leaf_below w v hi x first;
  lo_below = leaf_below w v lo y second;
}
