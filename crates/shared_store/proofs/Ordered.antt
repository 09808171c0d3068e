-- The orders follow from the levels.
use Rattle.std.proofs.Common.{◌≡◌, ℕ, ◌+◌, ◌-◌, ◌<◌, nat_lt, true, false, List, length, refl, ap, sym, ◌∙◌, arith}
use Rattle.std.specs.Prelude.{slice_index}
use Rattle.std.proofs.lemmas.List.{ext_get_or}
use Rattle.edge_bits.specs.declared.edges.Kind.TheVariants as kinds
use Rattle.edge_bits.specs.Permanent.{first_element}
use Rattle.node_store.specs.Views.{Grown}
use Rattle.node_slots.specs.Stores.{Plain, AreInverse, IsStore, level_in, plain_view}

at-same : (levels at levels' at' : List ℕ) → AreInverse levels at → AreInverse levels' at' → length levels' ≡ length levels
    → ((v : ℕ) → v < length levels → slice_index levels' v ≡ slice_index levels v)
    → ((u v : ℕ) → u < length levels → v < length levels → slice_index levels u ≡ slice_index levels v → u ≡ v)
    → at' ≡ at
at-same levels at levels' at' inverse inverse' long same alone =
    ext_get_or 0 at' at (inverse'.as_many ∙ long ∙ sym inverse.as_many) (λ l below.
    let a = inverse'.each l below in
    let m = inverse'.as_many in
    let n = inverse.as_many in
    let b = inverse.each l (omega (arith, below, m, n, long)) in
    alone (slice_index at' l) (slice_index at l) (let x = a.0 in omega (arith, x, long)) b.0 (sym (same (slice_index at' l) (let x = a.0 in omega (arith, x, long))) ∙ a.1 ∙ sym b.1))

variable_level : (p : Plain) (v : ℕ) → v < first_element → level_in p v ≡ slice_index p.variable_levels v
variable_level p v below = let t : nat_lt v first_element ≡ true = grind (arith, below) in rw t refl

element_level : (p : Plain) (e : ℕ) → level_in p (first_element + e) ≡ slice_index p.element_levels e
element_level p e =
    let t : nat_lt (first_element + e) first_element ≡ false = grind arith in
    let m : first_element + e - first_element ≡ e = omega arith in rw (t, m) refl

-- a growing store keeps both orders
pub orders-grown : (p q : Plain) → IsStore p → IsStore q → Grown (plain_view p) (plain_view q) → (q.variables_at ≡ p.variables_at) × (q.elements_at ≡ p.elements_at)
orders-grown p q of of' grown = (
  at-same p.variable_levels p.variables_at q.variable_levels q.variables_at of.variables_stand of'.variables_stand grown.vars
      (λ v below. let few = of.few_variables in let small : v < first_element = omega (arith, few, below) in sym (variable_level q v small) ∙ ap (λ (f : ℕ → ℕ). f v) grown.level ∙ variable_level p v small)
      (λ u v below_u below_v same. let few = of.few_variables in let small_u : u < first_element = omega (arith, few, below_u) in let small_v : v < first_element = omega (arith, few, below_v) in
      of.ordered.alone kinds.Bdd u v (small_u, below_u) (small_v, below_v) (variable_level p u small_u ∙ same ∙ sym (variable_level p v small_v))),
  at-same p.element_levels p.elements_at q.element_levels q.elements_at of.elements_stand of'.elements_stand grown.elements
      (λ e below. sym (element_level q e) ∙ ap (λ (f : ℕ → ℕ). f (first_element + e)) grown.level ∙ element_level p e)
      (λ d e below_d below_e same. let t : first_element + d ≡ first_element + e = of.ordered.alone kinds.Zdd (first_element + d) (first_element + e) (omega arith, omega (arith, below_d)) (omega arith, omega (arith, below_e)) (element_level p d ∙ same ∙ sym (element_level p e)) in omega (arith, t)),
)
