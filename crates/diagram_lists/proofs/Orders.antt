-- The variables of a store from the top.
use Rattle.std.proofs.Common.{◌≡◌, ℕ, cond, length, sym, ap, ◌∙◌, arith}
use Rattle.std.specs.Prelude.{slice_index}
use Rattle.std.proofs.lemmas.Bool.{lt-ltb}
use Rattle.edge_bits.specs.declared.edges.Kind.TheVariants.{Bdd}
use Rattle.edge_bits.specs.Permanent.{first_element}
use Rattle.edge_bits.specs.Reading.{element_of}
use Rattle.function_laws.specs.SiftedOrders.{place_of}
use Rattle.node_store.specs.Contents.{IsOrder}
use Rattle.node_store.specs.Views.{IsVariable}
use Rattle.node_slots.specs.Stores.{IsStore, Plain, level_in, plain_view}
use Rattle.node_slots.proofs.Settling.{level_same, settled_sound}

module _ (p : Plain) (st : IsStore p) where
  pub is_order : IsOrder p.variables_at
  is_order = (settled_sound p st).variables

  pub as_many : length p.variables_at ≡ length p.variable_levels
  as_many = st.variables_stand.as_many

  -- the level of a variable is its place
  pub place_is_level : (v : ℕ) → IsVariable Bdd (plain_view p) v → place_of v p.variables_at ≡ level_in p v
  place_is_level v h = ap (λ b. cond b (place_of v p.variables_at) (place_of (element_of v) p.elements_at)) (sym (lt-ltb v first_element h.0)) ∙ level_same p st Bdd v h

  pub variable_at : (level v : ℕ) → IsVariable Bdd (plain_view p) v → level_in p v ≡ level → slice_index p.variables_at level ≡ v
  variable_at level v h at =
      let place : level ≡ place_of v p.variables_at = sym (place_is_level v h ∙ at) in
      ap (slice_index p.variables_at) place ∙ is_order.there v (let few = h.1 in let all = as_many in omega arith)
