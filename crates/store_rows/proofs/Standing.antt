-- What stands at the levels of a store, and that it stands there while the store grows.
use Rattle.std.proofs.Common.{◌≡◌, ℕ, ◌+◌, ◌<◌, ◌≤◌, List, length, ap, sym, ◌∙◌, arith}
use Rattle.std.specs.Prelude.{slice_index}
use Rattle.std.proofs.lemmas.Bool.{le-ltb, lt-ltb}
use Rattle.std.proofs.lemmas.List.{ext_get_or}
use Rattle.edge_bits.specs.Permanent.{first_element}
use Rattle.edge_bits.specs.Reading.{element_of}
use Rattle.edge_bits.specs.declared.limits.TheConstants.{MOST_LEVELS}
use Rattle.function_laws.specs.declared.orders.Order.{Order}
use Rattle.function_laws.specs.declared.orders.Order.TheVariants.{Variables, Elements}
use Rattle.function_laws.specs.Sizes.{in_order}
use Rattle.node_slots.specs.Stores.{AreInverse, IsStore, Plain, level_in, plain_view}
use Rattle.node_store.specs.Views.{Grown, IsVariable, levels}
use Rattle.store_upkeep.specs.Lasting.{orders_of}
use Rattle.store_rows.specs.Levels.{StandsAt, first_of, kind_of}

abbrev at : Plain → Order → List ℕ
at p order = in_order (orders_of p) order

abbrev levels_by : Plain → Order → List ℕ
levels_by p Variables = p.variable_levels
levels_by p Elements = p.element_levels

inverse : (p : Plain) → IsStore p → (order : Order) → AreInverse (levels_by p order) (at p order)
inverse p st Variables = st.variables_stand
inverse p st Elements = st.elements_stand

-- how many levels there are
pub count-is : (p : Plain) → IsStore p → (order : Order) → levels (kind_of order) (plain_view p) ≡ length (at p order)
count-is p st Variables = sym st.variables_stand.as_many
count-is p st Elements = sym st.elements_stand.as_many

pub count-few : (p : Plain) → IsStore p → (order : Order) → length (at p order) ≤ MOST_LEVELS
count-few p st Variables = let a = st.variables_stand.as_many in let b = st.few_variables in omega (arith, a, b)
count-few p st Elements = let a = st.elements_stand.as_many in let b = st.few_elements in omega (arith, a, b)

module _ (p : Plain) (st : IsStore p) where
  -- each variable and each element has a number by which the store knows it
  pub is-numbered : (order : Order) (n : ℕ) → n < length (at p order) → IsVariable (kind_of order) (plain_view p) (first_of order + n)
  is-numbered Variables n less = let a = st.variables_stand.as_many in let b = st.few_variables in (omega (arith, a, b, less), omega (arith, a, less))
  is-numbered Elements n less = let a = st.elements_stand.as_many in (omega arith, omega (arith, a, less))

  level-number : (order : Order) (n : ℕ) → n < length (at p order) → level_in p (first_of order + n) ≡ slice_index (levels_by p order) n
  level-number Variables n less =
      let a = st.variables_stand.as_many in let b = st.few_variables in
      let same : 0 + n ≡ n = omega arith in
      rw (lt-ltb (0 + n) first_element (omega (arith, a, b, less))) (ap (slice_index p.variable_levels) same)
  level-number Elements n less =
      let same : element_of (first_element + n) ≡ n = omega arith in
      rw (le-ltb (first_element + n) first_element (omega arith)) (ap (slice_index p.element_levels) same)

  -- what the order has at a level has that level
  pub here-below : (order : Order) (level : ℕ) → level < length (at p order) → slice_index (at p order) level < length (at p order)
  here-below order level less = let i = inverse p st order in let e = (i.each level less).0 in let long = i.as_many in omega (arith, e, long)

  pub here-level : (order : Order) (level : ℕ) → level < length (at p order) → level_in p (first_of order + slice_index (at p order) level) ≡ level
  here-level order level less = level-number order (slice_index (at p order) level) (here-below order level less) ∙ ((inverse p st order).each level less).1

  -- and nothing else has it
  pub stands : (order : Order) (n level : ℕ) → n < length (at p order) → level_in p (first_of order + n) ≡ level → StandsAt (orders_of p) order n level
  stands order n level less is =
      let v = is-numbered order n less in
      let within = st.ordered.within (kind_of order) (first_of order + n) v in
      let count = count-is p st order in
      let l : level < length (at p order) = omega (arith, within, count, is) in
      let here : ℕ = slice_index (at p order) level in
      let same : first_of order + here ≡ first_of order + n =
      st.ordered.alone (kind_of order) (first_of order + here) (first_of order + n) (is-numbered order here (here-below order level l)) v (here-level order level l ∙ sym is) in
      (l, omega (arith, same))

module _ (p q : Plain) (of : IsStore p) (of' : IsStore q) (grown : Grown (plain_view p) (plain_view q)) where
  as-many : (order : Order) → length (at q order) ≡ length (at p order)
  as-many Variables = of'.variables_stand.as_many ∙ grown.vars ∙ sym of.variables_stand.as_many
  as-many Elements = of'.elements_stand.as_many ∙ grown.elements ∙ sym of.elements_stand.as_many

  same-at : (order : Order) → at q order ≡ at p order
  same-at order = ext_get_or 0 (at q order) (at p order) (as-many order) (λ l less.
      let here : ℕ = slice_index (at q order) l in
      let long = as-many order in
      let below = here-below q of' order l less in
      let level : level_in p (first_of order + here) ≡ l = sym (ap (λ (f : ℕ → ℕ). f (first_of order + here)) grown.level) ∙ here-level q of' order l less in
      sym (stands p of order here l (omega (arith, below, long)) level).1)

  -- Both orders stay while a store grows.
  pub orders-grown : orders_of q ≡ orders_of p
  orders-grown = λ i. record { variables = same-at Variables i; elements = same-at Elements i }
