-- The load of an order word under an operation share: what stands at a position, and so the level of what stands there.
use Rattle.std.proofs.Common.{◌≡◌, ⊎_elim, ℕ, ◌+◌, ◌-◌, ◌<◌, cond, List, [], length, ap, sym, ◌∙◌, subst, arith, ◌≤◌}
use Rattle.std.specs.Prelude as std
use Rattle.std.specs.Prelude.{slice_index}
use Rattle.std.proofs.lemmas.Bool.{lt-ltb, le-ltb}
use mathlib.Core.Option.{Option, some}
use lib.ListN.{get_elem?}
use Rattle.atomic_table.proofs.Lists.{at_map}
use Rattle.edge_bits.specs.Permanent.{first_element}
use Rattle.edge_bits.specs.Reading.{element_of}
use Rattle.edge_bits.specs.declared.edges.Kind.{Kind}
use Rattle.edge_bits.specs.declared.edges.Kind.TheVariants.{Bdd, Add, Zdd}
use Rattle.node_store.specs.Contents.{Content, view_of, IsSound}
use Rattle.node_store.specs.Views.{IsVariable, levels}
use Rattle.node_store.proofs.Ordering.{order_at, level-own, orders_are}
use Rattle.function_laws.proofs.LackingParts.{own}
use Rattle.function_laws.specs.SiftedOrders.{place_of}
use Rattle.words_rule.specs.declared.cell.Cell.{Cell}
use Rattle.words_rule.specs.declared.view.Held.{Held}
use Rattle.words_rule.specs.declared.view.Share.TheVariants as shares
use Rattle.words_rule.specs.declared.view.View.{View}
use Rattle.words_rule.specs.Phase.{footing_of}
use Rattle.words_rule.specs.Layout.{Shape, Words, content_of, item_at, level_entry, places}
use Rattle.words_rule.specs.Chains.{Lists}
use Rattle.words_rule.specs.Hands as hands
use Rattle.words_rule.specs.Rule.{Parts, FullHolder, footings_in}
use Rattle.words_rule.specs.Known.{Own, known_of}
use Rattle.words_rule.proofs.Phases.{excludes}
use Rattle.words_rule.proofs.Rewrites.{order_by_full}
use Rattle.words_rule.proofs.Narrowing.{variable_up, level_same}
use Rattle.words_rule.proofs.Meeting.{narrow}
use Rattle.words_rule.proofs.Opened.{within_levels}
use Rattle.free_list.specs.FreeSlots.{FreeSlots}

module _ {S : Type 0} (board : S → List (std.Option Cell)) (free_slots : S → FreeSlots) (memo : S → List ℕ) where
  module _ (z : Shape) (ws : Words) (home : ℕ → Option (Option (std.Option S))) (vs : List View) (r : Parts board free_slots memo z ws home vs) (id : ℕ) (v : View) (at : get_elem? vs id ≡ some v)
      (live : v.draws.live ≡ std.true) (share : v.shares.op ≡ shares.Held) (o : Own) where
    -- beside an operation share no order word is due
    pub none_pending : r.pending ≡ []
    none_pending = ⊎_elim (λ none_due. none_due) (λ (y : (h : FullHolder vs) × (h.1.known.pending ≡ r.pending)). let h = y.0 in
        absurd (excludes ws.phase (footings_in vs) r.phase id h.0 (footing_of v) (footing_of h.1) (at_map footing_of vs id v at) (at_map footing_of vs h.0 h.1 h.2) share (order_by_full board free_slots memo z ws home vs r h.0 h.1 h.2 h.3))) r.pending_by

    -- a position that has the variable or element is its level
    pub level_there : (k : Kind) (u p : ℕ) → IsVariable k (known_of v o).view u → p < length (order_at k r.orders) → slice_index (order_at k r.orders) p ≡ own k u → (known_of v o).view.level u ≡ p
    level_there k u p un lt is =
        let on = r.ordered.shared id v at share in
        let n = narrow board free_slots memo z ws home vs r id v at live share on o in
        let w = content_of z ws.node r.orders r.function r.half in
        sym (level_same n u) ∙ level-own k w u (variable_up n k u un) ∙ ap (λ (x : ℕ). place_of x (order_at k r.orders)) (sym is) ∙ (orders_are w r.sound k).once p lt

    -- a level is below the number of levels, of which there are few
    pub level_few : (k : Kind) (u : ℕ) → IsVariable k (known_of v o).view u → (known_of v o).view.level u < first_element
    level_few k u un =
        let w = content_of z ws.node r.orders r.function r.half in
        let n = narrow board free_slots memo z ws home vs r id v at live share (r.ordered.shared id v at share) o in
        let same = level_same n u in
        let lt = within_levels w r.sound k u (variable_up n k u un) in
        let most = levels_few w r.sound k in omega (arith, same, lt, most)
      where
        levels_few : (w : Content) → IsSound w → (k : Kind) → levels k (view_of w) ≤ first_element
        levels_few w sound Bdd = sound.few_variables
        levels_few w sound Add = sound.few_variables
        levels_few w sound Zdd = sound.few_elements

    -- a variable's or an element's level word is its level
    pub level_word : (k : Kind) (u : ℕ) → IsVariable k (known_of v o).view u → (hands.place_of z u < places z) × (ws.order (places z + hands.place_of z u) ≡ (known_of v o).view.level u)
    level_word k u un =
        let on = r.ordered.shared id v at share in
        let n = narrow board free_slots memo z ws home vs r id v at live share on o in
        let i : ℕ = hands.place_of z u in
        let e = by k (variable_up n k u un) in (
          e.0,
          r.positions.at (places z + i) (let lt = e.0 in omega (arith, lt)) (λ due. subst (λ (l : List ℕ). Lists l (places z + i)) none_pending due)
              ∙ ap (λ b. cond b (item_at z r.orders (places z + i)) (level_entry z r.orders (places z + i - places z))) (le-ltb (places z + i) (places z) (omega arith)) ∙ ap (level_entry z r.orders) (omega arith) ∙ e.1
              ∙ level_same n u,
        )
      where
        w : Content
        w = content_of z ws.node r.orders r.function r.half

        of_variable : (u : ℕ) → (u < first_element) × (u < length r.orders.variables) → (hands.place_of z u < places z) × (level_entry z r.orders (hands.place_of z u) ≡ (view_of w).level u)
        of_variable u h =
            let p : hands.place_of z u ≡ u = ap (λ b. cond b u (z.variables + (u - first_element))) (lt-ltb u first_element h.0) in
            let long = r.positions.variables_long in
            let within = h.1 in
            let lt : u < z.variables = omega (arith, within, long) in (
              omega (arith, p, lt),
              ap (level_entry z r.orders) p ∙ ap (λ b. cond b (place_of u r.orders.variables) (place_of (u - z.variables) r.orders.elements)) (lt-ltb u z.variables lt)
                  ∙ sym (ap (λ b. cond b (place_of u r.orders.variables) (place_of (element_of u) r.orders.elements)) (lt-ltb u first_element h.0)),
            )

        by : (k : Kind) → IsVariable k (view_of w) u → (hands.place_of z u < places z) × (level_entry z r.orders (hands.place_of z u) ≡ (view_of w).level u)
        by Bdd h = of_variable u h
        by Add h = of_variable u h
        by Zdd h =
            let p : hands.place_of z u ≡ z.variables + (u - first_element) = ap (λ b. cond b u (z.variables + (u - first_element))) (le-ltb u first_element h.0) in
            let long = r.positions.elements_long in
            let low = h.0 in
            let within = h.1 in (
              omega (arith, p, low, within, long),
              ap (level_entry z r.orders) p ∙ ap (λ b. cond b (place_of (z.variables + (u - first_element)) r.orders.variables) (place_of (z.variables + (u - first_element) - z.variables) r.orders.elements)) (le-ltb (z.variables + (u - first_element)) z.variables (omega arith))
                  ∙ ap (λ (x : ℕ). place_of x r.orders.elements) (omega arith)
                  ∙ sym (ap (λ b. cond b (place_of u r.orders.variables) (place_of (element_of u) r.orders.elements)) (le-ltb u first_element low)),
            )
