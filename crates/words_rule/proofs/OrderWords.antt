-- The order words by the order and the level; the holder of the order loads one.
use Rattle.std.proofs.Common.{◌≡◌, ⊎_elim, ℕ, ◌+◌, ◌-◌, ◌<◌, cond, true, List, [], length, get_or, refl, ap, sym, ◌∙◌, subst, arith}
use Rattle.std.specs.Prelude as std
use Rattle.std.specs.Prelude.{slice_index}
use Rattle.std.proofs.lemmas.Bool.{lt-ltb, le-ltb}
use mathlib.Core.Logic.{dite}
use mathlib.Core.Option.{Option, none, some, some-injective}
use native.Mathlib.Decide.{ℕ_discrete}
use lib.ListN.{get_elem?}
use Rattle.atomic_table.specs.Table.{State, Me, step, keeps, Allows}
use Rattle.atomic_table.proofs.Lists.{at_map}
use Rattle.function_laws.specs.declared.orders.Order.{Order}
use Rattle.function_laws.specs.declared.orders.Order.TheVariants.{Variables, Elements}
use Rattle.function_laws.specs.SiftedOrders.{place_of}
use Rattle.function_laws.specs.Sizes.{Orders, in_order}
use Rattle.words_rule.specs.declared.cell.Cell.{Cell}
use Rattle.words_rule.specs.declared.view.Hold.TheVariants.{Holding}
use Rattle.words_rule.specs.declared.view.View.{View}
use Rattle.words_rule.specs.Chains.{Lists}
use Rattle.words_rule.specs.Exchanges.{item, position}
use Rattle.words_rule.specs.HolderPlays.{position_loaded}
use Rattle.words_rule.specs.Layout.{Shape, Words, entry_at, item_at, level_entry, order_at, places, words_of}
use Rattle.words_rule.specs.Phase.{footing_of}
use Rattle.words_rule.specs.Rule.{FullHolder, Parts, Rule, footings_in}
use Rattle.words_rule.proofs.Layouts.{here_order}
use Rattle.words_rule.proofs.Phases.{one_order}
use Rattle.words_rule.proofs.Rewrites.{order_by_full}
use Rattle.words_rule.proofs.Stepping.{shape_is}
use Rattle.words_rule.proofs.Tabling.{stays}
use Rattle.words_rule.proofs.OneLoads.{finds_told}
use Rattle.free_list.specs.FreeSlots.{FreeSlots}

module _ (z : Shape) (os : Orders) (variables_long : length os.variables ≡ z.variables) (elements_long : length os.elements ≡ z.elements) where
  pub position_below : (which : Order) (level : ℕ) → level < length (in_order os which) → position z which level < places z
  position_below Variables level lt = omega (arith, lt, variables_long)
  position_below Elements level lt = omega (arith, lt, elements_long)

  pub item_below : (which : Order) (number : ℕ) → number < length (in_order os which) → item z which number < places z
  item_below Variables number lt = omega (arith, lt, variables_long)
  item_below Elements number lt = omega (arith, lt, elements_long)

  -- what stands at a position
  pub position_entry : (which : Order) (level : ℕ) → level < length (in_order os which) → entry_at z os (position z which level) ≡ slice_index (in_order os which) level
  position_entry Variables level lt = ap (λ b. cond b (item_at z os level) (level_entry z os (level - places z))) (lt-ltb level (places z) (omega (arith, lt, variables_long)))
      ∙ ap (λ b. cond b (slice_index os.variables level) (slice_index os.elements (level - z.variables))) (lt-ltb level z.variables (omega (arith, lt, variables_long)))
  position_entry Elements level lt = ap (λ b. cond b (item_at z os (z.variables + level)) (level_entry z os (z.variables + level - places z))) (lt-ltb (z.variables + level) (places z) (omega (arith, lt, elements_long)))
      ∙ ap (λ b. cond b (slice_index os.variables (z.variables + level)) (slice_index os.elements (z.variables + level - z.variables))) (le-ltb (z.variables + level) z.variables (omega arith)) ∙ ap (slice_index os.elements) (omega arith)

  -- and what the level word of an item is
  pub item_entry : (which : Order) (number : ℕ) → number < length (in_order os which) → entry_at z os (places z + item z which number) ≡ place_of number (in_order os which)
  item_entry Variables number lt = ap (λ b. cond b (item_at z os (places z + number)) (level_entry z os (places z + number - places z))) (le-ltb (places z + number) (places z) (omega arith)) ∙ ap (level_entry z os) (omega arith)
      ∙ ap (λ b. cond b (place_of number os.variables) (place_of (number - z.variables) os.elements)) (lt-ltb number z.variables (omega (arith, lt, variables_long)))
  item_entry Elements number lt = ap (λ b. cond b (item_at z os (places z + (z.variables + number))) (level_entry z os (places z + (z.variables + number) - places z))) (le-ltb (places z + (z.variables + number)) (places z) (omega arith)) ∙ ap (level_entry z os) (omega arith)
      ∙ ap (λ b. cond b (place_of (z.variables + number) os.variables) (place_of (z.variables + number - z.variables) os.elements)) (le-ltb (z.variables + number) z.variables (omega arith)) ∙ ap (λ (x : ℕ). place_of x os.elements) (omega arith)

  -- a position tells the order and the level
  pub same_place : (a b : Order) (l m : ℕ) → l < length (in_order os a) → m < length (in_order os b) → position z a l ≡ position z b m → (a ≡ b) × (l ≡ m)
  same_place Variables Variables l m here there e = (refl, e)
  same_place Elements Elements l m here there e = (refl, omega (arith, e))
  same_place Variables Elements l m here there e = absurd (omega (arith, e, here, variables_long))
  same_place Elements Variables l m here there e = absurd (omega (arith, e, there, variables_long))

pub next_position : (z : Shape) (which : Order) (level : ℕ) → position z which level + 1 ≡ position z which (level + 1)
next_position z Variables level = refl
next_position z Elements level = omega arith

module _ {S : Type 0} (board : S → List (std.Option Cell)) (free_slots : S → FreeSlots) (memo : S → List ℕ) where
  abbrev TheRule : State (std.Option S) View → Type 0
  TheRule = Rule board free_slots memo

  abbrev Sat : Type 0
  Sat = Me (std.Option S) View

  module _ (z : Shape) (ws : Words) (home : ℕ → Option (Option (std.Option S))) (vs : List View) (r : Parts board free_slots memo z ws home vs) (id : ℕ) (v : View) (at : get_elem? vs id ≡ some v) where
    -- who holds the order, and knows of no order word that is due, beside it none is
    none_due : v.shares.order ≡ Holding → v.known.pending ≡ [] → r.pending ≡ []
    none_due holding settled = ⊎_elim (λ is. is) (λ (y : (h : FullHolder vs) × (h.1.known.pending ≡ r.pending)). sym y.1 ∙ (ap (λ (u : View). u.known.pending) (alone y.0) ∙ settled)) r.pending_by
      where
        alone : (h : FullHolder vs) → h.1 ≡ v
        alone h = dite (ℕ_discrete h.0 id)
            (λ same. some-injective h.1 v (sym h.2 ∙ (ap (λ i. get_elem? vs i) same ∙ at)))
            (λ apart. absurd (one_order ws.phase (footings_in vs) r.phase id h.0 (footing_of v) (footing_of h.1) apart (at_map footing_of vs id v at) (at_map footing_of vs h.0 h.1 h.2) holding (order_by_full board free_slots memo z ws home vs r h.0 h.1 h.2 h.3)))

  -- as the table asks for it
  pub loads_position : (slots id word : ℕ) (me : Sat) → me.0.draws.live ≡ true → me.0.shares.order ≡ Holding → me.0.known.pending ≡ [] → Allows TheRule slots id me word (λ n. n) (position_loaded (step slots word 0 0 none) me)
  loads_position slots id word me live holding settled s r long at small =
      let v = me.0 in
      let z = r.shape in
      let p = r.parts in
      let home = λ (k : ℕ). get_elem? s.homes k in
      let ws = words_of z s.words in
      let shape = shape_is board free_slots memo z ws home s.views p id v at live in
      let same_orders = (p.ordered.held id v at holding).0 in
      let none_left = none_due z ws home s.views p id v at holding settled in (
        v,
        keeps,
        tt,
        stays board free_slots memo s word id me r at,
        (
          refl,
          (λ which level same within.
              let lt : level < length (in_order p.orders which) = subst (λ (os : Orders). level < length (in_order os which)) same_orders within in
              let i : ℕ = position z which level in
              let below : i < places z = position_below z p.orders p.positions.variables_long p.positions.elements_long which level lt in
              let inside : i < places z + places z = omega (arith, below) in
              ap (λ (j : ℕ). get_or s.words j 0) (same ∙ ap (λ (y : Shape). order_at y (position y which level)) (sym shape)) ∙ sym (here_order z s.words 0 i inside) ∙ p.positions.at i inside (λ due. subst (λ (l : List ℕ). Lists l i) none_left due)
              ∙ position_entry z p.orders p.positions.variables_long p.positions.elements_long which level lt ∙ ap (λ (os : Orders). slice_index (in_order os which) level) (sym same_orders)),
          finds_told board free_slots memo s r id me.0 at live word,
        ),
      )
