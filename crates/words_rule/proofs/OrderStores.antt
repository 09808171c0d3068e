-- The holder of everything stores the order words of an exchange of two neighbours.
use Rattle.std.proofs.Common.{◌≡◌, ℕ, ◌+◌, ◌<◌, true, List, [], length, set, None, refl, ap, sym, ◌∙◌, subst, arith}
use Rattle.std.specs.Prelude as std
use Rattle.std.specs.Prelude.{slice_index}
use Rattle.std.proofs.lemmas.List.Edits.{length-swap}
use mathlib.Core.Option.{Option, none}
use lib.ListN.{get_elem?}
use Rattle.atomic_table.specs.Table.{State, Me, step, keeps, Allows}
use Rattle.function_laws.specs.declared.orders.Order.{Order}
use Rattle.function_laws.specs.declared.orders.Order.TheVariants.{Variables, Elements}
use Rattle.function_laws.specs.Sizes.{Orders, in_order}
use Rattle.node_store.specs.Contents.{Content}
use Rattle.node_store.specs.Changes.{CanExchange, exchanged, put_at}
use Rattle.node_store.proofs.ExchangeSound.{exchanged_sound}
use Rattle.words_rule.specs.declared.cell.Cell.{Cell}
use Rattle.words_rule.specs.declared.view.Hold.TheVariants.{Holding}
use Rattle.words_rule.specs.declared.view.View.{View}
use Rattle.words_rule.specs.Exchanges.{dues_of, position}
use Rattle.words_rule.specs.Hands.{without_level}
use Rattle.words_rule.specs.HeldContents.{KnowsAll, held_content}
use Rattle.words_rule.specs.HolderPlays.{HasExchanged, due_stored, orders_exchanged}
use Rattle.words_rule.specs.Layout.{Shape, Words, content_of, entry_at, order_at, places, words_of}
use Rattle.words_rule.specs.OneSession.{AreTold, storing_order}
use Rattle.words_rule.specs.Rule.{Parts, Rule}
use Rattle.words_rule.specs.Shapes.{shape_in}
use Rattle.words_rule.specs.Views.{orders_of}
use Rattle.words_rule.proofs.HolderKnows.{can_exchange, same_content}
use Rattle.words_rule.proofs.Layouts.{set_order}
use Rattle.words_rule.proofs.OrderWords.{next_position, position_below, position_entry, same_place}
use Rattle.words_rule.proofs.Rewrites.{order_by_full, parts_exchange, parts_exchanged}
use Rattle.words_rule.proofs.Stepping.{shape_is}
use Rattle.words_rule.proofs.OneSessions.{one_told, parts_told, told_order}
use Rattle.words_rule.proofs.Tabling.{after_word}
use Rattle.free_list.specs.FreeSlots.{FreeSlots}

-- an order word is stored, and no longer due
abbrev stored : View → ℕ → ℕ → View
stored v p entry = record v { known = record v.known { pending = without_level p v.known.pending }; stored = storing_order p entry v.stored }

-- the orders are exchanged, and the other order words are due
abbrev exchanging : View → Order → ℕ → View
exchanging v which level =
    let orders : Orders = exchanged (orders_of v.known) which level in
    record v {
      known = record v.known { variable_order = orders.variables; element_order = orders.elements; pending = dues_of (shape_in v.draws) (orders_of v.known) which level; half = None };
      stored = storing_order (position (shape_in v.draws) which level) (slice_index (in_order (orders_of v.known) which) (level + 1)) v.stored;
    }

module _ (v : View) (know : KnowsAll v) (which : Order) (level : ℕ) (can : CanExchange (held_content v) which level) where
  long_after : (o : Order) → (length (exchanged (orders_of v.known) o level).variables ≡ v.draws.vars) × (length (exchanged (orders_of v.known) o level).elements ≡ v.draws.elements)
  long_after Variables = (length-swap v.known.variable_order level (level + 1) ∙ know.long.0, know.long.1)
  long_after Elements = (know.long.0, length-swap v.known.element_order level (level + 1) ∙ know.long.1)

  has_exchanged : HasExchanged which level v (exchanging v which level)
  has_exchanged = record {
    draws = refl;
    shares = refl;
    counts = refl;
    work = refl;
    hand = refl;
    told = refl;
    pending = refl;
    stored = refl;
    content = refl;
    bits_are = refl;
    knows = record {
      sound = exchanged_sound (held_content v) know.sound which level can;
      long = long_after which;
      noted = know.noted;
      beyond = know.beyond;
      aged = know.aged;
      zeros = know.zeros;
      own = know.own;
      once = know.once;
    };
  }

module _ {S : Type 0} (board : S → List (std.Option Cell)) (free_slots : S → FreeSlots) (memo : S → List ℕ) where
  abbrev TheRule : State (std.Option S) View → Type 0
  TheRule = Rule board free_slots memo

  abbrev Sat : Type 0
  Sat = Me (std.Option S) View

  abbrev PartsOf : Shape → Words → (ℕ → Option (Option (std.Option S))) → List View → Type 0
  PartsOf = Parts board free_slots memo

  -- an order word is stored, with what it is in the orders
  pub stores_due : (slots id word : ℕ) (me : Sat) (p bits : ℕ) → word ≡ order_at (shape_in me.0.draws) p → me.0.draws.live ≡ true → me.0.shares.full ≡ Holding → me.0.hand.taken ≡ None
      → p < places (shape_in me.0.draws) + places (shape_in me.0.draws) → bits ≡ entry_at (shape_in me.0.draws) (orders_of me.0.known) p → Allows TheRule slots id me word (λ _. bits) (due_stored (step slots word bits 0 none) me)
  stores_due slots id word me p bits is live full none_taken inside right = subst (λ (w : ℕ). Allows TheRule slots id me w (λ _. bits) (due_stored (step slots w bits 0 none) me)) (sym is)
      (λ s r long at fits.
      let v = me.0 in
      let z = r.shape in
      let q = r.parts in
      let home = λ (k : ℕ). get_elem? s.homes k in
      let ws = words_of z s.words in
      let shape = shape_is board free_slots memo z ws home s.views q id v at live in
      let orders = (q.ordered.held id v at (order_by_full board free_slots memo z ws home s.views q id v at full)).0 in
      let below : p < places z + places z = subst (λ (y : Shape). p < places y + places y) (sym shape) inside in
      let value : entry_at z q.orders p ≡ bits = (λ i. entry_at (shape i) (sym orders i) p) ∙ sym right in
      let u : View = stored v p bits in
      let ws1 : Words = record ws { order = put_at ws.order p bits } in
      let parts = parts_exchanged board free_slots memo z ws home s.views q id v at p u.known full none_taken orders refl refl refl refl refl (ap (without_level p) ((q.holders id v at).1 full).1) in (
        u,
        keeps,
        tt,
        subst (λ (i : ℕ). TheRule (record { words = set s.words i bits; homes = s.homes; views = set s.views id u })) (ap (λ (y : Shape). order_at y p) shape)
            (after_word board free_slots memo s r (order_at z p) bits (set s.views id u) s.homes ws1 refl (set_order z s.words bits p below r.wide)
            (parts_told board free_slots memo z ws1 home s.views id v (record v { known = u.known }) at (subst (λ (b : ℕ). PartsOf z (record ws { order = put_at ws.order p b }) home (set s.views id (record v { known = u.known }))) value parts) u.stored)
            (one_told board free_slots memo z ws home s.views q r.one id v u at live refl ws1.order ws.node ws.count (λ are. told_order z ws.order ws.node ws.count v.stored are p bits))),
        (refl, refl, λ p' same. ap (λ (j : ℕ). (stored v j bits, me.1)) (let e : p ≡ p' = omega (arith, same) in e)),
      ))

  -- the first one of an exchange is
  pub stores_exchange : (slots id word : ℕ) (me : Sat) (which : Order) (level bits : ℕ) → word ≡ order_at (shape_in me.0.draws) (position (shape_in me.0.draws) which level) → me.0.draws.live ≡ true → me.0.shares.full ≡ Holding → KnowsAll me.0
      → me.0.known.pending ≡ [] → me.0.hand.memo ≡ true → me.0.hand.taken ≡ None → CanExchange (held_content me.0) which level → bits ≡ slice_index (in_order (orders_of me.0.known) which) (level + 1)
      → Allows TheRule slots id me word (λ _. bits) (orders_exchanged (step slots word bits 0 none) me)
  stores_exchange slots id word me which level bits is live full know settled has_memo none_taken can right = subst (λ (w : ℕ). Allows TheRule slots id me w (λ _. bits) (orders_exchanged (step slots w bits 0 none) me)) (sym is)
      (λ s r long at fits.
      let v = me.0 in
      let z = r.shape in
      let q = r.parts in
      let home = λ (k : ℕ). get_elem? s.homes k in
      let ws = words_of z s.words in
      let shape = shape_is board free_slots memo z ws home s.views q id v at live in
      let holding = order_by_full board free_slots memo z ws home s.views q id v at full in
      let orders = (q.ordered.held id v at holding).0 in
      let holder = (q.holders id v at).1 full in
      let held : Content = held_content v in
      let same = same_content board free_slots memo z ws home s.views q id v at live holding know holder.0 in
      let w : Content = content_of z ws.node q.orders q.function q.half in
      let can_now : CanExchange w which level = can_exchange w held.count held.generation held.pinned which level (subst (λ (c : Content). CanExchange c which level) same can) in
      let within : level + 1 < length (in_order q.orders which) = can_now.within in
      let p : ℕ = position z which level in
      let low : p < places z = position_below z q.orders q.positions.variables_long q.positions.elements_long which level (omega (arith, within)) in
      let below : p < places z + places z = omega (arith, low) in
      let value : entry_at z q.orders (p + 1) ≡ bits = ap (entry_at z q.orders) (next_position z which level) ∙ position_entry z q.orders q.positions.variables_long q.positions.elements_long which (level + 1) within
      ∙ ap (λ (os : Orders). slice_index (in_order os which) (level + 1)) (sym orders) ∙ sym right in
      let u : View = exchanging v which level in
      let ws1 : Words = record ws { order = put_at ws.order p bits } in
      let parts = parts_exchange board free_slots memo z ws home s.views q id v at which level can_now u.known full has_memo none_taken (sym holder.1 ∙ settled) (ap (λ (os : Orders). exchanged os which level) orders) refl refl refl refl
      (λ i. dues_of (sym shape i) (orders i) which level) refl in (
        u,
        keeps,
        tt,
        subst (λ (i : ℕ). TheRule (record { words = set s.words i bits; homes = s.homes; views = set s.views id u })) (ap (λ (y : Shape). order_at y (position y which level)) shape)
            (after_word board free_slots memo s r (order_at z p) bits (set s.views id u) s.homes ws1 refl (set_order z s.words bits p below r.wide)
            (parts_told board free_slots memo z ws1 home s.views id v (record v { known = u.known }) at (subst (λ (b : ℕ). PartsOf z (record ws { order = put_at ws.order p b }) home (set s.views id (record v { known = u.known }))) value parts) u.stored)
            (one_told board free_slots memo z ws home s.views q r.one id v u at live refl ws1.order ws.node ws.count
            (λ are. subst (λ (y : ℕ × ℕ). AreTold z ws1.order ws.node ws.count (storing_order y.0 y.1 v.stored)) (λ i. (position (shape i) which level, right i)) (told_order z ws.order ws.node ws.count v.stored are p bits)))),
        (
          refl,
          refl,
          λ other l' same_word lt'.
              let e : position (shape_in v.draws) which level ≡ position (shape_in v.draws) other l' = omega (arith, same_word) in
              let here = can.within in
              let both = same_place (shape_in v.draws) (orders_of v.known) know.long.0 know.long.1 which other level l' (omega (arith, here)) lt' e in
              subst (λ (y : Order × ℕ). HasExchanged y.0 y.1 v u) (λ i. (both.0 i, both.1 i)) (has_exchanged v know which level can),
        ),
      ))
