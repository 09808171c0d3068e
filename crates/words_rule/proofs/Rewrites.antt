-- The steps of one swap on words: a node is rewritten in its slot, and the two order words are stored one after the other.
use Rattle.std.proofs.Common.{◌≡◌, ◌≢◌, ◌⊎◌, ℕ, ◌+◌, ◌-◌, ◌<◌, ◌≤◌, true, false, Bool, cond, eqb-true, ◌==◌, List, [], ◌∷◌, set, length, get_or, refl, ap, sym, subst, ◌∙◌, inl, inr, ⊎_elim, arith, get_or-set_other, get_or-set_same, length-set}
use Rattle.std.specs.Prelude as std
use Rattle.std.specs.Prelude.{Some, None, option_map, slice_index}
use Rattle.std.specs.List.{swap}
use Rattle.std.proofs.lemmas.Bool.{cases_lt, cases_eq, lt-ltb, le-ltb}
use Rattle.std.proofs.lemmas.List.Edits.{length-swap, swap_is}
use mathlib.Core.Logic.{dite}
use mathlib.Core.Option.{Option, some, some-injective}
use native.Mathlib.Decide.{ℕ_discrete}
use lib.ListN.{get_elem?}
use Rattle.atomic_table.proofs.Lists.{at_map}
use Rattle.edge_bits.specs.declared.edges.Edge.{Edge}
use Rattle.edge_bits.specs.declared.edges.Kind.{Kind}
use Rattle.edge_bits.specs.declared.words.Word.TheVariants.{Inner}
use Rattle.edge_bits.specs.Words.{unpack_of}
use Rattle.function_laws.specs.declared.orders.Order.{Order}
use Rattle.function_laws.specs.declared.orders.Order.TheVariants.{Variables, Elements}
use Rattle.function_laws.specs.Sizes.{Orders, in_order}
use Rattle.function_laws.specs.Tables.{Sizes}
use Rattle.function_laws.specs.EntryOrders.{opening_orders, orders_from}
use Rattle.node_store.specs.Contents.{Content, IsOrder, IsSound, Pair, view_of}
use Rattle.node_store.proofs.Exchange.{new_place, place_other}
use Rattle.function_laws.specs.SiftedOrders as sifted
use Rattle.node_store.specs.Changes.{put_at, CanRewrite, CanExchange, exchanged, rewritten}
use Rattle.node_store.proofs.Rewriting.{put_at-same, put_at-other, rewritten_sound}
use Rattle.node_store.proofs.ExchangeSound.{exchanged_sound}
use Rattle.function_laws.specs.SessionEntries.{Each}
use Rattle.words_rule.specs.Generations.{IsOfSlot}
use Rattle.words_rule.specs.Holders.{AreHolders, IsAge, IsHolder}
use Rattle.words_rule.specs.declared.cell.Cell.{Cell}
use Rattle.words_rule.specs.declared.view.Hold.{Hold}
use Rattle.words_rule.specs.declared.view.Hold.TheVariants.{Free, Claimed, Holding}
use Rattle.words_rule.specs.declared.view.Known.{Known}
use Rattle.words_rule.specs.declared.view.Draws.{Draws}
use Rattle.words_rule.specs.declared.view.Job.{Job}
use Rattle.words_rule.specs.declared.view.Hand.{Hand}
use Rattle.words_rule.specs.declared.view.View.{View}
use Rattle.words_rule.specs.Views.{sizes_for, orders_of, told_orders}
use Rattle.words_rule.specs.Layout.{Shape, Words, entry_at, item_at, level_entry, places, Positions, content_of}
use Rattle.words_rule.specs.Exchanges.{dues_of, item, position}
use Rattle.words_rule.specs.Chains.{Lists}
use Rattle.words_rule.specs.Journal.{Journal}
use Rattle.words_rule.specs.Phase.{Phase, footing_of, hold, bit}
use Rattle.words_rule.specs.Tallies.{Counted, tally_of}
use Rattle.words_rule.specs.Kept.{Kept, Board, IsHeldBy}
use Rattle.words_rule.specs.Ordered.{KnowsOrders, Ordered}
use Rattle.words_rule.specs.Hands.{place_of, HasLevel, without_level, Tables, Linked}
use Rattle.words_rule.specs.Seen.{HasShare, KeepsSlots, StandsSo, IsSeen}
use Rattle.words_rule.specs.declared.view.Neighbours.{Neighbours}
use Rattle.words_rule.specs.Halves.{half_in, pair_of}
use Rattle.words_rule.specs.Rule.{Parts, Tied, HalfHolder, draws_in, footings_in, tallies_in, hands_in}
use Rattle.words_rule.proofs.Seeing.{seen_other, seen_alone}
use Rattle.words_rule.proofs.Lists.{each_set, set_at, map_at}
use Rattle.words_rule.proofs.Phases.{excludes, excludes_full, one_order}
use Rattle.words_rule.proofs.Sifting.{steps_same}
use Rattle.words_rule.proofs.Layouts.{content_set}
use Rattle.words_rule.proofs.Handling.{rewrites_it, hands_it}
use Rattle.words_rule.proofs.Linking.{words_it, hand_links}
use Rattle.words_rule.proofs.Draws.{frame, by_full, PendingBy}
use Rattle.words_rule.proofs.Handed.{moved, parts_moved, remembered_here}
use Rattle.words_rule.specs.Remembered.{Remembered}
use Rattle.words_rule.proofs.Remembering.{remembered_away}
use Rattle.free_list.specs.FreeSlots.{FreeSlots}

-- two neighbours exchanged
swapped_at : (xs : List ℕ) (l : ℕ) → l + 1 < length xs → slice_index (swap xs l (l + 1)) l ≡ slice_index xs (l + 1)
swapped_at xs l lt = ap (λ (ys : List ℕ). get_or ys l 0) (sym (swap_is xs l (l + 1) 0 (omega (arith, lt)) lt))
    ∙ get_or-set_other (set xs l (get_or xs (l + 1) 0)) (l + 1) l (get_or xs l 0) 0 (λ e. omega (arith, e)) ∙ get_or-set_same xs l (get_or xs (l + 1) 0) 0 (omega (arith, lt))

swapped_next : (xs : List ℕ) (l : ℕ) → l + 1 < length xs → slice_index (swap xs l (l + 1)) (l + 1) ≡ slice_index xs l
swapped_next xs l lt = ap (λ (ys : List ℕ). get_or ys (l + 1) 0) (sym (swap_is xs l (l + 1) 0 (omega (arith, lt)) lt))
    ∙ get_or-set_same (set xs l (get_or xs (l + 1) 0)) (l + 1) (get_or xs l 0) 0 (let e = length-set xs l (get_or xs (l + 1) 0) in omega (arith, e, lt))

swapped_else : (xs : List ℕ) (l j : ℕ) → l + 1 < length xs → j ≢ l → j ≢ l + 1 → slice_index (swap xs l (l + 1)) j ≡ slice_index xs j
swapped_else xs l j lt a b = ap (λ (ys : List ℕ). get_or ys j 0) (sym (swap_is xs l (l + 1) 0 (omega (arith, lt)) lt))
    ∙ get_or-set_other (set xs l (get_or xs (l + 1) 0)) (l + 1) j (get_or xs l 0) 0 (λ e. b e) ∙ get_or-set_other xs l j (get_or xs (l + 1) 0) 0 (λ e. a e)

-- a position and a level, as words
as_item : (z : Shape) (os : Orders) (p : ℕ) → p < places z → entry_at z os p ≡ item_at z os p
as_item z os p lt = ap (λ b. cond b (item_at z os p) (level_entry z os (p - places z))) (lt-ltb p (places z) lt)

as_level : (z : Shape) (os : Orders) (p : ℕ) → places z ≤ p → entry_at z os p ≡ level_entry z os (p - places z)
as_level z os p le = ap (λ b. cond b (item_at z os p) (level_entry z os (p - places z))) (le-ltb p (places z) le)

level_first : (z : Shape) (os : Orders) (i : ℕ) → i < z.variables → level_entry z os i ≡ sifted.place_of i os.variables
level_first z os i lt = ap (λ b. cond b (sifted.place_of i os.variables) (sifted.place_of (i - z.variables) os.elements)) (lt-ltb i z.variables lt)

level_later : (z : Shape) (os : Orders) (i : ℕ) → z.variables ≤ i → level_entry z os i ≡ sifted.place_of (i - z.variables) os.elements
level_later z os i le = ap (λ b. cond b (sifted.place_of i os.variables) (sifted.place_of (i - z.variables) os.elements)) (le-ltb i z.variables le)

-- who stands at neither of two neighbours keeps its place
place_kept : (order : List ℕ) (l : ℕ) → IsOrder order → l + 1 < length order → (u : ℕ) → u < length order → u ≢ slice_index order l → u ≢ slice_index order (l + 1) → sifted.place_of u (swap order l (l + 1)) ≡ sifted.place_of u order
place_kept order l is lt u below a b = new_place order l is lt u below
    ∙ place_other l (sifted.place_of u order) (λ e. a (sym (is.there u below) ∙ ap (slice_index order) e)) (λ e. b (sym (is.there u below) ∙ ap (slice_index order) e))

module _ (z : Shape) (orders : Orders) (variables_long : length orders.variables ≡ z.variables) (elements_long : length orders.elements ≡ z.elements) (level : ℕ) where
  first : (os : Orders) (p : ℕ) → p < z.variables → entry_at z os p ≡ slice_index os.variables p
  first os p lt = as_item z os p (omega (arith, lt)) ∙ ap (λ b. cond b (slice_index os.variables p) (slice_index os.elements (p - z.variables))) (lt-ltb p z.variables lt)

  later : (os : Orders) (p : ℕ) → z.variables ≤ p → p < places z → entry_at z os p ≡ slice_index os.elements (p - z.variables)
  later os p le below = as_item z os p below ∙ ap (λ b. cond b (slice_index os.variables p) (slice_index os.elements (p - z.variables))) (le-ltb p z.variables le)

  -- the exchange changes two positions
  entry_here : (which : Order) → level + 1 < length (in_order orders which) → entry_at z (exchanged orders which level) (position z which level) ≡ entry_at z orders (position z which level + 1)
  entry_here Variables lt = first (exchanged orders Variables level) level (omega (arith, lt, variables_long)) ∙ swapped_at orders.variables level lt ∙ sym (first orders (level + 1) (omega (arith, lt, variables_long)))
  entry_here Elements lt = later (exchanged orders Elements level) (z.variables + level) (omega arith) (omega (arith, lt, elements_long)) ∙ ap (slice_index (swap orders.elements level (level + 1))) (omega arith) ∙ swapped_at orders.elements level lt
      ∙ ap (slice_index orders.elements) (omega arith) ∙ sym (later orders (z.variables + level + 1) (omega arith) (omega (arith, lt, elements_long)))

  entry_else : (which : Order) → level + 1 < length (in_order orders which) → (p : ℕ) → p < places z → p ≢ position z which level → p ≢ position z which level + 1 → entry_at z (exchanged orders which level) p ≡ entry_at z orders p
  entry_else Variables lt p below a b = elim (cases_lt p z.variables) [
    | inl low ↦ first (exchanged orders Variables level) p low ∙ swapped_else orders.variables level p lt a b ∙ sym (first orders p low)
    | inr high ↦ later (exchanged orders Variables level) p high below ∙ sym (later orders p high below)
  ]
  entry_else Elements lt p below a b = elim (cases_lt p z.variables) [
    | inl low ↦ first (exchanged orders Elements level) p low ∙ sym (first orders p low)
    | inr high ↦ later (exchanged orders Elements level) p high below ∙ swapped_else orders.elements level (p - z.variables) lt (λ e. a (omega (arith, e, high))) (λ e. b (omega (arith, e, high))) ∙ sym (later orders p high below)
  ]

  -- and two levels
  level_else : (which : Order) → IsOrder (in_order orders which) → level + 1 < length (in_order orders which) → (i : ℕ) → i < places z → i ≢ item z which (slice_index (in_order orders which) level) → i ≢ item z which (slice_index (in_order orders which) (level + 1))
      → level_entry z (exchanged orders which level) i ≡ level_entry z orders i
  level_else Variables is lt i below a b = elim (cases_lt i z.variables) [
    | inl low ↦ level_first z (exchanged orders Variables level) i low ∙ place_kept orders.variables level is lt i (omega (arith, low, variables_long)) a b ∙ sym (level_first z orders i low)
    | inr high ↦ level_later z (exchanged orders Variables level) i high ∙ sym (level_later z orders i high)
  ]
  level_else Elements is lt i below a b = elim (cases_lt i z.variables) [
    | inl low ↦ level_first z (exchanged orders Elements level) i low ∙ sym (level_first z orders i low)
    | inr high ↦ level_later z (exchanged orders Elements level) i high
        ∙ place_kept orders.elements level is lt (i - z.variables) (omega (arith, high, below, elements_long)) (λ e. a (omega (arith, e, high))) (λ e. b (omega (arith, e, high))) ∙ sym (level_later z orders i high)
  ]

  long_after : (which : Order) → (length (exchanged orders which level).variables ≡ z.variables) × (length (exchanged orders which level).elements ≡ z.elements)
  long_after Variables = (length-swap orders.variables level (level + 1) ∙ variables_long, elements_long)
  long_after Elements = (variables_long, length-swap orders.elements level (level + 1) ∙ elements_long)

  -- the first of the order words is stored, and the others are due
  pub positions_first : (which : Order) → IsOrder (in_order orders which) → level + 1 < length (in_order orders which) → (order : ℕ → ℕ) → Positions z order orders []
      → Positions z (put_at order (position z which level) (entry_at z orders (position z which level + 1))) (exchanged orders which level) (dues_of z orders which level)
  positions_first which is lt order p = record {
    variables_long = (long_after which).0;
    elements_long = (long_after which).1;
    at = λ q below not_due. elim (cases_eq q (position z which level)) [
      | inl e ↦ subst (λ (x : ℕ). put_at order (position z which level) (entry_at z orders (position z which level + 1)) x ≡ entry_at z (exchanged orders which level) x) (sym e)
          (put_at-same order (position z which level) (entry_at z orders (position z which level + 1)) ∙ sym (entry_here which lt))
      | inr ne ↦ put_at-other order (position z which level) q (entry_at z orders (position z which level + 1)) ne ∙ p.at q below (λ there. there)
          ∙ elim (cases_lt q (places z)) [
            | inl low ↦ sym (entry_else which lt q low ne (λ e. not_due (inl (sym e))))
            | inr high ↦ as_level z orders q high
                ∙ sym (level_else which is lt (q - places z) (omega (arith, high, below)) (λ e. not_due (inr (inl (omega (arith, e, high))))) (λ e. not_due (inr (inr (inl (omega (arith, e, high)))))))
                ∙ sym (as_level z (exchanged orders which level) q high)
          ]
    ];
  }

-- what is in a list but for one number
lists_without : (due q : ℕ) → q ≢ due → (l : List ℕ) → Lists l q → Lists (without_level due l) q
lists_without due q apart [] there = absurd there
lists_without due q apart (x ∷ l) there = by (x == due) refl (λ more. lists_without due q apart l more)
  where
    by : (b : Bool) → (x == due) ≡ b → (Lists l q → Lists (without_level due l) q) → Lists (without_level due (x ∷ l)) q
    by true e rest = subst (λ b. Lists (cond b (without_level due l) (x ∷ without_level due l)) q) (sym e) (⊎_elim (λ same. absurd (apart (sym same ∙ eqb-true x due e))) rest there)
    by false e rest = subst (λ b. Lists (cond b (without_level due l) (x ∷ without_level due l)) q) (sym e) (⊎_elim (λ same. inl same) (λ more. inr (rest more)) there)

-- a word that was due is stored
pub positions_next : (z : Shape) (orders : Orders) (due : ℕ) (pending : List ℕ) (order : ℕ → ℕ) → Positions z order orders pending → Positions z (put_at order due (entry_at z orders due)) orders (without_level due pending)
positions_next z orders due pending order p = record {
  variables_long = p.variables_long;
  elements_long = p.elements_long;
  at = λ q below not_due. elim (cases_eq q due) [
    | inl e ↦ subst (λ (x : ℕ). put_at order due (entry_at z orders due) x ≡ entry_at z orders x) (sym e) (put_at-same order due (entry_at z orders due))
    | inr ne ↦ put_at-other order due q (entry_at z orders due) ne ∙ p.at q below (λ there. not_due (lists_without due q ne pending there))
  ];
}

module _ {S : Type 0} (board : S → List (std.Option Cell)) (free_slots : S → FreeSlots) (memo : S → List ℕ) where
  abbrev PartsOf : Shape → Words → (ℕ → Option (Option (std.Option S))) → List View → Type 0
  PartsOf = Parts board free_slots memo

  module _ (z : Shape) (ws : Words) (home : ℕ → Option (Option (std.Option S))) (vs : List View) (r : PartsOf z ws home vs) (id : ℕ) (v : View) (at : get_elem? vs id ≡ some v) where
    -- who has the full hold has the order hold
    pub order_by_full : v.shares.full ≡ Holding → v.shares.order ≡ Holding
    order_by_full full =
        let w = (r.phase.within id (footing_of v) (at_map footing_of vs id v at)).1 in
        let one : hold v.shares.full ≡ 1 = ap hold full in holds v.shares.order (omega (arith, w, one))
      where
        holds : (h : Hold) → 0 < hold h → h ≡ Holding
        holds Holding lt = refl
        holds Free lt = absurd (omega (arith, lt))
        holds Claimed lt = absurd (omega (arith, lt))

    -- beside an order holder that has taken no slot nobody has
    pub nobody_takes : v.shares.order ≡ Holding → v.hand.taken ≡ None → (i : ℕ) (g : Hand) → get_elem? (hands_in vs) i ≡ some g → g.taken ≡ None
    nobody_takes holding none_taken i g there =
        let m = map_at (λ (u : View). u.hand) vs i g there in
        subst (λ (h : Hand). h.taken ≡ None) m.2 (by_taken m.0 m.1 m.0.hand.taken refl)
      where
        by_taken : (u : View) → get_elem? vs i ≡ some u → (o : std.Option Job) → u.hand.taken ≡ o → u.hand.taken ≡ None
        by_taken u lies None e = e
        by_taken u lies (Some due) e = absurd (dite (ℕ_discrete i id)
            (λ same. never due (sym none_taken ∙ (ap (λ (y : View). y.hand.taken) (some-injective v u (sym at ∙ (ap (λ j. get_elem? vs j) (sym same) ∙ lies))) ∙ e)))
            (λ apart. ⊎_elim
            (λ held. excludes ws.phase (footings_in vs) r.phase i id (footing_of u) (footing_of v) (at_map footing_of vs i u lies) (at_map footing_of vs id v at) held holding)
            (λ other. one_order ws.phase (footings_in vs) r.phase id i (footing_of v) (footing_of u) apart (at_map footing_of vs id v at) (at_map footing_of vs i u lies) holding other)
            ((r.tied i u lies).taken (λ gone. never due (sym gone.0 ∙ e)))))
          where
            never : (b : Job) → None ≡ Some b → ⊥
            never b e = cc

    seen_with : (k : Known) → k.words ≡ v.known.words → k.seen ≡ v.known.seen → IsSeen z ws.node r.function (record v { known = k })
    seen_with k words seen = record { words = λ has. subst (Each (StandsSo ws.node v)) (sym words) ((r.seen id v at).words has); held = λ has. subst (Each (IsHeldBy z r.function)) (sym seen) ((r.seen id v at).held has) }

    -- beside an order holder nobody else has a share or a hold
    pub nobody_shares : v.shares.order ≡ Holding → (j : ℕ) (u : View) → j ≢ id → get_elem? vs j ≡ some u → HasShare u → ⊥
    nobody_shares holding j u apart there = ⊎_elim
        (λ held. excludes ws.phase (footings_in vs) r.phase j id (footing_of u) (footing_of v) (at_map footing_of vs j u there) (at_map footing_of vs id v at) held holding)
        (λ other. one_order ws.phase (footings_in vs) r.phase id j (footing_of v) (footing_of u) apart (at_map footing_of vs id v at) (at_map footing_of vs j u there) holding other)

    pub nobody_keeps : v.shares.full ≡ Holding → (j : ℕ) (u : View) → j ≢ id → get_elem? vs j ≡ some u → KeepsSlots u → ⊥
    nobody_keeps full j u apart there = ⊎_elim (nobody_shares (order_by_full full) j u apart there)
        (λ walking. excludes_full ws.phase (footings_in vs) r.phase j id (footing_of u) (footing_of v) (at_map footing_of vs j u there) (at_map footing_of vs id v at) walking full)

    -- nobody else has the full hold
    not_full : v.shares.full ≡ Holding → (j : ℕ) (u : View) → j ≢ id → get_elem? vs j ≡ some u → u.shares.full ≡ Holding → ⊥
    not_full full j u apart there other =
        let w = (r.phase.within j (footing_of u) (at_map footing_of vs j u there)).1 in
        let one : hold u.shares.full ≡ 1 = ap hold other in nobody_shares (order_by_full full) j u apart there (inr (holds u.shares.order (omega (arith, w, one))))
      where
        holds : (h : Hold) → 0 < hold h → h ≡ Holding
        holds Holding lt = refl
        holds Free lt = absurd (omega (arith, lt))
        holds Claimed lt = absurd (omega (arith, lt))

    -- what holders know, where the seat with the full hold alone changes the swap that is half made, and what it knows of it
    pub holders_now : (w : View) (half : std.Option Pair) (pending : List ℕ) → v.shares.full ≡ Holding → w.shares ≡ v.shares → w.known.ages ≡ v.known.ages → half_in w.known ≡ half → w.known.pending ≡ pending → AreHolders ws.count half pending (set vs id w)
    holders_now w half pending full same ages half_is pending_is = each_set (λ _ (u : View). IsHolder ws.count half pending u) vs id w
        (λ i u apart there. ((r.holders i u there).0, λ other. absurd (not_full full i u apart there other)))
        ((λ _. subst (Each (IsAge ws.count)) (sym ages) ((r.holders id v at).0 (order_by_full full))), (λ _. (half_is, pending_is)))

    -- a node is rewritten in its slot under the full hold, on no chain, the turns of both levels in hand: each slot keeps its function. The seat notes the word, and the swap that it makes.
    pub parts_rewrite : (k : Kind) (s x : ℕ) (hi lo : Edge) (can : CanRewrite k (content_of z ws.node r.orders r.function r.half) s x hi lo) (bits : ℕ) → bits < 18446744073709551616
        → v.shares.full ≡ Holding → v.hand.taken ≡ None → v.hand.loose ≡ Some s → HasLevel v.hand (place_of z x) → (known : Known) → orders_of known ≡ orders_of v.known → told_orders known ≡ told_orders v.known → known.pending ≡ v.known.pending → known.ages ≡ v.known.ages
        → Each (StandsSo (put_at ws.node s bits) v) known.words → known.seen ≡ v.known.seen
        → unpack_of bits ≡ Some (Inner (record { var = x; hi = hi.index; lo = lo })) → half_in known ≡ (rewritten (content_of z ws.node r.orders r.function r.half) s x hi lo).half
        → PartsOf z (record ws { node = put_at ws.node s bits }) home (set vs id (moved v v.hand known))
    parts_rewrite k s x hi lo can bits small full none_taken loose to known orders told due ages words seen reads noted =
        let w : Content = content_of z ws.node r.orders r.function r.half in
        let h : Hand = v.hand in
        let nd : ℕ → ℕ = put_at ws.node s bits in
        let half : std.Option Pair = (rewritten w s x hi lo).half in
        let content : content_of z nd r.orders r.function half ≡ rewritten w s x hi lo = content_set z ws.node r.orders r.function r.function r.half half s bits (Some (Inner (record { var = x; hi = hi.index; lo = lo }))) reads in
        let t = r.tied id v at in
        let hand_at = at_map (λ (u : View). u.hand) vs id v at in
        let off = (r.tables.loosened id h hand_at s loose).1 in
        let u : View = moved v h known in
        let tables = rewrites_it free_slots z w r.on ws.free_turn ws.turn home (hands_in vs) r.tables id h hand_at s (rewritten w s x hi lo) (Inner (record { var = x; hi = hi.index; lo = lo })) loose
        (put_at-same w.word s (Some (Inner (record { var = x; hi = hi.index; lo = lo })))) (λ q ne. put_at-other w.word s q (Some (Inner (record { var = x; hi = hi.index; lo = lo }))) ne) to (nobody_takes (order_by_full full) none_taken) in
        let linked = words_it z ws.node ws.next ws.head r.on r.chain (hands_in vs) r.linked s bits small off in
        parts_moved board free_slots memo z ws home vs r id v at h known ws.free_turn ws.memo_turn ws.turn nd ws.next ws.head home r.function half r.on r.chain refl orders told due r.kept
        (subst IsSound (sym content) (rewritten_sound w r.sound k s x hi lo can))
        (remembered_here board free_slots memo z ws home vs r id v at h refl home refl nd r.function half (λ q f is. is))
        (subst (λ (c : Content). Tables free_slots z c r.on ws.free_turn ws.turn home (set (hands_in vs) id h)) (sym content)
        (hands_it free_slots z (rewritten w s x hi lo) r.on ws.free_turn ws.turn home (hands_in vs) tables id h hand_at h refl refl refl refl (r.tables.walking id h hand_at)))
        (hand_links z nd ws.next ws.head r.on r.chain (hands_in vs) linked id h (r.linked.links id h hand_at) (linked.walks id h hand_at) (r.linked.wholes id h hand_at))
        (record { zeros = t.zeros; pins = t.pins; taken = t.taken; alone = t.alone; dead = t.dead })
        (inr ((id, u, set_at vs id v u at, full), noted))
        (seen_alone z ws.node r.function vs r.seen id u nd r.function (nobody_keeps full) (record {
          words = λ has. words;
          held = λ has. subst (Each (IsHeldBy z r.function)) (sym seen) ((r.seen id v at).held has);
        }))
        (holders_now u half r.pending full refl ages noted (due ∙ ((r.holders id v at).1 full).1))

    -- a step that changes what a seat knows of the orders, and an order word
    unfoldable pub parts_known : (k : Known) (order : ℕ → ℕ) (orders : Orders) (pending : List ℕ) (half : std.Option Pair)
        → IsSound (content_of z ws.node orders r.function half) → Remembered memo (view_of (content_of z ws.node orders r.function half)) ws.memo_turn (home 2) (hands_in vs) → Tables free_slots z (content_of z ws.node orders r.function half) r.on ws.free_turn ws.turn home (hands_in vs)
        → Positions z order orders pending → Ordered orders (orders_from (opening_orders (sizes_for z.variables z.elements)) r.log) (set vs id (record v { known = k }))
        → (half ≡ None) ⊎ HalfHolder half (set vs id (record v { known = k })) → PendingBy pending (set vs id (record v { known = k })) → IsSeen z ws.node r.function (record v { known = k })
        → IsHolder ws.count half pending (record v { known = k }) → ((i : ℕ) (u : View) → i ≢ id → get_elem? vs i ≡ some u → IsHolder ws.count half pending u)
        → PartsOf z (record ws { order = order }) home (set vs id (record v { known = k }))
    parts_known k order orders pending half sound remembered tables positions ordered half_by pending_by is_seen holder others =
        let w : View = record v { known = k } in
        let start : Sizes = sizes_for z.variables z.elements in
        let drawn : draws_in (set vs id w) ≡ draws_in vs = frame (λ (v : View). v.draws) vs id v w at refl in
        let tallied : tallies_in (set vs id w) ≡ tallies_in vs = frame tally_of vs id v w at refl in
        let t = r.tied id v at in record {
          log = r.log;
          table = r.table;
          cells = r.cells;
          function = r.function;
          half = half;
          orders = orders;
          pending = pending;
          on = r.on;
          chain = r.chain;
          journal = subst (λ (ds : List Draws). Journal ws.journal ws.board_turn ds start r.log r.table) (sym drawn) r.journal;
          phase = subst (Phase ws.phase) (sym (frame footing_of vs id v w at refl)) r.phase;
          counts = subst (Counted ws.count r.cells) (sym tallied) r.counts;
          kept = subst (Kept z r.function r.cells) (sym tallied) r.kept;
          on_board = subst (λ (ds : List Draws). Board board ws.board_turn (home 0) ds r.table r.cells) (sym drawn) r.on_board;
          positions = positions;
          ordered = ordered;
          sound = sound;
          remembered = subst (Remembered memo (view_of (content_of z ws.node orders r.function half)) ws.memo_turn (home 2)) (sym (frame (λ (v : View). v.hand) vs id v w at refl)) remembered;
          tables = subst (Tables free_slots z (content_of z ws.node orders r.function half) r.on ws.free_turn ws.turn home) (sym (frame (λ (v : View). v.hand) vs id v w at refl)) tables;
          linked = subst (Linked z ws.node ws.next ws.head r.on r.chain) (sym (frame (λ (v : View). v.hand) vs id v w at refl)) r.linked;
          sifts = steps_same start r.log vs r.sifts id v w at refl refl refl;
          tied = each_set (λ i (f : View). Tied f) vs id w (λ i f apart there. r.tied i f there) (record { zeros = t.zeros; pins = t.pins; taken = t.taken; alone = t.alone; dead = t.dead });
          sized = each_set (λ i (f : View). (f.draws.live ≡ true) ⊎ (f.draws.closing ≡ true) → f.draws.slots ≡ z.slots) vs id w (λ i f apart there. r.sized i f there) (r.sized id v at);
          half_by = half_by;
          pending_by = pending_by;
          holders = each_set (λ _ (u : View). IsHolder ws.count half pending u) vs id w others holder;
          generations = each_set (λ _ (u : View). Each (IsOfSlot ws.count u) u.counts.generations) vs id w (λ i u apart there. r.generations i u there) (r.generations id v at);
          seen = seen_other z ws.node r.function vs r.seen id w is_seen;
        }

    -- the seat alone holds the order, and knows the new one
    ordered_now : (k : Known) (orders : Orders) → v.shares.order ≡ Holding → orders_of k ≡ orders → told_orders k ≡ told_orders v.known → Ordered orders (orders_from (opening_orders (sizes_for z.variables z.elements)) r.log) (set vs id (record v { known = k }))
    ordered_now k orders holding is told = record {
      settled = λ nobody. absurd (nobody id (record v { known = k }) (set_at vs id v (record v { known = k }) at) holding);
      shared = each_set (λ _ (u : View). KnowsOrders orders u) vs id (record v { known = k })
          (λ i u apart there has. absurd (excludes ws.phase (footings_in vs) r.phase i id (footing_of u) (footing_of v) (at_map footing_of vs i u there) (at_map footing_of vs id v at) has holding)) (λ _. is);
      held = each_set (λ i (u : View). u.shares.order ≡ Holding → (orders_of u.known ≡ orders) × (told_orders u.known ≡ orders_from (opening_orders (sizes_for z.variables z.elements)) r.log)) vs id (record v { known = k })
          (λ i u apart there other. absurd (one_order ws.phase (footings_in vs) r.phase id i (footing_of v) (footing_of u) apart (at_map footing_of vs id v at) (at_map footing_of vs i u there) holding other))
          (λ _. (is, told ∙ (r.ordered.held id v at holding).1));
    }

    -- the subtables speak of no order, where nobody has a slot taken
    reordered : (orders : Orders) (half : std.Option Pair) → ((i : ℕ) (g : Hand) → get_elem? (hands_in vs) i ≡ some g → g.taken ≡ None)
        → Tables free_slots z (content_of z ws.node orders r.function half) r.on ws.free_turn ws.turn home (hands_in vs)
    reordered orders half none_taken = let t = r.tables in record {
      free_now = t.free_now;
      free_holder = t.free_holder;
      holder = t.holder;
      taker = t.taker;
      loose = t.loose;
      free_is = record { free = t.free_is.free; once = t.free_is.once; all = t.free_is.all };
      free_home = t.free_home;
      free_held = t.free_held;
      level_home = t.level_home;
      level_held = t.level_held;
      taken = λ i g there due is. absurd (never due (sym (none_taken i g there) ∙ is));
      taken_by = λ s i is. let x = t.taken_by s i is in absurd (never x.1 (sym (none_taken i x.0 x.2) ∙ x.3));
      loosened = t.loosened;
      loose_by = t.loose_by;
      high = t.high;
      complete = t.complete;
      walking = t.walking;
    }
      where
        never : (b : Job) → None ≡ Some b → ⊥
        never b e = cc

    order_is : (which : Order) → IsOrder (in_order r.orders which)
    order_is Variables = r.sound.variables
    order_is Elements = r.sound.elements

    -- the first order word of an exchange is stored, with the computed table in hand, and the orders are exchanged with it
    pub parts_exchange : (which : Order) (level : ℕ) (can : CanExchange (content_of z ws.node r.orders r.function r.half) which level) (k : Known)
        → v.shares.full ≡ Holding → v.hand.memo ≡ true → v.hand.taken ≡ None → r.pending ≡ []
        → orders_of k ≡ exchanged r.orders which level → told_orders k ≡ told_orders v.known → k.words ≡ v.known.words → k.seen ≡ v.known.seen → k.ages ≡ v.known.ages → k.pending ≡ dues_of z r.orders which level → k.half ≡ None
        → PartsOf z (record ws { order = put_at ws.order (position z which level) (entry_at z r.orders (position z which level + 1)) }) home (set vs id (record v { known = k }))
    parts_exchange which level can k full has_memo none_taken settled knows told words seen ages due no_half =
        let holding = order_by_full full in
        let w : View = record v { known = k } in
        parts_known k (put_at ws.order (position z which level) (entry_at z r.orders (position z which level + 1))) (exchanged r.orders which level) (dues_of z r.orders which level) None
        (exchanged_sound (content_of z ws.node r.orders r.function r.half) r.sound which level can)
        (remembered_away memo (view_of (content_of z ws.node r.orders r.function r.half)) (view_of (content_of z ws.node (exchanged r.orders which level) r.function None)) ws.memo_turn (home 2) (hands_in vs) (r.remembered.held id v.hand (at_map (λ (u : View). u.hand) vs id v at) has_memo).1 r.remembered)
        (reordered (exchanged r.orders which level) None (nobody_takes holding none_taken))
        (positions_first z r.orders r.positions.variables_long r.positions.elements_long level which (order_is which) can.within ws.order (subst (Positions z ws.order r.orders) settled r.positions))
        (ordered_now k (exchanged r.orders which level) holding knows told)
        (inl refl) (inr ((id, w, set_at vs id v w at, full), due)) (seen_with k words seen)
        ((λ _. subst (Each (IsAge ws.count)) (sym ages) ((r.holders id v at).0 holding)), (λ _. (ap (option_map pair_of) no_half, due)))
        (λ i u apart there. ((r.holders i u there).0, λ other. absurd (not_full full i u apart there other)))

    -- and each of the others
    pub parts_exchanged : (due : ℕ) (k : Known) → v.shares.full ≡ Holding → v.hand.taken ≡ None → orders_of k ≡ r.orders → told_orders k ≡ told_orders v.known → k.words ≡ v.known.words → k.seen ≡ v.known.seen → k.ages ≡ v.known.ages → k.half ≡ v.known.half → k.pending ≡ without_level due r.pending
        → PartsOf z (record ws { order = put_at ws.order due (entry_at z r.orders due) }) home (set vs id (record v { known = k }))
    parts_exchanged due k full none_taken knows told words seen ages same_half left =
        let holding = order_by_full full in
        let w : View = record v { known = k } in
        parts_known k (put_at ws.order due (entry_at z r.orders due)) r.orders (without_level due r.pending) r.half r.sound r.remembered r.tables
        (positions_next z r.orders due r.pending ws.order r.positions)
        (ordered_now k r.orders holding knows told) (by_full (r.half ≡ None) vs id v w at (ap (λ (n : std.Option Neighbours). (v.shares, n)) same_half) r.half_by) (inr ((id, w, set_at vs id v w at, full), left)) (seen_with k words seen)
        ((λ _. subst (Each (IsAge ws.count)) (sym ages) ((r.holders id v at).0 holding)), (λ _. (ap (option_map pair_of) same_half ∙ ((r.holders id v at).1 full).0, left)))
        (λ i u apart there. ((r.holders i u there).0, λ other. absurd (not_full full i u apart there other)))
