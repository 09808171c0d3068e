-- Steps on the phase word and on the count words, and the whole step that takes an operation share.
use Rattle.std.proofs.Common.{◌≡◌, ◌≢◌, ◌⊎◌, ℕ, zero, suc, ◌+◌, ◌-◌, ◌%◌, ◌^◌, ◌<◌, true, cond, List, ◌∷◌, set, length, get_or, refl, ap, sym, subst, ◌∙◌, inl, inr, ⊎_elim, arith, length-set, true≢false, [], ne_eqb, ◌==◌}
use Rattle.std.specs.Prelude as std
use Rattle.std.specs.Prelude.{None}
use Rattle.std.proofs.Math.Nat.{mod-eq_of_lt}
use mathlib.Core.Logic.{dite}
use mathlib.Core.Option.{Option, none, some, some-injective}
use native.Mathlib.Decide.{ℕ_discrete, dec_lt}
use lib.ListN.{get_elem?}
use lib.Seq.{map-set}
use Rattle.atomic_table.specs.Table.{State, Me, step, keeps, Allows}
use Rattle.atomic_table.proofs.Lists.{at_map, set_else}
use Rattle.handle_count.specs.CountWords.{count_of, generation_of}
use Rattle.function_laws.specs.SessionEntries.{Each, entries_of}
use Rattle.function_laws.specs.Tables.{Sizes}
use Rattle.function_laws.specs.EntryOrders.{opening_orders, orders_from}
use Rattle.node_store.specs.Changes.{put_at}
use Rattle.function_laws.specs.Sizes.{Orders}
use Rattle.words_rule.proofs.Rewrites.{parts_known}
use Rattle.words_rule.specs.Ordered.{KnowsOrders}
use Rattle.words_rule.specs.Generations.{IsOfSlot}
use Rattle.words_rule.specs.Holders.{IsAge, IsHolder}
use Rattle.words_rule.specs.declared.cell.Cell.{Cell}
use Rattle.words_rule.specs.declared.view.Held.{Held}
use Rattle.words_rule.specs.declared.view.Hold.TheVariants.{Free, Claimed, Holding}
use Rattle.words_rule.specs.declared.view.Share.TheVariants as shares
use Rattle.words_rule.specs.declared.view.Shares.{Shares}
use Rattle.words_rule.specs.declared.view.Counts.{Counts}
use Rattle.words_rule.specs.declared.view.Draws.{Draws}
use Rattle.words_rule.specs.declared.view.View.{View}
use Rattle.words_rule.specs.Views.{sizes_for, orders_of, told_orders}
use Rattle.words_rule.specs.Shapes.{shape_in}
use Rattle.words_rule.specs.Layout.{Shape, Words, words_of, content_of}
use Rattle.words_rule.specs.Journal.{Journal}
use Rattle.words_rule.specs.Phase.{Phase, footing_of, on, weight, bit, with_op, with_walk, with_order, with_full, order_of, walks_of}
use Rattle.words_rule.specs.Tallies.{Counted, Tally, tally_of, size, sessions_of, parts_of, row_count, cells_count, times, one_if, lifted}
use Rattle.words_rule.specs.Kept.{IsHeldBy, KeepsTally, Kept, Board}
use Rattle.words_rule.specs.Hands.{Tables, Linked, IsIdle}
use Rattle.words_rule.specs.Sifted.{IsPlaced, OwesLast, Sifts}
use Rattle.words_rule.specs.Seen.{HasShare, KeepsSlots, StandsSo}
use Rattle.words_rule.specs.Halves.{half_in}
use Rattle.words_rule.specs.OneSession.{OneSession, storer_of}
use Rattle.words_rule.specs.Rule.{Parts, Rule, Tied, FullHolder, HalfHolder, draws_in, footings_in, tallies_in, storers_in}
use Rattle.words_rule.specs.Plays.{shared}
use Rattle.words_rule.proofs.Seeing.{seen_other}
use Rattle.words_rule.proofs.Lists.{each_set, set_at, map_at, each_map}
use Rattle.words_rule.proofs.Retelling.{retells}
use Rattle.words_rule.proofs.Journals.{mine}
use Rattle.words_rule.proofs.Phases.{excludes, op_held, op_owed, op_out, walk_held, walk_owed, order_cleared, walk_out, order_claimed, full_claimed, full_held, full_cleared, small_word}
use Rattle.words_rule.proofs.Tallying.{raises, by_row, by_cell, pays}
use Rattle.words_rule.proofs.Sifting.{steps_same, steps_quiet, stays_placed}
use Rattle.words_rule.proofs.Layouts.{set_phase}
use Rattle.words_rule.proofs.Draws.{frame, by_full, by_pending, one_still}
use Rattle.words_rule.proofs.Handed.{ordered_same}
use Rattle.node_store.specs.Contents.{Pair, view_of}
use Rattle.words_rule.specs.Remembered.{Remembered}
use Rattle.free_list.specs.FreeSlots.{FreeSlots}

walk_nothing : shares.Nothing ≡ shares.Held → ⊥
walk_nothing e = cc

walk_owed_not : shares.Owed ≡ shares.Held → ⊥
walk_owed_not e = cc

set_twice : {A : Type 0} (l : List A) (i : ℕ) (a b : A) → set (set l i a) i b ≡ set l i b
set_twice [] i a b = refl
set_twice (x ∷ xs) zero a b = refl
set_twice (x ∷ xs) (suc i) a b = ap (λ (l : List _). x ∷ l) (set_twice xs i a b)

-- what is never there
claimed_now : Claimed ≡ Holding → ⊥
claimed_now e = cc

free_now : Free ≡ Holding → ⊥
free_now e = cc

-- what a holder knows of generations stays where they do
holder_recounted : (old new : ℕ → ℕ) (half : std.Option Pair) (pending : List ℕ) (v : View) → ((k : ℕ) → generation_of (new k) ≡ generation_of (old k)) → IsHolder old half pending v → IsHolder new half pending v
holder_recounted old new half pending v still h = ((λ holding. each_map (IsAge old) (IsAge new) (λ g right. still g.slot ∙ right) v.known.ages (h.0 holding)), h.1)

-- a view that has noted the orders
abbrev pub with_orders : Orders → View → View
with_orders orders v = record v { known = record v.known { variable_order = orders.variables; element_order = orders.elements } }

module _ {S : Type 0} (board : S → List (std.Option Cell)) (free_slots : S → FreeSlots) (memo : S → List ℕ) where
  abbrev PartsOf : Shape → Words → (ℕ → Option (Option (std.Option S))) → List View → Type 0
  PartsOf = Parts board free_slots memo

  abbrev TheRule : State (std.Option S) View → Type 0
  TheRule = Rule board free_slots memo

  module _ (z : Shape) (ws : Words) (home : ℕ → Option (Option (std.Option S))) (vs : List View) (r : PartsOf z ws home vs) (id : ℕ) (v : View) (at : get_elem? vs id ≡ some v) where
    -- a session's view has the shape
    pub shape_is : v.draws.live ≡ true → z ≡ shape_in v.draws
    shape_is live =
        let m = mine ws.journal ws.board_turn (draws_in vs) (sizes_for z.variables z.elements) r.log r.table r.journal id v.draws (at_map (λ (u : View). u.draws) vs id v at) live in
        let same : sizes_for z.variables z.elements ≡ sizes_for v.draws.vars v.draws.elements = sym r.journal.fixed ∙ m.agrees.sizes_are in
        let slots : z.slots ≡ v.draws.slots = sym (r.sized id v at (inl live)) in
        λ i. record { variables = (same i).variables; elements = (same i).elements; slots = slots i }

    -- a seat notes the orders of the words
    pub parts_orders : PartsOf z ws home (set vs id (with_orders r.orders v))
    parts_orders =
        let u : View = with_orders r.orders v in
        parts_known board free_slots memo z ws home vs r id v at u.known ws.order r.orders r.pending r.half r.sound r.remembered r.tables r.positions
        (record {
          settled = λ nobody. r.ordered.settled (λ i f there holding. dite (ℕ_discrete i id)
              (λ same. nobody id u (set_at vs id v u at) (ap (λ (y : View). y.shares.order) (some-injective v f (sym at ∙ (ap (λ j. get_elem? vs j) (sym same) ∙ there))) ∙ holding))
              (λ apart. nobody i f (set_else vs id i u apart ∙ there) holding));
          shared = each_set (λ _ (y : View). KnowsOrders r.orders y) vs id u (λ i y apart there. r.ordered.shared i y there) (λ _. refl);
          held = each_set (λ i (f : View). f.shares.order ≡ Holding → (orders_of f.known ≡ r.orders) × (told_orders f.known ≡ orders_from (opening_orders (sizes_for z.variables z.elements)) r.log)) vs id u
              (λ i f apart there. r.ordered.held i f there) (λ holding. (refl, (r.ordered.held id v at holding).1));
        })
        (by_full (r.half ≡ None) vs id v u at refl r.half_by) (by_pending r.pending vs id v u at refl refl r.pending_by)
        (record { words = (r.seen id v at).words; held = (r.seen id v at).held }) (r.holders id v at) (λ i y apart there. r.holders i y there)

    pub orders_kept : parts_orders.orders ≡ r.orders
    unfolding parts_orders parts_known
    orders_kept = refl

    -- a step on the phase word that neither gives up an order hold nor takes one
    pub parts_shares : (x : Shares) (n : ℕ) → Phase n (set (footings_in vs) id (on (footing_of v) x)) → ((x.order ≡ Holding → v.shares.order ≡ Holding) × (v.shares.order ≡ Holding → x.order ≡ Holding)) → (v.shares.full ≡ Holding → (x.full ≡ Holding) ⊎ ((r.half ≡ None) × (r.pending ≡ [])))
        → ((IsIdle v.hand → ⊥) → (x.op ≡ shares.Held) ⊎ (x.order ≡ Holding)) → (x.op ≡ shares.Held → (v.shares.op ≡ shares.Held) ⊎ ((v.known.words ≡ []) × (v.known.seen ≡ []) × (orders_of v.known ≡ r.orders))) → (x.walk ≡ shares.Held → (v.shares.walk ≡ shares.Held) ⊎ (HasShare v ⊎ (v.known.seen ≡ [])))
        → (x.full ≡ Holding → (v.shares.full ≡ Holding) ⊎ ((half_in v.known ≡ r.half) × (v.known.pending ≡ r.pending))) → PartsOf z (record ws { phase = n }) home (set vs id (record v { shares = x }))
    parts_shares x n phase order full taken fresh walks fulls =
        let w : View = record v { shares = x } in
        let start : Sizes = sizes_for z.variables z.elements in
        let drawn : draws_in (set vs id w) ≡ draws_in vs = frame (λ (v : View). v.draws) vs id v w at refl in
        let tallied : tallies_in (set vs id w) ≡ tallies_in vs = frame tally_of vs id v w at refl in
        let t = r.tied id v at in record {
          log = r.log;
          table = r.table;
          cells = r.cells;
          function = r.function;
          half = r.half;
          orders = r.orders;
          pending = r.pending;
          on = r.on;
          chain = r.chain;
          journal = subst (λ (ds : List Draws). Journal ws.journal ws.board_turn ds start r.log r.table) (sym drawn) r.journal;
          phase = subst (Phase n) (sym (map-set footing_of vs id w)) phase;
          counts = subst (Counted ws.count r.cells) (sym tallied) r.counts;
          kept = subst (Kept z r.function r.cells) (sym tallied) r.kept;
          on_board = subst (λ (ds : List Draws). Board board ws.board_turn (home 0) ds r.table r.cells) (sym drawn) r.on_board;
          positions = r.positions;
          ordered = record {
            settled = λ nobody. r.ordered.settled (λ i u there holding. dite (ℕ_discrete i id)
                (λ same. nobody id w (set_at vs id v w at) (order.1 (ap (λ (y : View). y.shares.order) (some-injective v u (sym at ∙ (ap (λ j. get_elem? vs j) (sym same) ∙ there))) ∙ holding)))
                (λ apart. nobody i u (set_else vs id i w apart ∙ there) holding));
            shared = each_set (λ _ (u : View). KnowsOrders r.orders u) vs id w (λ i u apart there. r.ordered.shared i u there)
                (λ has. ⊎_elim (λ was. r.ordered.shared id v at was) (λ (none_there : (v.known.words ≡ []) × (v.known.seen ≡ []) × (orders_of v.known ≡ r.orders)). none_there.2) (fresh has));
            held = each_set (λ i (u : View). u.shares.order ≡ Holding → (orders_of u.known ≡ r.orders) × (told_orders u.known ≡ orders_from (opening_orders start) r.log)) vs id w (λ i u apart there. r.ordered.held i u there)
                (λ holding. r.ordered.held id v at (order.0 holding));
          };
          sound = r.sound;
          remembered = subst (Remembered memo (view_of (content_of z ws.node r.orders r.function r.half)) ws.memo_turn (home 2)) (sym (frame (λ (v : View). v.hand) vs id v w at refl)) r.remembered;
          tables = subst (Tables free_slots z _ r.on ws.free_turn ws.turn home) (sym (frame (λ (v : View). v.hand) vs id v w at refl)) r.tables;
          linked = subst (Linked z ws.node ws.next ws.head r.on r.chain) (sym (frame (λ (v : View). v.hand) vs id v w at refl)) r.linked;
          sifts = steps_same start r.log vs r.sifts id v w at refl refl refl;
          tied = each_set (λ i (f : View). Tied f) vs id w (λ i f apart there. r.tied i f there)
              (record { zeros = λ k zeros. order.1 (t.zeros k zeros); pins = λ k pins. order.1 (t.pins k pins); taken = taken; alone = λ n walk whole. order.1 (t.alone n walk whole); dead = t.dead });
          sized = each_set (λ i (f : View). (f.draws.live ≡ true) ⊎ (f.draws.closing ≡ true) → f.draws.slots ≡ z.slots) vs id w (λ i f apart there. r.sized i f there) (r.sized id v at);
          holders = each_set (λ _ (u : View). IsHolder ws.count r.half r.pending u) vs id w (λ i u apart there. r.holders i u there) ((λ holding. (r.holders id v at).0 (order.0 holding)), (λ f. ⊎_elim (λ was. (r.holders id v at).1 was) (λ now. now) (fulls f)));
          generations = each_set (λ _ (u : View). Each (IsOfSlot ws.count u) u.counts.generations) vs id w (λ i u apart there. r.generations i u there) (r.generations id v at);
          seen = seen_other z ws.node r.function vs r.seen id w (record {
            words = λ has. ⊎_elim
                (λ held. ⊎_elim (λ was. each_map (StandsSo ws.node v) (StandsSo ws.node w) (λ note st. (st.0, λ free. order.1 (st.1 free))) v.known.words ((r.seen id v at).words (inl was))) (λ (none_there : (v.known.words ≡ []) × (v.known.seen ≡ []) × (orders_of v.known ≡ r.orders)). subst (Each (StandsSo ws.node w)) (sym none_there.0) tt) (fresh held))
                (λ holding. each_map (StandsSo ws.node v) (StandsSo ws.node w) (λ note st. (st.0, λ free. order.1 (st.1 free))) v.known.words ((r.seen id v at).words (inr (order.0 holding)))) has;
            held = λ (all : KeepsSlots w). ⊎_elim (λ has. ⊎_elim
                (λ held. ⊎_elim (λ was. (r.seen id v at).held (inl (inl was))) (λ (none_there : (v.known.words ≡ []) × (v.known.seen ≡ []) × (orders_of v.known ≡ r.orders)). subst (Each (IsHeldBy z r.function)) (sym none_there.1) tt) (fresh held))
                (λ holding. (r.seen id v at).held (inl (inr (order.0 holding)))) has)
                (λ walking. ⊎_elim (λ was. (r.seen id v at).held (inr was)) (λ (other : HasShare v ⊎ (v.known.seen ≡ [])). ⊎_elim (λ share. (r.seen id v at).held (inl share)) (λ none_seen. subst (Each (IsHeldBy z r.function)) (sym none_seen) tt) other) (walks walking)) all;
          });
          half_by = ⊎_elim (λ none_half. inl none_half) (λ (y : HalfHolder r.half vs). let h = y.0 in dite (ℕ_discrete h.0 id)
              (λ is. let it : v ≡ h.1 = some-injective v h.1 (sym at ∙ (ap (λ i. get_elem? vs i) (sym is) ∙ h.2)) in
              ⊎_elim (λ still. inr ((id, w, set_at vs id v w at, still), ap (λ (f : View). half_in f.known) it ∙ y.1)) (λ (y : (r.half ≡ None) × (r.pending ≡ [])). inl y.0)
              (full (ap (λ (f : View). f.shares.full) it ∙ h.3)))
              (λ apart. inr ((h.0, h.1, set_else vs id h.0 w apart ∙ h.2, h.3), y.1))) r.half_by;
          pending_by = ⊎_elim (λ p. inl p) (λ (y : (h : FullHolder vs) × (h.1.known.pending ≡ r.pending)). let h = y.0 in dite (ℕ_discrete h.0 id)
              (λ is. let it : v ≡ h.1 = some-injective v h.1 (sym at ∙ (ap (λ i. get_elem? vs i) (sym is) ∙ h.2)) in
              ⊎_elim (λ still. inr ((id, w, set_at vs id v w at, still), ap (λ (f : View). f.known.pending) it ∙ y.1)) (λ (y : (r.half ≡ None) × (r.pending ≡ [])). inl y.1)
              (full (ap (λ (f : View). f.shares.full) it ∙ h.3)))
              (λ apart. inr ((h.0, h.1, set_else vs id h.0 w apart ∙ h.2, h.3), y.1))) r.pending_by;
        }

    -- a step on a count word
    pub parts_counts : (c : Counts) (count : ℕ → ℕ) → Counted count r.cells (set (tallies_in vs) id (tally_of (record v { counts = c })))
        → KeepsTally z r.function (tally_of (record v { counts = c })) → Tied (record v { counts = c }) → Sifts (sizes_for z.variables z.elements) r.log (set vs id (record v { counts = c }))
        → ((k : ℕ) → generation_of (count k) ≡ generation_of (ws.count k)) → Each (IsOfSlot count (record v { counts = c })) c.generations
        → PartsOf z (record ws { count = count }) home (set vs id (record v { counts = c }))
    parts_counts c count counted keeps_it tied sifts still right_now =
        let w : View = record v { counts = c } in
        let start : Sizes = sizes_for z.variables z.elements in
        let drawn : draws_in (set vs id w) ≡ draws_in vs = frame (λ (v : View). v.draws) vs id v w at refl in
        let tallied : tallies_in (set vs id w) ≡ set (tallies_in vs) id (tally_of w) = map-set tally_of vs id w in record {
          log = r.log;
          table = r.table;
          cells = r.cells;
          function = r.function;
          half = r.half;
          orders = r.orders;
          pending = r.pending;
          on = r.on;
          chain = r.chain;
          journal = subst (λ (ds : List Draws). Journal ws.journal ws.board_turn ds start r.log r.table) (sym drawn) r.journal;
          phase = subst (Phase ws.phase) (sym (frame footing_of vs id v w at refl)) r.phase;
          counts = subst (Counted count r.cells) (sym tallied) counted;
          kept = subst (Kept z r.function r.cells) (sym tallied) (record { each = each_set (λ i (t : Tally). KeepsTally z r.function t) (tallies_in vs) id (tally_of w) (λ i t apart there. r.kept.each i t there) keeps_it; fixed = r.kept.fixed; cells_kept = r.kept.cells_kept });
          on_board = subst (λ (ds : List Draws). Board board ws.board_turn (home 0) ds r.table r.cells) (sym drawn) r.on_board;
          positions = r.positions;
          ordered = ordered_same r.orders (orders_from (opening_orders start) r.log) vs id v w at refl refl r.ordered;
          sound = r.sound;
          remembered = subst (Remembered memo (view_of (content_of z ws.node r.orders r.function r.half)) ws.memo_turn (home 2)) (sym (frame (λ (v : View). v.hand) vs id v w at refl)) r.remembered;
          tables = subst (Tables free_slots z _ r.on ws.free_turn ws.turn home) (sym (frame (λ (v : View). v.hand) vs id v w at refl)) r.tables;
          linked = subst (Linked z ws.node ws.next ws.head r.on r.chain) (sym (frame (λ (v : View). v.hand) vs id v w at refl)) r.linked;
          sifts = sifts;
          tied = each_set (λ i (f : View). Tied f) vs id w (λ i f apart there. r.tied i f there) tied;
          sized = each_set (λ i (f : View). (f.draws.live ≡ true) ⊎ (f.draws.closing ≡ true) → f.draws.slots ≡ z.slots) vs id w (λ i f apart there. r.sized i f there) (r.sized id v at);
          half_by = by_full (r.half ≡ None) vs id v w at refl r.half_by;
          pending_by = by_pending r.pending vs id v w at refl refl r.pending_by;
          holders = each_set (λ _ (u : View). IsHolder count r.half r.pending u) vs id w (λ i u apart there. holder_recounted ws.count count r.half r.pending u still (r.holders i u there)) (holder_recounted ws.count count r.half r.pending v still (r.holders id v at));
          generations = each_set (λ _ (u : View). Each (IsOfSlot count u) u.counts.generations) vs id w (λ i u apart there. each_map (IsOfSlot ws.count u) (IsOfSlot count u) (λ g right named_now. still g.slot ∙ right named_now) u.counts.generations (r.generations i u there)) right_now;
          seen = seen_other z ws.node r.function vs r.seen id w (record { words = (r.seen id v at).words; held = (r.seen id v at).held });
        }

    -- a slot that nobody else noted at 0 is counted up
    pub parts_raise_by : (held : Held) (count : ℕ → ℕ) → v.draws.live ≡ true → ((i : ℕ) (u : Tally) → i ≢ id → get_elem? (tallies_in vs) i ≡ some u → 0 < times held.edge.index u.counts.zeros → ⊥) → size (tally_of v) < 2 ^ 25 → IsHeldBy z r.function held
        → count_of (count held.edge.index) ≡ suc (count_of (ws.count held.edge.index)) → ((j : ℕ) → j ≢ held.edge.index → count j ≡ ws.count j)
        → ((j : ℕ) → generation_of (count j) ≡ generation_of (ws.count j))
        → PartsOf z (record ws { count = count }) home (set vs id (record v { counts = lifted held (generation_of (count held.edge.index)) v.counts }))
    parts_raise_by held count live nobody room is up others still =
        let c : Counts = lifted held (generation_of (count held.edge.index)) v.counts in
        let w : View = record v { counts = c } in
        let t = r.tied id v at in
        let one : sessions_of v.draws ≡ 1 = ap (λ b. cond b 1 (cond v.draws.closing (length v.draws.gone) 0)) live in
        let start : Sizes = sizes_for z.variables z.elements in
        let kept = r.kept.each id (tally_of v) (at_map tally_of vs id v at) in
        let later : (k : ℕ) (x : Held) → get_elem? v.counts.raised k ≡ some x → (m : ℕ) × (get_elem? c.raised m ≡ some x) = λ k x e. (suc k, e) in
        parts_counts c count
        (raises ws.count r.cells (tallies_in vs) r.counts id (tally_of v) held (generation_of (count held.edge.index)) count (at_map tally_of vs id v at) (omega (arith, room, one)) up others nobody)
        (record { rows = kept.rows; raised = (is, kept.raised); owed = kept.owed })
        (record { zeros = t.zeros; pins = t.pins; taken = t.taken; alone = t.alone; dead = λ gone. absurd (true≢false (sym live ∙ gone)) })
        (steps_quiet start r.log vs r.sifts id v w at refl refl later
        (λ l. each_map (IsPlaced start r.log vs (entries_of v.draws.session r.log) (length r.log)) (IsPlaced start r.log (set vs id w) (entries_of v.draws.session r.log) (length r.log))
        (stays_placed start r.log vs r.sifts id v w at refl refl later (entries_of v.draws.session r.log) (length r.log)) v.counts.above (r.sifts.noted id v at l))
        (λ l. r.sifts.owes id v at l))
        still
        (retells (IsOfSlot ws.count v) (IsOfSlot count w) held.edge.index (generation_of (count held.edge.index)) (λ named. refl)
        (λ g apart right now. still g.slot ∙ right (let e : one_if (held.edge.index == g.slot) ≡ 0 = ap one_if (ne_eqb held.edge.index g.slot (λ is. apart (sym is))) in omega (arith, now, e)))
        v.counts.generations (r.generations id v at))

    -- under an operation share: nobody holds the order, so nobody noted it at 0
    pub parts_raise : (held : Held) (count : ℕ → ℕ) → v.draws.live ≡ true → v.shares.op ≡ shares.Held → size (tally_of v) < 2 ^ 25 → IsHeldBy z r.function held
        → count_of (count held.edge.index) ≡ suc (count_of (ws.count held.edge.index)) → ((j : ℕ) → j ≢ held.edge.index → count j ≡ ws.count j)
        → ((j : ℕ) → generation_of (count j) ≡ generation_of (ws.count j))
        → PartsOf z (record ws { count = count }) home (set vs id (record v { counts = lifted held (generation_of (count held.edge.index)) v.counts }))
    parts_raise held count live share = parts_raise_by held count live
        (λ i u apart there zeros. let m = map_at tally_of vs i u there in
        excludes ws.phase (footings_in vs) r.phase id i (footing_of v) (footing_of m.0) (at_map footing_of vs id v at) (at_map footing_of vs i m.0 m.1) share
        ((r.tied i m.0 m.1).zeros held.edge.index (subst (λ (y : Tally). 0 < times held.edge.index y.counts.zeros) (sym m.2) zeros)))

    -- a row of the seat's own names it, or a cell of the board
    pub parts_raise_row : (held : Held) (count : ℕ → ℕ) → v.draws.live ≡ true → 0 < row_count held.edge.index v.draws.rows → size (tally_of v) < 2 ^ 25 → IsHeldBy z r.function held
        → count_of (count held.edge.index) ≡ suc (count_of (ws.count held.edge.index)) → ((j : ℕ) → j ≢ held.edge.index → count j ≡ ws.count j)
        → ((j : ℕ) → generation_of (count j) ≡ generation_of (ws.count j))
        → PartsOf z (record ws { count = count }) home (set vs id (record v { counts = lifted held (generation_of (count held.edge.index)) v.counts }))
    parts_raise_row held count live row = parts_raise_by held count live
        (by_row ws.count r.cells (tallies_in vs) r.counts id (tally_of v) held.edge.index (at_map tally_of vs id v at) (omega (arith, row)))

    pub parts_raise_cell : (held : Held) (count : ℕ → ℕ) → v.draws.live ≡ true → 0 < cells_count held.edge.index r.cells → size (tally_of v) < 2 ^ 25 → IsHeldBy z r.function held
        → count_of (count held.edge.index) ≡ suc (count_of (ws.count held.edge.index)) → ((j : ℕ) → j ≢ held.edge.index → count j ≡ ws.count j)
        → ((j : ℕ) → generation_of (count j) ≡ generation_of (ws.count j))
        → PartsOf z (record ws { count = count }) home (set vs id (record v { counts = lifted held (generation_of (count held.edge.index)) v.counts }))
    parts_raise_cell held count live cell = parts_raise_by held count live
        (λ i u apart there. by_cell ws.count r.cells (tallies_in vs) r.counts held.edge.index cell i u there)

    -- what is owed is counted down
    pub parts_lower : (held : Held) (rest : List Held) (count : ℕ → ℕ) → v.draws.live ≡ true → v.counts.owed ≡ held ∷ rest
        → suc (count_of (count held.edge.index)) ≡ count_of (ws.count held.edge.index) → ((j : ℕ) → j ≢ held.edge.index → count j ≡ ws.count j)
        → ((j : ℕ) → generation_of (count j) ≡ generation_of (ws.count j))
        → PartsOf z (record ws { count = count }) home (set vs id (record v { counts = record v.counts { owed = rest } }))
    parts_lower held rest count live owes down others still =
        let c : Counts = record v.counts { owed = rest } in
        let w : View = record v { counts = c } in
        let t = r.tied id v at in
        let start : Sizes = sizes_for z.variables z.elements in
        let kept = r.kept.each id (tally_of v) (at_map tally_of vs id v at) in
        let same : (k : ℕ) (x : Held) → get_elem? v.counts.raised k ≡ some x → (m : ℕ) × (get_elem? c.raised m ≡ some x) = λ k x e. (k, e) in
        parts_counts c count
        (pays ws.count r.cells (tallies_in vs) r.counts id (tally_of v) held rest count (at_map tally_of vs id v at) owes down others)
        (record { rows = kept.rows; raised = kept.raised; owed = (subst (Each (IsHeldBy z r.function)) owes kept.owed).1 })
        (record { zeros = t.zeros; pins = t.pins; taken = t.taken; alone = t.alone; dead = λ gone. absurd (true≢false (sym live ∙ gone)) })
        (steps_quiet start r.log vs r.sifts id v w at refl refl same
        (λ l. each_map (IsPlaced start r.log vs (entries_of v.draws.session r.log) (length r.log)) (IsPlaced start r.log (set vs id w) (entries_of v.draws.session r.log) (length r.log))
        (stays_placed start r.log vs r.sifts id v w at refl refl same (entries_of v.draws.session r.log) (length r.log)) v.counts.above (r.sifts.noted id v at l))
        (λ l. (subst (Each (OwesLast start r.log v.draws.session)) owes (r.sifts.owes id v at l)).1))
        still (each_map (IsOfSlot ws.count v) (IsOfSlot count w) (λ g right now. still g.slot ∙ right now) v.counts.generations (r.generations id v at))

    -- the other kinds on the phase word, one after another

    pub parts_op_out : v.shares.op ≡ shares.Held → IsIdle v.hand → PartsOf z (record ws { phase = ws.phase - 1 }) home (set vs id (record v { shares = with_op v.shares shares.Nothing ws.phase }))
    parts_op_out held idle =
        parts_shares (with_op v.shares shares.Nothing ws.phase) (ws.phase - 1) (op_out ws.phase (footings_in vs) r.phase id (footing_of v) (at_map footing_of vs id v at) (ap weight held)).1
        ((λ h. h), λ h. h) (λ f. inl f) (λ busy. absurd (busy idle)) (λ held_now. absurd (nothing_not held_now)) (λ was. inl was) (λ f. inl f)
      where
        nothing_not : shares.Nothing ≡ shares.Held → ⊥
        nothing_not e = cc

    -- what it noted of functions is so, or it noted nothing
    pub parts_walk_in : 0 < parts_of v.draws → v.shares.walk ≡ shares.Nothing → ws.phase < 8589934592 → HasShare v ⊎ (v.known.seen ≡ []) → PartsOf z (record ws { phase = ws.phase + 65536 }) home (set vs id (record v { shares = with_walk v.shares shares.Held ws.phase }))
    parts_walk_in some_part free low unseen =
        parts_shares (with_walk v.shares shares.Held ws.phase) (ws.phase + 65536) (walk_held ws.phase (footings_in vs) r.phase id (footing_of v) (at_map footing_of vs id v at) some_part free low)
        ((λ h. h), λ h. h) (λ f. inl f) (r.tied id v at).taken (λ held. inl held) (λ _. inr unseen) (λ f. inl f)

    pub parts_walk_out : v.shares.walk ≡ shares.Held → PartsOf z (record ws { phase = ws.phase - 65536 }) home (set vs id (record v { shares = with_walk v.shares shares.Nothing ws.phase }))
    parts_walk_out held =
        parts_shares (with_walk v.shares shares.Nothing ws.phase) (ws.phase - 65536) (walk_out ws.phase (footings_in vs) r.phase id (footing_of v) (at_map footing_of vs id v at) (ap weight held)).1
        ((λ h. h), λ h. h) (λ f. inl f) (r.tied id v at).taken (λ held. inl held) (λ now. absurd (walk_nothing now)) (λ f. inl f)

    pub parts_claim : v.shares.order ≡ Free → order_of ws.phase ≡ 0 → PartsOf z (record ws { phase = ws.phase + 4294967296 }) home (set vs id (record v { shares = with_order v.shares Claimed ws.phase }))
    parts_claim free clear =
        parts_shares (with_order v.shares Claimed ws.phase) (ws.phase + 4294967296) (order_claimed ws.phase (footings_in vs) r.phase id (footing_of v) (at_map footing_of vs id v at) free clear)
        ((λ h. absurd (claimed_not h)), λ h. absurd (free_not (sym free ∙ h))) (λ f. inl f) (λ some_taken. ⊎_elim (λ held. inl held) (λ holding. absurd (free_not (sym free ∙ holding))) ((r.tied id v at).taken some_taken)) (λ held. inl held) (λ was. inl was) (λ f. inl f)
      where
        claimed_not : Claimed ≡ Holding → ⊥
        claimed_not e = cc

        free_not : Free ≡ Holding → ⊥
        free_not e = cc

    pub parts_full_claim : v.shares.order ≡ Holding → v.shares.full ≡ Free → PartsOf z (record ws { phase = ws.phase + 8589934592 }) home (set vs id (record v { shares = with_full v.shares Claimed ws.phase }))
    parts_full_claim holding free =
        parts_shares (with_full v.shares Claimed ws.phase) (ws.phase + 8589934592) (full_claimed ws.phase (footings_in vs) r.phase id (footing_of v) (at_map footing_of vs id v at) holding free).1
        ((λ h. h), λ h. h) (λ f. absurd (free_not (sym free ∙ f))) (r.tied id v at).taken (λ held. inl held) (λ was. inl was) (λ now. absurd (claimed_now now))
      where
        free_not : Free ≡ Holding → ⊥
        free_not e = cc

    pub parts_full_hold : v.shares.order ≡ Holding → v.shares.full ≡ Claimed → walks_of ws.phase ≡ 0 → (half_in v.known ≡ r.half) × (v.known.pending ≡ r.pending) → PartsOf z (record ws { phase = ws.phase }) home (set vs id (record v { shares = with_full v.shares Holding ws.phase }))
    parts_full_hold holding claimed none_seen noted =
        parts_shares (with_full v.shares Holding ws.phase) ws.phase (full_held ws.phase (footings_in vs) r.phase id (footing_of v) (at_map footing_of vs id v at) holding claimed none_seen)
        ((λ h. h), λ h. h) (λ f. inl refl) (r.tied id v at).taken (λ held. inl held) (λ was. inl was) (λ _. inr noted)

    pub parts_full_out : v.shares.full ≡ Holding → r.half ≡ None → r.pending ≡ [] → PartsOf z (record ws { phase = ws.phase - 8589934592 }) home (set vs id (record v { shares = with_full v.shares Free ws.phase }))
    parts_full_out full none_half none_due =
        parts_shares (with_full v.shares Free ws.phase) (ws.phase - 8589934592) (full_cleared ws.phase (footings_in vs) r.phase id (footing_of v) (at_map footing_of vs id v at) (ap bit full)).1
        ((λ h. h), λ h. h) (λ f. inr (none_half, none_due)) (r.tied id v at).taken (λ held. inl held) (λ was. inl was) (λ now. absurd (free_now now))

    -- what was taken too high is owed, and paid back; a claim is taken back
    pub parts_op_debt : v.shares.op ≡ shares.Owed → PartsOf z (record ws { phase = ws.phase - 1 }) home (set vs id (record v { shares = with_op v.shares shares.Nothing ws.phase }))
    parts_op_debt owed =
        parts_shares (with_op v.shares shares.Nothing ws.phase) (ws.phase - 1) (op_out ws.phase (footings_in vs) r.phase id (footing_of v) (at_map footing_of vs id v at) (ap weight owed)).1
        ((λ h. h), λ h. h) (λ f. inl f) (λ some_taken. ⊎_elim (λ held. absurd (owed_not (sym owed ∙ held))) (λ holding. inr holding) ((r.tied id v at).taken some_taken)) (λ held_now. absurd (nothing_not held_now)) (λ was. inl was) (λ f. inl f)
      where
        nothing_not : shares.Nothing ≡ shares.Held → ⊥
        nothing_not e = cc

        owed_not : shares.Owed ≡ shares.Held → ⊥
        owed_not e = cc

    pub parts_walk_owed : 0 < parts_of v.draws → v.shares.walk ≡ shares.Nothing → PartsOf z (record ws { phase = ws.phase + 65536 }) home (set vs id (record v { shares = with_walk v.shares shares.Owed ws.phase }))
    parts_walk_owed some_part free =
        parts_shares (with_walk v.shares shares.Owed ws.phase) (ws.phase + 65536) (walk_owed ws.phase (footings_in vs) r.phase id (footing_of v) (at_map footing_of vs id v at) some_part free)
        ((λ h. h), λ h. h) (λ f. inl f) (r.tied id v at).taken (λ held. inl held) (λ now. absurd (walk_owed_not now)) (λ f. inl f)

    pub parts_walk_debt : v.shares.walk ≡ shares.Owed → PartsOf z (record ws { phase = ws.phase - 65536 }) home (set vs id (record v { shares = with_walk v.shares shares.Nothing ws.phase }))
    parts_walk_debt owed =
        parts_shares (with_walk v.shares shares.Nothing ws.phase) (ws.phase - 65536) (walk_out ws.phase (footings_in vs) r.phase id (footing_of v) (at_map footing_of vs id v at) (ap weight owed)).1
        ((λ h. h), λ h. h) (λ f. inl f) (r.tied id v at).taken (λ held. inl held) (λ now. absurd (walk_nothing now)) (λ f. inl f)

    pub parts_unclaim : v.shares.order ≡ Claimed → v.shares.full ≡ Free → PartsOf z (record ws { phase = ws.phase - 4294967296 }) home (set vs id (record v { shares = with_order v.shares Free ws.phase }))
    parts_unclaim claimed free =
        parts_shares (with_order v.shares Free ws.phase) (ws.phase - 4294967296) (order_cleared ws.phase (footings_in vs) r.phase id (footing_of v) (at_map footing_of vs id v at) (ap bit claimed) free).2
        ((λ h. absurd (free_not h)), λ h. absurd (claimed_not (sym claimed ∙ h))) (λ f. inl f) (λ some_taken. ⊎_elim (λ held. inl held) (λ holding. absurd (claimed_not (sym claimed ∙ holding))) ((r.tied id v at).taken some_taken)) (λ held. inl held) (λ was. inl was) (λ f. inl f)
      where
        claimed_not : Claimed ≡ Holding → ⊥
        claimed_not e = cc

        free_not : Free ≡ Holding → ⊥
        free_not e = cc

    pub parts_full_unclaim : v.shares.full ≡ Claimed → PartsOf z (record ws { phase = ws.phase - 8589934592 }) home (set vs id (record v { shares = with_full v.shares Free ws.phase }))
    parts_full_unclaim claimed =
        parts_shares (with_full v.shares Free ws.phase) (ws.phase - 8589934592) (full_cleared ws.phase (footings_in vs) r.phase id (footing_of v) (at_map footing_of vs id v at) (ap bit claimed)).1
        ((λ h. h), λ h. h) (λ f. absurd (claimed_not (sym claimed ∙ f))) (r.tied id v at).taken (λ held. inl held) (λ was. inl was) (λ now. absurd (free_now now))
      where
        claimed_not : Claimed ≡ Holding → ⊥
        claimed_not e = cc

  pub takes_share : (slots id : ℕ) (me : Me (std.Option S) View) → me.0.draws.live ≡ true → me.0.shares.op ≡ shares.Nothing → me.0.known.words ≡ [] → me.0.known.seen ≡ []
      → Allows TheRule slots id me 1 (λ n. (n + 1) % 2 ^ 64) (shared (step slots 1 1 0 none) me)
  takes_share slots id me live free unnoted unseen s r long at small =
      let z = r.shape in
      let p = r.parts in
      let v = me.0 in
      let n : ℕ = get_or s.words 1 0 in
      let home = λ (k : ℕ). get_elem? s.homes k in
      let ph : Phase n (footings_in s.views) = p.phase in
      let next : (n + 1) % 2 ^ 64 ≡ suc n = small_next n (small_word n (footings_in s.views) ph) in
      let has_part : 0 < parts_of v.draws = let e : parts_of v.draws ≡ 1 = ap (λ b. cond b 1 (cond v.draws.closing ((64 - v.draws.given) + length v.draws.gone) 0)) live in omega (arith, e) in
      let here = at_map footing_of s.views id v at in
      let words : words_of z (set s.words 1 ((n + 1) % 2 ^ 64)) ≡ record (words_of z s.words) { phase = suc n } =
      set_phase z s.words ((n + 1) % 2 ^ 64) (let l = r.wide in omega (arith, l)) ∙ ap (λ (k : ℕ). record (words_of z s.words) { phase = k }) next in
      let end : (u : View) → storer_of u ≡ storer_of v → PartsOf z (record (words_of z s.words) { phase = suc n }) home (set s.views id u) → TheRule (record { words = set s.words 1 ((n + 1) % 2 ^ 64); homes = s.homes; views = set s.views id u }) =
      λ u same parts. record {
        shape = z;
        wide = length-set s.words 1 ((n + 1) % 2 ^ 64) ∙ r.wide;
        long = r.long;
        parts = subst (λ (y : Words). PartsOf z y home (set s.views id u)) (sym words) parts;
        one = subst (λ (y : Words). OneSession z y.order y.node y.count (storers_in (set s.views id u))) (sym words) (one_still z (words_of z s.words).order (words_of z s.words).node (words_of z s.words).count s.views id v u at same r.one);
      } in
      let v1 : View = with_orders p.orders v in
      let p1 = parts_orders z (words_of z s.words) home s.views p id v at in
      let at1 = set_at s.views id v v1 at in
      let here1 = at_map footing_of (set s.views id v1) id v1 at1 in
      let ph1 : Phase n (footings_in (set s.views id v1)) = p1.phase in
      let v2 : View = record v1 { shares = with_op v.shares shares.Held n } in
      dite (dec_lt n 4294967296)
      (λ low. (
        v2,
        keeps,
        tt,
        end v2 refl (subst (λ (l : List View). PartsOf z (record (words_of z s.words) { phase = suc n }) home l) (set_twice s.views id v1 v2)
            (parts_shares z (words_of z s.words) home (set s.views id v1) p1 id v1 at1 (with_op v.shares shares.Held n) (suc n) (op_held n (footings_in (set s.views id v1)) ph1 id (footing_of v1) here1 has_part free low) ((λ h. h), λ h. h) (λ f. inl f) (λ _. inl refl)
            (λ _. inr (unnoted, unseen, sym (orders_kept z (words_of z s.words) home s.views p id v at))) (λ was. inl was) (λ f. inl f))),
        ((λ _. (p.orders.variables, p.orders.elements, refl)), (λ high. absurd (omega (arith, low, high)))),
      ))
      (λ no_low. (
        record v { shares = with_op v.shares shares.Owed n },
        keeps,
        tt,
        end (record v { shares = with_op v.shares shares.Owed n }) refl (parts_shares z (words_of z s.words) home s.views p id v at (with_op v.shares shares.Owed n) (suc n) (op_owed n (footings_in s.views) ph id (footing_of v) here has_part free) ((λ h. h), λ h. h) (λ f. inl f)
            (λ some_taken. inr (⊎_elim (λ held. absurd (never (sym free ∙ held))) (λ holding. holding) ((p.tied id v at).taken some_taken))) (λ held_now. absurd (owed_not held_now)) (λ was. inl was) (λ f. inl f)),
        ((λ low. absurd (no_low low)), (λ _. refl)),
      ))
    where
      small_next : (n : ℕ) → n < 17179869184 → (n + 1) % 2 ^ 64 ≡ suc n
      small_next n lt = mod-eq_of_lt (omega (arith, lt)) ∙ omega arith

      never : shares.Nothing ≡ shares.Held → ⊥
      never e = cc

      owed_not : shares.Owed ≡ shares.Held → ⊥
      owed_not e = cc
