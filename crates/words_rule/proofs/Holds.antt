-- The order hold is taken and given up, and the full hold.
use Rattle.std.proofs.Common.{◌≡◌, ◌≢◌, ◌⊎◌, ℕ, ◌-◌, ◌<◌, true, List, [], set, refl, ap, sym, subst, ◌∙◌, inl, inr, ⊎_elim, arith}
use Rattle.std.specs.Prelude as std
use Rattle.std.specs.Prelude.{Some, None}
use mathlib.Core.Logic.{dite}
use mathlib.Core.Option.{Option, some, some-injective}
use native.Mathlib.Decide.{ℕ_discrete}
use lib.ListN.{get_elem?}
use lib.Seq.{map-set}
use Rattle.atomic_table.proofs.Lists.{at_map}
use Rattle.function_laws.specs.Tables.{Sizes}
use Rattle.function_laws.specs.EntryOrders.{opening_orders, orders_from}
use Rattle.function_laws.specs.SessionEntries.{Each}
use Rattle.words_rule.specs.Generations.{IsOfSlot}
use Rattle.words_rule.specs.Holders.{IsAge, IsHolder}
use Rattle.words_rule.specs.declared.cell.Cell.{Cell}
use Rattle.words_rule.specs.declared.view.SeenWord.{SeenWord}
use Rattle.words_rule.specs.declared.view.Held.{Held}
use Rattle.words_rule.specs.declared.view.Hold.{Hold}
use Rattle.words_rule.specs.declared.view.Hold.TheVariants.{Free, Claimed, Holding}
use Rattle.words_rule.specs.declared.view.Share.TheVariants as shares
use Rattle.words_rule.specs.declared.view.Shares.{Shares}
use Rattle.words_rule.specs.declared.view.Known.{Known}
use Rattle.words_rule.specs.declared.view.Counts.{Counts}
use Rattle.words_rule.specs.declared.view.Draws.{Draws}
use Rattle.words_rule.specs.declared.view.View.{View}
use Rattle.words_rule.specs.Views.{sizes_for, orders_of, told_orders}
use Rattle.words_rule.specs.Layout.{Shape, Words, content_of}
use Rattle.words_rule.specs.Journal.{Journal}
use Rattle.words_rule.specs.Phase.{Phase, footing_of, hold, bit, on, with_order, order_bit, ops_of}
use Rattle.words_rule.specs.Tallies.{Counted, Tally, tally_of, times}
use Rattle.words_rule.specs.Kept.{KeepsTally, Kept, Board, IsHeldBy}
use Rattle.words_rule.specs.Ordered.{KnowsOrders, Ordered}
use Rattle.words_rule.specs.Hands.{Tables, Linked, IsIdle}
use Rattle.words_rule.specs.Sifted.{Sifts}
use Rattle.words_rule.specs.Seen.{KeepsSlots, StandsSo, IsSeen}
use Rattle.words_rule.specs.Rule.{Parts, Tied, FullHolder, HalfHolder, draws_in, footings_in, tallies_in}
use Rattle.words_rule.proofs.Seeing.{seen_other}
use Rattle.words_rule.proofs.Handling.{never as no_some}
use Rattle.words_rule.proofs.Lists.{each_set, set_at, each_map}
use Rattle.words_rule.proofs.Phases.{one_order, order_held, order_cleared}
use Rattle.words_rule.proofs.Tallying.{recounts, total-two}
use Rattle.words_rule.proofs.Sifting.{steps_same, steps_quiet}
use Rattle.words_rule.proofs.Draws.{frame, PendingBy}
use Rattle.node_store.specs.Contents.{view_of}
use Rattle.words_rule.specs.Remembered.{Remembered}
use Rattle.free_list.specs.FreeSlots.{FreeSlots}

module _ {S : Type 0} (board : S → List (std.Option Cell)) (free_slots : S → FreeSlots) (memo : S → List ℕ) where
  abbrev PartsOf : Shape → Words → (ℕ → Option (Option (std.Option S))) → List View → Type 0
  PartsOf = Parts board free_slots memo

  module _ (z : Shape) (ws : Words) (home : ℕ → Option (Option (std.Option S))) (vs : List View) (r : PartsOf z ws home vs) (id : ℕ) (v : View) (at : get_elem? vs id ≡ some v) where
    -- a step that changes shares, what is known of the orders, and the notes of counts
    pub parts_any : (x : Shares) (k : Known) (c : Counts) (n : ℕ) → Phase n (set (footings_in vs) id (on (footing_of v) x))
        → Ordered r.orders (orders_from (opening_orders (sizes_for z.variables z.elements)) r.log) (set vs id (record v { shares = x; known = k; counts = c }))
        → Counted ws.count r.cells (set (tallies_in vs) id (tally_of (record v { shares = x; known = k; counts = c }))) → KeepsTally z r.function (tally_of (record v { shares = x; known = k; counts = c }))
        → Tied (record v { shares = x; known = k; counts = c }) → Sifts (sizes_for z.variables z.elements) r.log (set vs id (record v { shares = x; known = k; counts = c }))
        → (r.half ≡ None) ⊎ HalfHolder r.half (set vs id (record v { shares = x; known = k; counts = c })) → PendingBy r.pending (set vs id (record v { shares = x; known = k; counts = c })) → IsSeen z ws.node r.function (record v { shares = x; known = k; counts = c }) → Each (IsOfSlot ws.count (record v { shares = x; known = k; counts = c })) c.generations → IsHolder ws.count r.half r.pending (record v { shares = x; known = k; counts = c })
        → PartsOf z (record ws { phase = n }) home (set vs id (record v { shares = x; known = k; counts = c }))
    parts_any x k c n phase ordered counted keeps_it tied sifts half_by pending_by is_seen right_now holder =
        let w : View = record v { shares = x; known = k; counts = c } in
        let start : Sizes = sizes_for z.variables z.elements in
        let drawn : draws_in (set vs id w) ≡ draws_in vs = frame (λ (v : View). v.draws) vs id v w at refl in
        let tallied : tallies_in (set vs id w) ≡ set (tallies_in vs) id (tally_of w) = map-set tally_of vs id w in record {
          log = r.log;
          table = r.table;
          cells = r.cells;
          function = r.function;
          half = r.half;
          orders = r.orders;
          pending = r.pending;
          on = r.on;
          chain = r.chain;
          journal = subst (λ (ds : List Draws). Journal ws.journal ws.board_turn ds start r.log r.table) (sym drawn) r.journal;
          phase = subst (Phase n) (sym (map-set footing_of vs id w)) phase;
          counts = subst (Counted ws.count r.cells) (sym tallied) counted;
          kept = subst (Kept z r.function r.cells) (sym tallied) (record { each = each_set (λ i (t : Tally). KeepsTally z r.function t) (tallies_in vs) id (tally_of w) (λ i t apart there. r.kept.each i t there) keeps_it; fixed = r.kept.fixed; cells_kept = r.kept.cells_kept });
          on_board = subst (λ (ds : List Draws). Board board ws.board_turn (home 0) ds r.table r.cells) (sym drawn) r.on_board;
          positions = r.positions;
          ordered = ordered;
          sound = r.sound;
          remembered = subst (Remembered memo (view_of (content_of z ws.node r.orders r.function r.half)) ws.memo_turn (home 2)) (sym (frame (λ (v : View). v.hand) vs id v w at refl)) r.remembered;
          tables = subst (Tables free_slots z _ r.on ws.free_turn ws.turn home) (sym (frame (λ (v : View). v.hand) vs id v w at refl)) r.tables;
          linked = subst (Linked z ws.node ws.next ws.head r.on r.chain) (sym (frame (λ (v : View). v.hand) vs id v w at refl)) r.linked;
          sifts = sifts;
          tied = each_set (λ i (f : View). Tied f) vs id w (λ i f apart there. r.tied i f there) tied;
          sized = each_set (λ i (f : View). (f.draws.live ≡ true) ⊎ (f.draws.closing ≡ true) → f.draws.slots ≡ z.slots) vs id w (λ i f apart there. r.sized i f there) (r.sized id v at);
          half_by = half_by;
          pending_by = pending_by;
          holders = each_set (λ _ (u : View). IsHolder ws.count r.half r.pending u) vs id w (λ i u apart there. r.holders i u there) holder;
          generations = each_set (λ _ (u : View). Each (IsOfSlot ws.count u) u.counts.generations) vs id w (λ i u apart there. r.generations i u there) (right_now);
          seen = seen_other z ws.node r.function vs r.seen id w is_seen;
        }

    -- who claims the order is the only one that might hold it
    nobody_holds : v.shares.order ≡ Claimed → (i : ℕ) (u : View) → get_elem? vs i ≡ some u → u.shares.order ≡ Holding → ⊥
    nobody_holds claimed i u there holding = dite (ℕ_discrete i id)
        (λ same. never (sym claimed ∙ (ap (λ (y : View). y.shares.order) (some-injective v u (sym at ∙ (ap (λ j. get_elem? vs j) (sym same) ∙ there))) ∙ holding)))
        (λ apart. let two = total-two order_bit (footings_in vs) id i (footing_of v) (footing_of u) apart (at_map footing_of vs id v at) (at_map footing_of vs i u there) in
        let a : bit v.shares.order ≡ 1 = ap bit claimed in let b : bit u.shares.order ≡ 1 = ap bit holding in let one = r.phase.one in omega (arith, two, a, b, one))
      where
        never : Claimed ≡ Holding → ⊥
        never e = cc

    -- and so nobody has the full hold
    not_full : ((i : ℕ) (u : View) → get_elem? vs i ≡ some u → u.shares.order ≡ Holding → ⊥) → FullHolder vs → ⊥
    not_full nobody h =
        let w = (r.phase.within h.0 (footing_of h.1) (at_map footing_of vs h.0 h.1 h.2)).1 in
        let one : hold h.1.shares.full ≡ 1 = ap hold h.3 in nobody h.0 h.1 h.2 (holds h.1.shares.order (omega (arith, w, one)))
      where
        holds : (h : Hold) → 0 < hold h → h ≡ Holding
        holds Holding lt = refl
        holds Free lt = absurd (omega (arith, lt))
        holds Claimed lt = absurd (omega (arith, lt))

    -- The claim becomes a hold once a look finds no operation share. The seat knows both orders then, and they are those that the entries leave.
    pub parts_hold : (k : Known) → v.shares.order ≡ Claimed → ops_of ws.phase ≡ 0 → orders_of k ≡ r.orders → told_orders k ≡ r.orders → Each (λ (note : SeenWord). ws.node note.slot ≡ note.bits) k.words → Each (IsHeldBy z r.function) k.seen → Each (IsAge ws.count) k.ages
        → PartsOf z (record ws { phase = ws.phase }) home (set vs id (record v { shares = with_order v.shares Holding ws.phase; known = k; counts = v.counts }))
    parts_hold k claimed none_seen knows tells words seen ages =
        let x = with_order v.shares Holding ws.phase in
        let w : View = record v { shares = x; known = k; counts = v.counts } in
        let start : Sizes = sizes_for z.variables z.elements in
        let t = r.tied id v at in
        let nobody = nobody_holds claimed in
        let tally_at = at_map tally_of vs id v at in
        let same : r.orders ≡ orders_from (opening_orders start) r.log = r.ordered.settled nobody in
        parts_any x k v.counts ws.phase (order_held ws.phase (footings_in vs) r.phase id (footing_of v) (at_map footing_of vs id v at) claimed none_seen)
        (record {
          settled = λ none_holds. absurd (none_holds id w (set_at vs id v w at) refl);
          shared = each_set (λ _ (y : View). KnowsOrders r.orders y) vs id w (λ i y apart there. r.ordered.shared i y there) (λ _. knows);
          held = each_set (λ i (u : View). u.shares.order ≡ Holding → (orders_of u.known ≡ r.orders) × (told_orders u.known ≡ orders_from (opening_orders start) r.log)) vs id w
              (λ i u apart there holding. absurd (nobody i u there holding)) (λ _. (knows, tells ∙ same));
        })
        (recounts ws.count r.cells (tallies_in vs) r.counts id (tally_of v) (tally_of w) tally_at (λ k. refl) refl refl (λ k zeros. zeros) (λ k. refl) (omega arith))
        (r.kept.each id (tally_of v) tally_at)
        (record { zeros = λ k zeros. refl; pins = λ k pins. refl; taken = λ busy. inr refl; alone = λ n walk whole. refl; dead = t.dead })
        (steps_same start r.log vs r.sifts id v w at refl refl refl)
        (⊎_elim (λ none_half. inl none_half) (λ (y : HalfHolder r.half vs). absurd (not_full nobody y.0)) r.half_by)
        (⊎_elim (λ none_due. inl none_due) (λ (y : (h : FullHolder vs) × (h.1.known.pending ≡ r.pending)). absurd (not_full nobody y.0)) r.pending_by)
        (record { words = λ _. each_map (λ (note : SeenWord). ws.node note.slot ≡ note.bits) (StandsSo ws.node w) (λ note is. (is, λ _. refl)) k.words words; held = λ _. seen }) (r.generations id v at)
        ((λ _. ages), (λ full. absurd (not_full nobody (id, v, at, full))))

    -- It is given up: nothing is pinned, no slot is taken, no swap is half made, and its entry told the orders. What it noted is forgotten.
    pub parts_unhold : v.shares.order ≡ Holding → v.shares.full ≡ Free → v.shares.op ≡ shares.Nothing → IsIdle v.hand → v.counts.pins ≡ [] → orders_of v.known ≡ told_orders v.known
        → PartsOf z (record ws { phase = ws.phase - 4294967296 }) home (set vs id (record v { shares = with_order v.shares Free ws.phase; known = v.known; counts = record v.counts { zeros = []; above = [] } }))
    parts_unhold holding no_full no_op idle unpinned told_now =
        let x = with_order v.shares Free ws.phase in
        let c : Counts = record v.counts { zeros = []; above = [] } in
        let w : View = record v { shares = x; known = v.known; counts = c } in
        let start : Sizes = sizes_for z.variables z.elements in
        let t = r.tied id v at in
        let tally_at = at_map tally_of vs id v at in
        let kept = r.kept.each id (tally_of v) tally_at in
        let h = r.ordered.held id v at holding in
        let cleared = order_cleared ws.phase (footings_in vs) r.phase id (footing_of v) (at_map footing_of vs id v at) (ap bit holding) no_full in
        let others : (i : ℕ) (u : View) → i ≢ id → get_elem? vs i ≡ some u → u.shares.order ≡ Holding → ⊥ =
        λ i u apart there other. one_order ws.phase (footings_in vs) r.phase id i (footing_of v) (footing_of u) apart (at_map footing_of vs id v at) (at_map footing_of vs i u there) holding other in
        let no_full_holder : FullHolder vs → ⊥ = λ f. dite (ℕ_discrete f.0 id)
        (λ same. never (sym no_full ∙ (ap (λ (y : View). y.shares.full) (some-injective v f.1 (sym at ∙ (ap (λ j. get_elem? vs j) (sym same) ∙ f.2))) ∙ f.3)))
        (λ apart. let w = (r.phase.within f.0 (footing_of f.1) (at_map footing_of vs f.0 f.1 f.2)).1 in let one : hold f.1.shares.full ≡ 1 = ap hold f.3 in others f.0 f.1 apart f.2 (holds f.1.shares.order (omega (arith, w, one)))) in
        parts_any x v.known c (ws.phase - 4294967296) cleared.2
        (record {
          settled = λ _. sym h.0 ∙ told_now ∙ h.1;
          shared = each_set (λ _ (y : View). KnowsOrders r.orders y) vs id w (λ i y apart there. r.ordered.shared i y there) (λ has. absurd (nothing_not (sym no_op ∙ has)));
          held = each_set (λ i (u : View). u.shares.order ≡ Holding → (orders_of u.known ≡ r.orders) × (told_orders u.known ≡ orders_from (opening_orders start) r.log)) vs id w
              (λ i u apart there other. absurd (others i u apart there other)) (λ other. absurd (free_not other));
        })
        (recounts ws.count r.cells (tallies_in vs) r.counts id (tally_of v) (tally_of w) tally_at (λ k. refl) refl refl (λ k zeros. absurd (omega (arith, zeros))) (λ k. refl) (omega arith))
        (record { rows = kept.rows; raised = kept.raised; owed = kept.owed })
        (record { zeros = λ k zeros. absurd (omega (arith, zeros)); pins = λ k pins. absurd (let e : times k v.counts.pins ≡ 0 = ap (times k) unpinned in omega (arith, e, pins)); taken = λ busy. absurd (busy idle); alone = λ n walk whole. absurd (no_some n (sym idle.2 ∙ walk)); dead = t.dead })
        (steps_quiet start r.log vs r.sifts id v w at refl refl (λ j y e. (j, e)) (λ l. tt) (λ l. r.sifts.owes id v at l))
        (⊎_elim (λ none_half. inl none_half) (λ (y : HalfHolder r.half vs). absurd (no_full_holder y.0)) r.half_by)
        (⊎_elim (λ none_due. inl none_due) (λ (y : (h : FullHolder vs) × (h.1.known.pending ≡ r.pending)). absurd (no_full_holder y.0)) r.pending_by)
        (record { words = λ has. absurd (no_share has); held = λ (has : KeepsSlots w). ⊎_elim (λ share. absurd (no_share share)) (λ _. (r.seen id v at).held (inl (inr holding))) has }) (r.generations id v at)
        ((λ other. absurd (free_not other)), (λ full. absurd (never (sym no_full ∙ full))))
      where
        never : Free ≡ Holding → ⊥
        never e = cc

        free_not : Free ≡ Holding → ⊥
        free_not e = cc

        nothing_not : shares.Nothing ≡ shares.Held → ⊥
        nothing_not e = cc

        no_share : (v.shares.op ≡ shares.Held) ⊎ (Free ≡ Holding) → ⊥
        no_share = ⊎_elim (λ held. nothing_not (sym no_op ∙ held)) free_not

        holds : (h : Hold) → 0 < hold h → h ≡ Holding
        holds Holding lt = refl
        holds Free lt = absurd (omega (arith, lt))
        holds Claimed lt = absurd (omega (arith, lt))
