-- The closing seat gives seats to sessions and takes them in.
use Rattle.std.proofs.Common.{◌≡◌, ◌≢◌, ◌⊎◌, ℕ, suc, ◌+◌, ◌-◌, ◌*◌, ◌^◌, ◌<◌, ◌≤◌, true, false, cond, List, [], ◌∷◌, ◌++◌, map, set, length, refl, ap, sym, subst, ◌∙◌, inl, inr, ⊎_elim, arith, true≢false, length-append}
use Rattle.std.specs.Prelude as std
use Rattle.std.specs.Prelude.{Some, None, take, drop}
use mathlib.Core.Logic.{dite}
use mathlib.Core.Option.{Option, some, some-injective, some-ne-none}
use mathlib.Core.List.{map-append}
use native.Mathlib.Decide.{ℕ_discrete}
use lib.ListN.{get_elem?}
use lib.Seq.{map-set}
use Rattle.atomic_table.specs.Table.{Splits}
use Rattle.atomic_table.proofs.Lists.{at_map, set_else, set_again, at_longer}
use Rattle.handle_count.specs.CountWords.{count_of}
use Rattle.function_laws.specs.declared.history.Function.{Function}
use Rattle.function_laws.specs.declared.history.Entry.{Entry}
use Rattle.function_laws.specs.Tables.{Sizes}
use Rattle.function_laws.specs.EntryOrders.{opening_orders, orders_from}
use Rattle.function_laws.specs.SessionEntries.{Each, entries_of}
use Rattle.words_rule.specs.declared.cell.Cell.{Cell}
use Rattle.words_rule.specs.declared.view.Share.TheVariants as operation
use Rattle.words_rule.specs.Ordered.{KnowsOrders}
use Rattle.words_rule.specs.Generations.{IsOfSlot}
use Rattle.words_rule.specs.Holders.{IsHolder}
use Rattle.words_rule.specs.declared.view.Held.{Held}
use Rattle.words_rule.specs.declared.view.Row.{Row}
use Rattle.words_rule.specs.declared.view.Link.{Link}
use Rattle.words_rule.specs.declared.view.Walk.{Walk}
use Rattle.words_rule.specs.declared.view.Hold.TheVariants.{Free, Holding}
use Rattle.words_rule.specs.declared.view.Shares.{Shares}
use Rattle.words_rule.specs.declared.view.Job.{Job}
use Rattle.words_rule.specs.declared.view.Hand.{Hand}
use Rattle.words_rule.specs.declared.view.Draws.{Draws}
use Rattle.words_rule.specs.declared.view.View.{View}
use Rattle.words_rule.specs.Views.{sizes_for, one_more, session_of, with_gone, blank, orders_of, told_orders}
use Rattle.words_rule.specs.Layout.{Shape, Words, content_of, head_of, heads, levels, words_of}
use Rattle.words_rule.specs.Chains.{Knows}
use Rattle.words_rule.specs.Journal.{Journal}
use Rattle.words_rule.specs.Phase.{Phase, Footing, HasBoth, footing_of, weight, share, bit, hold, op_weight, op_share, walk_weight, walk_share, order_bit, order_hold, full_bit, full_hold, part, no_shares}
use Rattle.words_rule.specs.Tallies.{Counted, Tally, tally_of, row_count, refs, size, parts, times, total, sessions_of, parts_of}
use Rattle.words_rule.specs.Kept.{IsHeldBy, KeepsTally, Kept, Board}
use Rattle.words_rule.specs.Dues.{slot_of, word_of, IsWork}
use Rattle.words_rule.specs.Hands.{level_of, HasLevel, Owns, IsLoose, level_in, Tables, Linked}
use Rattle.words_rule.specs.Sifted.{IsRaised, IsPlaced, OwesLast, carried_by}
use Rattle.words_rule.specs.Seen.{IsSeen}
use Rattle.words_rule.specs.Rule.{Parts, Rule, Tied, FullHolder, HalfHolder, draws_in, footings_in, tallies_in, hands_in, bare}
use Rattle.words_rule.proofs.Handling.{never as no_some}
use Rattle.words_rule.proofs.Lists.{at_end, each_set, each_map, each_append}
use Rattle.words_rule.proofs.OneSessions.{one_split}
use Rattle.words_rule.proofs.Journals.{splits_it, joins_it}
use Rattle.words_rule.proofs.Tallying.{total-set}
use Rattle.words_rule.proofs.Sifting.{quiet}
use Rattle.node_store.specs.Contents.{Pair, view_of}
use Rattle.words_rule.specs.Remembered.{Remembered}
use Rattle.free_list.specs.FreeSlots.{FreeSlots}

total-append : {A : Type 0} (f : A → ℕ) (xs : List A) (b : A) → total f (xs ++ b ∷ []) ≡ total f xs + f b
total-append f [] b = omega arith
total-append f (x ∷ xs) b = let r = total-append f xs b in omega (arith, r)

-- what holds of each, and of one more
each_more : {A : Type 0} (F : ℕ → A → Type 0) (l : List A) (a : A) → ((j : ℕ) (b : A) → get_elem? l j ≡ some b → F j b) → F (length l) a → (j : ℕ) (b : A) → get_elem? (l ++ a ∷ []) j ≡ some b → F j b
each_more F l a old new j b at = ⊎_elim (λ was. old j b was) (λ (t : (j ≡ length l) × (a ≡ b)). subst (λ (x : ℕ × _). F x.0 x.1) (λ k. (sym t.0 k, t.1 k)) new) (at_end l a b j at)

-- a bare view has nothing of the phase word
phase_more : (n : ℕ) (xs : List Footing) → Phase n xs → (id : ℕ) (v a b : Footing) → get_elem? xs id ≡ some v → v.shares ≡ no_shares → a.shares ≡ no_shares → b.shares ≡ no_shares → a.parts + b.parts ≡ v.parts → Phase n (set xs id a ++ b ∷ [])
phase_more n xs r id v a b at of_v of_a of_b shared =
    let same : (f : Shares → ℕ) → f no_shares ≡ 0 → (f v.shares ≡ 0) × (f a.shares ≡ 0) × (f b.shares ≡ 0) = λ f zero_it. (ap f of_v ∙ zero_it, ap f of_a ∙ zero_it, ap f of_b ∙ zero_it) in
    let moved : (f : Footing → ℕ) → (f v ≡ 0) → (f a ≡ 0) → (f b ≡ 0) → total f (set xs id a ++ b ∷ []) ≡ total f xs = λ f x y w. let s = total-set f xs id v a at in let t = total-append f (set xs id a) b in omega (arith, s, t, x, y, w) in
    let ow = same (λ s. weight s.op) refl in let os = same (λ s. share s.op) refl in
    let ww = same (λ s. weight s.walk) refl in let wsh = same (λ s. share s.walk) refl in
    let ob = same (λ s. bit s.order) refl in let oh = same (λ s. hold s.order) refl in
    let fb = same (λ s. bit s.full) refl in let fh = same (λ s. hold s.full) refl in
    let t1 = moved op_weight ow.0 ow.1 ow.2 in let t2 = moved op_share os.0 os.1 os.2 in let t3 = moved walk_weight ww.0 ww.1 ww.2 in let t4 = moved walk_share wsh.0 wsh.1 wsh.2 in
    let t5 = moved order_bit ob.0 ob.1 ob.2 in let t6 = moved order_hold oh.0 oh.1 oh.2 in let t7 = moved full_bit fb.0 fb.1 fb.2 in let t8 = moved full_hold fh.0 fh.1 fh.2 in
    let p = total-set part xs id v a at in let q = total-append part (set xs id a) b in
    let m = r.most in let fields = r.fields in let one = r.one in let apart = r.apart in let apart_full = r.apart_full in
    record {
      most = omega (arith, p, q, m, shared);
      small = each_more (λ i (x : Footing). (op_weight x ≤ x.parts) × (walk_weight x ≤ x.parts)) (set xs id a) b
          (each_set (λ i (x : Footing). (op_weight x ≤ x.parts) × (walk_weight x ≤ x.parts)) xs id a (λ i x _ there. r.small i x there) (let y = ow.1 in let w = ww.1 in (omega (arith, y), omega (arith, w))))
          (let y = ow.2 in let w = ww.2 in (omega (arith, y), omega (arith, w)));
      fields = omega (arith, fields, t1, t3, t5, t7);
      one = omega (arith, one, t5);
      within = each_more (λ i (x : Footing). HasBoth x) (set xs id a) b
          (each_set (λ i (x : Footing). HasBoth x) xs id a (λ i x _ there. r.within i x there) (let y = fb.1 in let y2 = fh.1 in (omega (arith, y), omega (arith, y2))))
          (let y = fb.2 in let y2 = fh.2 in (omega (arith, y), omega (arith, y2)));
      apart = λ l. let k = apart (omega (arith, l, t6)) in omega (arith, k, t2);
      apart_full = λ l. let k = apart_full (omega (arith, l, t8)) in omega (arith, k, t4);
    }

-- nor of the counts
counted_more : (count : ℕ → ℕ) (cells : List (std.Option Held)) (ts : List Tally) → Counted count cells ts → (id : ℕ) (t a b : Tally) → get_elem? ts id ≡ some t
    → ((k : ℕ) → refs k a ≡ refs k t) → size a ≤ size t → a.sessions ≡ t.sessions → ((k : ℕ) → times k a.counts.pins ≡ times k t.counts.pins) → ((k : ℕ) → times k a.counts.zeros ≡ times k t.counts.zeros)
    → ((k : ℕ) → refs k b ≡ 0) → size b ≡ 0 → ((k : ℕ) → times k b.counts.pins ≡ 0) → ((k : ℕ) → times k b.counts.zeros ≡ 0)
    → a.parts + b.parts ≡ t.parts → a.sessions ≤ a.parts → b.sessions ≤ b.parts → Counted count cells (set ts id a ++ b ∷ [])
counted_more count cells ts r id t a b at same less sessions pins zeros none_b size_b pins_b zeros_b shared fit_a fit_b = record {
  counted = λ k. let now = r.counted k in let s = total-set (refs k) ts id t a at in let q = total-append (refs k) (set ts id a) b in let e = same k in let n = none_b k in omega (arith, now, s, q, e, n);
  most = let p = total-set parts ts id t a at in let q = total-append parts (set ts id a) b in let m = r.most in omega (arith, p, q, m, shared);
  few_cells = r.few_cells;
  small = each_more (λ i (u : Tally). (size u ≤ u.sessions * 2 ^ 25) × (u.sessions ≤ u.parts)) (set ts id a) b
      (each_set (λ i (u : Tally). (size u ≤ u.sessions * 2 ^ 25) × (u.sessions ≤ u.parts)) ts id a (λ i u _ there. r.small i u there) (let s = r.small id t at in let x = s.0 in (omega (arith, x, less, sessions), fit_a)))
      (omega (arith, size_b), fit_b);
  pinned = each_more (λ i (u : Tally). (k : ℕ) → times k u.counts.pins ≤ u.sessions) (set ts id a) b
      (each_set (λ i (u : Tally). (k : ℕ) → times k u.counts.pins ≤ u.sessions) ts id a (λ i u _ there. r.pinned i u there) (λ k. let p = r.pinned id t at k in let e = pins k in omega (arith, p, e, sessions)))
      (λ k. let e = pins_b k in omega (arith, e));
  still = each_more (λ i (u : Tally). (k : ℕ) → 0 < times k u.counts.zeros → count_of (count k) ≡ refs k u) (set ts id a) b
      (each_set (λ i (u : Tally). (k : ℕ) → 0 < times k u.counts.zeros → count_of (count k) ≡ refs k u) ts id a (λ i u _ there. r.still i u there) (λ k z. let e = zeros k in r.still id t at k (omega (arith, e, z)) ∙ sym (same k)))
      (λ k z. absurd (let e = zeros_b k in omega (arith, e, z)));
}

nothing_held : operation.Nothing ≡ operation.Held → ⊥
nothing_held e = cc

-- who has the journal alone is no holder
bare_holder : (count : ℕ → ℕ) (half : std.Option Pair) (pending : List ℕ) (e : Draws) → IsHolder count half pending (bare e)
bare_holder count half pending e = ((λ holding. absurd (never_holds holding)), (λ full. absurd (never_holds full)))
  where
    never_holds : Free ≡ Holding → ⊥
    never_holds h = cc

module _ {S : Type 0} (board : S → List (std.Option Cell)) (free_slots : S → FreeSlots) (memo : S → List ℕ) where
  abbrev PartsOf : Shape → Words → (ℕ → Option (Option (std.Option S))) → List View → Type 0
  PartsOf = Parts board free_slots memo

  -- the next session gets a seat of its own
  pub parts_split : (z : Shape) (ws : Words) (home : ℕ → Option (Option (std.Option S))) (vs : List View) (r : PartsOf z ws home vs) (id : ℕ) (d : Draws) → get_elem? vs id ≡ some (bare d) → d.closing ≡ true → d.given < 64
      → PartsOf z ws home (set vs id (bare (one_more d)) ++ bare (session_of d) ∷ [])
  parts_split z ws home vs r id d at closing room =
      let a = bare (one_more d) in
      let b = bare (session_of d) in
      let start : Sizes = sizes_for z.variables z.elements in
      let here : get_elem? (draws_in vs) id ≡ some d = at_map (λ (v : View). v.draws) vs id (bare d) at in
      let fits = (r.journal.each id d here).closing closing in
      let dead : d.live ≡ false = fits.0 in
      let old_parts : parts_of d ≡ (64 - d.given) + length d.gone = ap (λ x. cond x 1 (cond d.closing ((64 - d.given) + length d.gone) 0)) dead ∙ ap (λ x. cond x ((64 - d.given) + length d.gone) 0) closing in
      let new_parts : parts_of (one_more d) ≡ (64 - suc d.given) + length d.gone = ap (λ x. cond x 1 (cond d.closing ((64 - suc d.given) + length d.gone) 0)) dead ∙ ap (λ x. cond x ((64 - suc d.given) + length d.gone) 0) closing in
      let own : sessions_of d ≡ length d.gone = ap (λ x. cond x 1 (cond d.closing (length d.gone) 0)) dead ∙ ap (λ x. cond x (length d.gone) 0) closing in
      let shared : parts_of (one_more d) + 1 ≡ parts_of d = omega (arith, old_parts, new_parts, room) in
      record {
        log = r.log;
        table = r.table;
        cells = r.cells;
        function = r.function;
        half = r.half;
        orders = r.orders;
        pending = r.pending;
        on = r.on;
        chain = r.chain;
        journal = subst (λ (ds : List Draws). Journal ws.journal ws.board_turn ds start r.log r.table) (sym (mapped (λ (v : View). v.draws))) (splits_it ws.journal ws.board_turn (draws_in vs) start r.log r.table r.journal id d here closing room);
        phase = subst (Phase ws.phase) (sym (mapped footing_of)) (phase_more ws.phase (footings_in vs) r.phase id (footing_of (bare d)) (footing_of a) (footing_of b) (at_map footing_of vs id (bare d) at) refl refl refl shared);
        counts = subst (Counted ws.count r.cells) (sym (mapped tally_of)) (counted_more ws.count r.cells (tallies_in vs) r.counts id (tally_of (bare d)) (tally_of a) (tally_of b) (at_map tally_of vs id (bare d) at)
            (λ k. refl) (omega arith) refl (λ k. refl) (λ k. refl) (λ k. refl) refl (λ k. refl) (λ k. refl) shared (omega (arith, own, new_parts)) (omega arith));
        kept = subst (Kept z r.function r.cells) (sym (mapped tally_of)) (record {
          each = each_more (λ i (t : Tally). KeepsTally z r.function t) (set (tallies_in vs) id (tally_of a)) (tally_of b)
              (each_set (λ i (t : Tally). KeepsTally z r.function t) (tallies_in vs) id (tally_of a) (λ i t _ there. r.kept.each i t there) (let k = r.kept.each id (tally_of (bare d)) (at_map tally_of vs id (bare d) at) in record { rows = k.rows; raised = tt; owed = tt }))
              (record { rows = tt; raised = tt; owed = tt });
          fixed = r.kept.fixed;
          cells_kept = r.kept.cells_kept;
        });
        on_board = subst (λ (ds : List Draws). Board board ws.board_turn (home 0) ds r.table r.cells) (sym (mapped (λ (v : View). v.draws))) (record {
          are = r.on_board.are;
          home_is = r.on_board.home_is;
          held = each_more (λ i (e : Draws). e.holds ≡ true → e.cells ≡ r.cells) (set (draws_in vs) id (one_more d)) (session_of d)
              (each_set (λ i (e : Draws). e.holds ≡ true → e.cells ≡ r.cells) (draws_in vs) id (one_more d) (λ i e _ there. r.on_board.held i e there) (r.on_board.held id d here))
              (λ h. absurd (true≢false (sym h)));
        });
        positions = r.positions;
        ordered = record {
          settled = λ none_holds. r.ordered.settled (λ i u there holding. dite (ℕ_discrete i id)
              (λ same. free_not (ap (λ (y : View). y.shares.order) (some-injective (bare d) u (sym at ∙ (ap (λ j. get_elem? vs j) (sym same) ∙ there))) ∙ holding))
              (λ apart. none_holds i u (at_longer (set vs id a) (b ∷ []) i u (set_else vs id i a apart ∙ there)) holding));
          shared = each_more (λ _ (u : View). KnowsOrders r.orders u) (set vs id a) b
              (each_set (λ _ (u : View). KnowsOrders r.orders u) vs id a (λ i u _ there. r.ordered.shared i u there) (λ h. absurd (nothing_held h)))
              (λ h. absurd (nothing_held h));
          held = each_more (λ i (u : View). u.shares.order ≡ Holding → (orders_of u.known ≡ r.orders) × (told_orders u.known ≡ orders_from (opening_orders start) r.log)) (set vs id a) b
              (each_set (λ i (u : View). u.shares.order ≡ Holding → (orders_of u.known ≡ r.orders) × (told_orders u.known ≡ orders_from (opening_orders start) r.log)) vs id a (λ i u _ there. r.ordered.held i u there) (λ h. absurd (free_not h)))
              (λ h. absurd (free_not h));
        };
        sound = r.sound;
        remembered = subst (Remembered memo (view_of (content_of z ws.node r.orders r.function r.half)) ws.memo_turn (home 2)) (sym (mapped (λ (v : View). v.hand) ∙ ap (λ l. l ++ b.hand ∷ []) (set_again (hands_in vs) id a.hand (at_map (λ (v : View). v.hand) vs id (bare d) at)))) (record {
          holder = r.remembered.holder;
          at_home = r.remembered.at_home;
          held = each_more (λ i (h : Hand). h.memo ≡ true → (r.remembered.holder ≡ some i) × (ws.memo_turn ≢ 0)) (hands_in vs) b.hand r.remembered.held (λ has. absurd (true≢false (sym has)));
        });
        tables = subst (Tables free_slots z (content_of z ws.node r.orders r.function r.half) r.on ws.free_turn ws.turn home) (sym (mapped (λ (v : View). v.hand) ∙ ap (λ l. l ++ b.hand ∷ []) (set_again (hands_in vs) id a.hand (at_map (λ (v : View). v.hand) vs id (bare d) at)))) (let t = r.tables in record {
          free_now = t.free_now;
          free_holder = t.free_holder;
          holder = t.holder;
          taker = t.taker;
          loose = t.loose;
          free_is = t.free_is;
          free_home = t.free_home;
          free_held = each_more (λ i (h : Hand). (list : List ℕ) → h.free ≡ Some list → (t.free_holder ≡ some i) × (ws.free_turn ≢ 0) × (list ≡ t.free_now)) (hands_in vs) b.hand t.free_held (λ list its. absurd (no_list list its));
          level_home = t.level_home;
          level_held = each_more (λ i (h : Hand). (k l : ℕ) → get_elem? h.levels k ≡ some l → (l < levels z) × (t.holder l ≡ some i) × (ws.turn l ≢ 0)) (hands_in vs) b.hand t.level_held (λ k l there. absurd (some-ne-none l (sym there)));
          taken = each_more (λ i (h : Hand). (due : Job) → h.taken ≡ Some due → (t.taker (slot_of due) ≡ some i) × IsWork (content_of z ws.node r.orders r.function r.half) due × HasLevel h (level_of z (word_of due))) (hands_in vs) b.hand t.taken (λ due its. absurd (no_due due its));
          taken_by = λ s i is. let x = t.taken_by s i is in (x.0, x.1, at_longer (hands_in vs) (b.hand ∷ []) i x.0 x.2, x.3, x.4);
          loosened = each_more (λ i (h : Hand). (s : ℕ) → h.loose ≡ Some s → (t.loose s ≡ some i) × (r.on s ≡ false) × IsLoose z (content_of z ws.node r.orders r.function r.half) h s) (hands_in vs) b.hand t.loosened (λ s its. absurd (no_some s its));
          loose_by = λ s i is. let x = t.loose_by s i is in (x.0, at_longer (hands_in vs) (b.hand ∷ []) i x.0 x.1, x.2);
          high = t.high;
          complete = t.complete;
          walking = each_more (λ i (h : Hand). (n : Walk) → h.walk ≡ Some n → HasLevel h n.level) (hands_in vs) b.hand t.walking (λ n its. absurd (no_some n its));
        });
        linked = subst (Linked z ws.node ws.next ws.head r.on r.chain) (sym (mapped (λ (v : View). v.hand) ∙ ap (λ l. l ++ b.hand ∷ []) (set_again (hands_in vs) id a.hand (at_map (λ (v : View). v.hand) vs id (bare d) at)))) (let t = r.linked in record {
          chains = t.chains;
          fits = t.fits;
          used = t.used;
          links = each_more (λ i (h : Hand). (k : Link) → h.link ≡ Some k → Owns h k.slot → ws.next k.slot ≡ k.link) (hands_in vs) b.hand t.links (λ k its. absurd (no_some k its));
          walks = each_more (λ i (h : Hand). (n : Walk) → h.walk ≡ Some n → (n.head < heads z) × Knows ws.next (head_of z) (level_in z) ws.node r.on n.head n.level n.link n.rest) (hands_in vs) b.hand t.walks (λ n its. absurd (no_some n its));
          wholes = each_more (λ i (h : Hand). (n : Walk) → h.walk ≡ Some n → n.whole ≡ true → r.chain n.head ≡ n.rest) (hands_in vs) b.hand t.wholes (λ n its. absurd (no_some n its));
        });
        sifts = record {
          carried = λ i e there. each_map (IsPlaced start r.log vs (entries_of e.session (take i r.log)) i) (IsPlaced start r.log (set vs id a ++ b ∷ []) (entries_of e.session (take i r.log)) i) (stays dead (entries_of e.session (take i r.log)) i) (carried_by e.call) (r.sifts.carried i e there);
          noted = each_more (λ i (u : View). u.draws.live ≡ true → Each (IsPlaced start r.log (set vs id a ++ b ∷ []) (entries_of u.draws.session r.log) (length r.log)) u.counts.above) (set vs id a) b
              (each_set (λ i (u : View). u.draws.live ≡ true → Each (IsPlaced start r.log (set vs id a ++ b ∷ []) (entries_of u.draws.session r.log) (length r.log)) u.counts.above) vs id a
              (λ i u _ there l. each_map (IsPlaced start r.log vs (entries_of u.draws.session r.log) (length r.log)) (IsPlaced start r.log (set vs id a ++ b ∷ []) (entries_of u.draws.session r.log) (length r.log)) (stays dead (entries_of u.draws.session r.log) (length r.log)) u.counts.above (r.sifts.noted i u there l)) (λ l. tt))
              (λ l. tt);
          owes = each_more (λ i (u : View). u.draws.live ≡ true → Each (OwesLast start r.log u.draws.session) u.counts.owed) (set vs id a) b
              (each_set (λ i (u : View). u.draws.live ≡ true → Each (OwesLast start r.log u.draws.session) u.counts.owed) vs id a (λ i u _ there. r.sifts.owes i u there) (λ l. tt)) (λ l. tt);
        };
        tied = each_more (λ i (u : View). Tied u) (set vs id a) b (each_set (λ i (u : View). Tied u) vs id a (λ i u _ there. r.tied i u there) (bare_tied (one_more d))) (bare_tied (session_of d));
        sized = each_more (λ i (u : View). (u.draws.live ≡ true) ⊎ (u.draws.closing ≡ true) → u.draws.slots ≡ z.slots) (set vs id a) b
            (each_set (λ i (u : View). (u.draws.live ≡ true) ⊎ (u.draws.closing ≡ true) → u.draws.slots ≡ z.slots) vs id a (λ i u _ there. r.sized i u there) (λ _. r.sized id (bare d) at (inr closing)))
            (λ _. r.sized id (bare d) at (inr closing));
        holders = each_more (λ _ (u : View). IsHolder ws.count r.half r.pending u) (set vs id a) b (each_set (λ _ (u : View). IsHolder ws.count r.half r.pending u) vs id a (λ i u _ there. r.holders i u there) (bare_holder ws.count r.half r.pending (one_more d))) (bare_holder ws.count r.half r.pending (session_of d));
        generations = each_more (λ _ (u : View). Each (IsOfSlot ws.count u) u.counts.generations) (set vs id a) b (each_set (λ _ (u : View). Each (IsOfSlot ws.count u) u.counts.generations) vs id a (λ i u _ there. r.generations i u there) tt) tt;
        seen = each_more (λ _ (u : View). IsSeen z ws.node r.function u) (set vs id a) b (each_set (λ _ (u : View). IsSeen z ws.node r.function u) vs id a (λ i u _ there. r.seen i u there) (record { words = λ _. tt; held = λ _. tt })) (record { words = λ _. tt; held = λ _. tt });
        half_by = ⊎_elim (λ none_half. inl none_half) (λ (y : HalfHolder r.half vs). inr (longer_half y)) r.half_by;
        pending_by = ⊎_elim (λ none_due. inl none_due) (λ (y : (h : FullHolder vs) × (h.1.known.pending ≡ r.pending)). inr (longer_due y)) r.pending_by;
      }
    where
      mapped : {A : Type 0} (f : View → A) → map f (set vs id (bare (one_more d)) ++ bare (session_of d) ∷ []) ≡ set (map f vs) id (f (bare (one_more d))) ++ f (bare (session_of d)) ∷ []
      mapped f = map-append f (set vs id (bare (one_more d))) (bare (session_of d) ∷ []) ∙ ap (λ l. l ++ f (bare (session_of d)) ∷ []) (map-set f vs id (bare (one_more d)))

      free_not : Free ≡ Holding → ⊥
      free_not e = cc

      no_list : (list : List ℕ) → None ≡ Some list → ⊥
      no_list list e = cc

      no_due : (due : Job) → None ≡ Some due → ⊥
      no_due due e = cc

      bare_tied : (e : Draws) → Tied (bare e)
      bare_tied e = record { zeros = λ k zeros. absurd (omega (arith, zeros)); pins = λ k pins. absurd (omega (arith, pins)); taken = λ busy. absurd (busy (refl, refl, refl)); alone = λ n walk whole. absurd (no_some n walk); dead = λ _. (refl, refl, (refl, refl, refl), refl, refl) }

      -- this seat holds nothing
      longer_half : HalfHolder r.half vs → HalfHolder r.half (set vs id (bare (one_more d)) ++ bare (session_of d) ∷ [])
      longer_half y = dite (ℕ_discrete y.0.0 id)
          (λ same. absurd (free_not (ap (λ (u : View). u.shares.full) (some-injective (bare d) y.0.1 (sym at ∙ (ap (λ j. get_elem? vs j) (sym same) ∙ y.0.2))) ∙ y.0.3)))
          (λ apart. ((y.0.0, y.0.1, at_longer (set vs id (bare (one_more d))) (bare (session_of d) ∷ []) y.0.0 y.0.1 (set_else vs id y.0.0 (bare (one_more d)) apart ∙ y.0.2), y.0.3), y.1))

      longer_due : (h : FullHolder vs) × (h.1.known.pending ≡ r.pending) → (h : FullHolder (set vs id (bare (one_more d)) ++ bare (session_of d) ∷ [])) × (h.1.known.pending ≡ r.pending)
      longer_due y = dite (ℕ_discrete y.0.0 id)
          (λ same. absurd (free_not (ap (λ (u : View). u.shares.full) (some-injective (bare d) y.0.1 (sym at ∙ (ap (λ j. get_elem? vs j) (sym same) ∙ y.0.2))) ∙ y.0.3)))
          (λ apart. ((y.0.0, y.0.1, at_longer (set vs id (bare (one_more d))) (bare (session_of d) ∷ []) y.0.0 y.0.1 (set_else vs id y.0.0 (bare (one_more d)) apart ∙ y.0.2), y.0.3), y.1))

      raised : d.live ≡ false → (high : List Entry) (f : Function) → IsRaised high vs f → IsRaised high (set vs id (bare (one_more d)) ++ bare (session_of d) ∷ []) f
      raised dead high f x = dite (ℕ_discrete x.id id)
          (λ same. absurd (true≢false (sym (ap (λ (y : View). y.draws.live) (some-injective (bare d) x.view (sym at ∙ (ap (λ j. get_elem? vs j) (sym same) ∙ x.at))) ∙ x.live) ∙ dead)))
          (λ apart. record { id = x.id; view = x.view; at = at_longer (set vs id (bare (one_more d))) (bare (session_of d) ∷ []) x.id x.view (set_else vs id x.id (bare (one_more d)) apart ∙ x.at); live = x.live; none_behind = x.none_behind; index = x.index; held = x.held; raised = x.raised; one = x.one })

      stays : d.live ≡ false → (own : List Entry) (most : ℕ) (f : Function) → IsPlaced (sizes_for z.variables z.elements) r.log vs own most f → IsPlaced (sizes_for z.variables z.elements) r.log (set vs id (bare (one_more d)) ++ bare (session_of d) ∷ []) own most f
      stays dead own most f p = record { place = p.place; within = p.within; later = p.later; is = quiet (sizes_for z.variables z.elements) r.log vs (set vs id (bare (one_more d)) ++ bare (session_of d) ∷ []) p.place f (raised dead (drop p.place r.log) f) p.is }

  -- as the table asks for it
  pub splits : (id : ℕ) (v : View) → v ≡ bare v.draws → v.draws.closing ≡ true → v.draws.given < v.draws.sessions → v.draws.sessions ≤ 64 → Splits (Rule board free_slots memo) id v (bare (one_more v.draws)) (bare (session_of v.draws))
  splits id v is closing room few s r at = record {
    shape = r.shape;
    wide = r.wide;
    long = r.long;
    parts = parts_split r.shape (words_of r.shape s.words) (λ (k : ℕ). get_elem? s.homes k) s.views r.parts id v.draws (at ∙ ap some is) closing (omega (arith, room, few));
    one = one_split board free_slots memo r.shape (words_of r.shape s.words).order (words_of r.shape s.words).node (words_of r.shape s.words).count s.views r.one id v.draws (at ∙ ap some is)
        ((r.parts.journal.each id v.draws (at_map (λ (u : View). u.draws) s.views id v at)).closing closing).0 closing room;
  }

-- two seats become one, and the other is spent
phase_less : (n : ℕ) (xs : List Footing) → Phase n xs → (id other : ℕ) (v w a b : Footing) → get_elem? xs id ≡ some v → get_elem? (set xs id a) other ≡ some w → v.shares ≡ no_shares → w.shares ≡ no_shares → a.shares ≡ no_shares → b.shares ≡ no_shares → a.parts + b.parts ≡ v.parts + w.parts
    → Phase n (set (set xs id a) other b)
phase_less n xs r id other v w a b at there of_v of_w of_a of_b shared =
    let moved : (f : Footing → ℕ) → (f v ≡ 0) → (f w ≡ 0) → (f a ≡ 0) → (f b ≡ 0) → total f (set (set xs id a) other b) ≡ total f xs =
    λ f x x' y z. let s = total-set f xs id v a at in let t = total-set f (set xs id a) other w b there in omega (arith, s, t, x, x', y, z) in
    let by : (f : Shares → ℕ) → f no_shares ≡ 0 → (f v.shares ≡ 0) × (f w.shares ≡ 0) × (f a.shares ≡ 0) × (f b.shares ≡ 0) = λ f e. (ap f of_v ∙ e, ap f of_w ∙ e, ap f of_a ∙ e, ap f of_b ∙ e) in
    let ow = by (λ s. weight s.op) refl in let os = by (λ s. share s.op) refl in
    let ww = by (λ s. weight s.walk) refl in let wsh = by (λ s. share s.walk) refl in
    let ob = by (λ s. bit s.order) refl in let oh = by (λ s. hold s.order) refl in
    let fb = by (λ s. bit s.full) refl in let fh = by (λ s. hold s.full) refl in
    let t1 = moved op_weight ow.0 ow.1 ow.2 ow.3 in let t2 = moved op_share os.0 os.1 os.2 os.3 in let t3 = moved walk_weight ww.0 ww.1 ww.2 ww.3 in let t4 = moved walk_share wsh.0 wsh.1 wsh.2 wsh.3 in
    let t5 = moved order_bit ob.0 ob.1 ob.2 ob.3 in let t6 = moved order_hold oh.0 oh.1 oh.2 oh.3 in let t7 = moved full_bit fb.0 fb.1 fb.2 fb.3 in let t8 = moved full_hold fh.0 fh.1 fh.2 fh.3 in
    let p = total-set part xs id v a at in let q = total-set part (set xs id a) other w b there in
    let m = r.most in let fields = r.fields in let one = r.one in let apart = r.apart in let apart_full = r.apart_full in
    record {
      most = omega (arith, p, q, m, shared);
      small = each_set (λ i (x : Footing). (op_weight x ≤ x.parts) × (walk_weight x ≤ x.parts)) (set xs id a) other b
          (λ i x _ lies. each_set (λ i (x : Footing). (op_weight x ≤ x.parts) × (walk_weight x ≤ x.parts)) xs id a (λ i x _ there. r.small i x there) (let y = ow.2 in let z = ww.2 in (omega (arith, y), omega (arith, z))) i x lies)
          (let y = ow.3 in let z = ww.3 in (omega (arith, y), omega (arith, z)));
      fields = omega (arith, fields, t1, t3, t5, t7);
      one = omega (arith, one, t5);
      within = each_set (λ i (x : Footing). HasBoth x) (set xs id a) other b
          (λ i x _ lies. each_set (λ i (x : Footing). HasBoth x) xs id a (λ i x _ there. r.within i x there) (let y = fb.2 in let y2 = fh.2 in (omega (arith, y), omega (arith, y2))) i x lies)
          (let y = fb.3 in let y2 = fh.3 in (omega (arith, y), omega (arith, y2)));
      apart = λ l. let k = apart (omega (arith, l, t6)) in omega (arith, k, t2);
      apart_full = λ l. let k = apart_full (omega (arith, l, t8)) in omega (arith, k, t4);
    }

counted_less : (count : ℕ → ℕ) (cells : List (std.Option Held)) (ts : List Tally) → Counted count cells ts → (id other : ℕ) (t u a b : Tally) → get_elem? ts id ≡ some t → get_elem? ts other ≡ some u → get_elem? (set ts id a) other ≡ some u
    → ((k : ℕ) → refs k a ≡ refs k t + refs k u) → size a ≤ size t + size u → a.sessions ≡ t.sessions + u.sessions → ((k : ℕ) → times k a.counts.pins ≡ 0) → ((k : ℕ) → times k a.counts.zeros ≡ 0)
    → ((k : ℕ) → refs k b ≡ 0) → size b ≡ 0 → ((k : ℕ) → times k b.counts.pins ≡ 0) → ((k : ℕ) → times k b.counts.zeros ≡ 0)
    → a.parts + b.parts ≡ t.parts + u.parts → a.sessions ≤ a.parts → b.sessions ≤ b.parts → Counted count cells (set (set ts id a) other b)
counted_less count cells ts r id other t u a b at here there same less sessions pins zeros none_b size_b pins_b zeros_b shared fit_a fit_b = record {
  counted = λ k. let now = r.counted k in let s = total-set (refs k) ts id t a at in let q = total-set (refs k) (set ts id a) other u b there in let e = same k in let n = none_b k in omega (arith, now, s, q, e, n);
  most = let p = total-set parts ts id t a at in let q = total-set parts (set ts id a) other u b there in let m = r.most in omega (arith, p, q, m, shared);
  few_cells = r.few_cells;
  small = each_set (λ i (y : Tally). (size y ≤ y.sessions * 2 ^ 25) × (y.sessions ≤ y.parts)) (set ts id a) other b
      (λ i y _ lies. each_set (λ i (y : Tally). (size y ≤ y.sessions * 2 ^ 25) × (y.sessions ≤ y.parts)) ts id a (λ i y _ there. r.small i y there)
      (let x = (r.small id t at).0 in let x' = (r.small other u here).0 in (omega (arith, x, x', less, sessions), fit_a)) i y lies)
      (omega (arith, size_b), fit_b);
  pinned = each_set (λ i (y : Tally). (k : ℕ) → times k y.counts.pins ≤ y.sessions) (set ts id a) other b
      (λ i y _ lies. each_set (λ i (y : Tally). (k : ℕ) → times k y.counts.pins ≤ y.sessions) ts id a (λ i y _ there. r.pinned i y there) (λ k. let e = pins k in omega (arith, e)) i y lies)
      (λ k. let e = pins_b k in omega (arith, e));
  still = each_set (λ i (y : Tally). (k : ℕ) → 0 < times k y.counts.zeros → count_of (count k) ≡ refs k y) (set ts id a) other b
      (λ i y _ lies. each_set (λ i (y : Tally). (k : ℕ) → 0 < times k y.counts.zeros → count_of (count k) ≡ refs k y) ts id a (λ i y _ there. r.still i y there) (λ k z. absurd (let e = zeros k in omega (arith, e, z))) i y lies)
      (λ k z. absurd (let e = zeros_b k in omega (arith, e, z)));
}

rows-append : (k : ℕ) (xs ys : List Row) → row_count k (xs ++ ys) ≡ row_count k xs + row_count k ys
rows-append k [] ys = omega arith
rows-append k (x ∷ xs) ys = let r = rows-append k xs ys in omega (arith, r)

module _ {S : Type 0} (board : S → List (std.Option Cell)) (free_slots : S → FreeSlots) (memo : S → List ℕ) where
  -- a session's seat is taken in
  pub parts_join : (z : Shape) (ws : Words) (home : ℕ → Option (Option (std.Option S))) (vs : List View) (r : Parts board free_slots memo z ws home vs) (id other : ℕ) (d e : Draws) → get_elem? vs id ≡ some (bare d) → ¬ (other ≡ id)
      → get_elem? (set vs id (bare (with_gone d e))) other ≡ some (bare e) → d.closing ≡ true → e.live ≡ true → e.holds ≡ false
      → Parts board free_slots memo z ws home (set (set vs id (bare (with_gone d e))) other (bare blank))
  parts_join z ws home vs r id other d e at apart there closing live free =
      let a = bare (with_gone d e) in
      let b = bare blank in
      let start : Sizes = sizes_for z.variables z.elements in
      let here : get_elem? (draws_in vs) id ≡ some d = at_map (λ (v : View). v.draws) vs id (bare d) at in
      let at_other : get_elem? vs other ≡ some (bare e) = sym (set_else vs id other a apart) ∙ there in
      let dead : d.live ≡ false = ((r.journal.each id d here).closing closing).0 in
      let gone : length (with_gone d e).gone ≡ length d.gone + 1 = length-append d.gone _ in
      let of_d : parts_of d ≡ (64 - d.given) + length d.gone = ap (λ x. cond x 1 (cond d.closing ((64 - d.given) + length d.gone) 0)) dead ∙ ap (λ x. cond x ((64 - d.given) + length d.gone) 0) closing in
      let of_a : parts_of (with_gone d e) ≡ (64 - d.given) + length (with_gone d e).gone = ap (λ x. cond x 1 (cond d.closing ((64 - d.given) + length (with_gone d e).gone) 0)) dead ∙ ap (λ x. cond x ((64 - d.given) + length (with_gone d e).gone) 0) closing in
      let of_e : parts_of e ≡ 1 = ap (λ x. cond x 1 (cond e.closing ((64 - e.given) + length e.gone) 0)) live in
      let own_d : sessions_of d ≡ length d.gone = ap (λ x. cond x 1 (cond d.closing (length d.gone) 0)) dead ∙ ap (λ x. cond x (length d.gone) 0) closing in
      let own_a : sessions_of (with_gone d e) ≡ length (with_gone d e).gone = ap (λ x. cond x 1 (cond d.closing (length (with_gone d e).gone) 0)) dead ∙ ap (λ x. cond x (length (with_gone d e).gone) 0) closing in
      let own_e : sessions_of e ≡ 1 = ap (λ x. cond x 1 (cond e.closing (length e.gone) 0)) live in
      let shared : parts_of (with_gone d e) + parts_of blank ≡ parts_of d + parts_of e = omega (arith, of_d, of_a, of_e, gone) in
      let held_here : (f : View → Footing) → get_elem? (set (map f vs) id (f a)) other ≡ some (f (bare e)) = λ f. subst (λ (l : List Footing). get_elem? l other ≡ some (f (bare e))) (map-set f vs id a) (at_map f (set vs id a) other (bare e) there) in
      let tally_here : get_elem? (set (tallies_in vs) id (tally_of a)) other ≡ some (tally_of (bare e)) = subst (λ (l : List Tally). get_elem? l other ≡ some (tally_of (bare e))) (map-set tally_of vs id a) (at_map tally_of (set vs id a) other (bare e) there) in
      let draws_here : get_elem? (set (draws_in vs) id (with_gone d e)) other ≡ some e = subst (λ (l : List Draws). get_elem? l other ≡ some e) (map-set (λ (v : View). v.draws) vs id a) (at_map (λ (v : View). v.draws) (set vs id a) other (bare e) there) in
      let rows : length (d.rows ++ e.rows) ≡ length d.rows + length e.rows = length-append d.rows e.rows in
      record {
        log = r.log;
        table = r.table;
        cells = r.cells;
        function = r.function;
        half = r.half;
        orders = r.orders;
        pending = r.pending;
        on = r.on;
        chain = r.chain;
        journal = subst (λ (ds : List Draws). Journal ws.journal ws.board_turn ds start r.log r.table) (sym (mapped (λ (v : View). v.draws))) (joins_it ws.journal ws.board_turn (draws_in vs) start r.log r.table r.journal id d other e here apart draws_here closing live free);
        phase = subst (Phase ws.phase) (sym (mapped footing_of)) (phase_less ws.phase (footings_in vs) r.phase id other (footing_of (bare d)) (footing_of (bare e)) (footing_of a) (footing_of b) (at_map footing_of vs id (bare d) at) (held_here footing_of) refl refl refl refl shared);
        counts = subst (Counted ws.count r.cells) (sym (mapped tally_of)) (counted_less ws.count r.cells (tallies_in vs) r.counts id other (tally_of (bare d)) (tally_of (bare e)) (tally_of a) (tally_of b) (at_map tally_of vs id (bare d) at) (at_map tally_of vs other (bare e) at_other) tally_here
            (λ k. let x = rows-append k d.rows e.rows in omega (arith, x)) (omega (arith, rows)) (omega (arith, own_a, own_d, own_e, gone)) (λ k. refl) (λ k. refl) (λ k. refl) refl (λ k. refl) (λ k. refl) shared (omega (arith, own_a, of_a)) (omega arith));
        kept = subst (Kept z r.function r.cells) (sym (mapped tally_of)) (record {
          each = each_set (λ i (t : Tally). KeepsTally z r.function t) (set (tallies_in vs) id (tally_of a)) other (tally_of b)
              (λ i t _ lies. each_set (λ i (t : Tally). KeepsTally z r.function t) (tallies_in vs) id (tally_of a) (λ i t _ there. r.kept.each i t there)
              (let k = r.kept.each id (tally_of (bare d)) (at_map tally_of vs id (bare d) at) in let l = r.kept.each other (tally_of (bare e)) (at_map tally_of vs other (bare e) at_other) in
              record { rows = each_append (λ (row : Row). IsHeldBy z r.function row.held) d.rows e.rows k.rows l.rows; raised = tt; owed = tt }) i t lies)
              (record { rows = tt; raised = tt; owed = tt });
          fixed = r.kept.fixed;
          cells_kept = r.kept.cells_kept;
        });
        on_board = subst (λ (ds : List Draws). Board board ws.board_turn (home 0) ds r.table r.cells) (sym (mapped (λ (v : View). v.draws))) (record {
          are = r.on_board.are;
          home_is = r.on_board.home_is;
          held = each_set (λ i (f : Draws). f.holds ≡ true → f.cells ≡ r.cells) (set (draws_in vs) id (with_gone d e)) other blank
              (λ i f _ lies. each_set (λ i (f : Draws). f.holds ≡ true → f.cells ≡ r.cells) (draws_in vs) id (with_gone d e) (λ i f _ there. r.on_board.held i f there) (r.on_board.held id d here) i f lies)
              (λ h. absurd (true≢false (sym h)));
        });
        positions = r.positions;
        ordered = record {
          settled = λ none_holds. r.ordered.settled (λ i u lies holding. let x = left i u lies (λ is. free_not (sym (ap (λ (y : View). y.shares.order) is) ∙ holding)) (λ is. free_not (sym (ap (λ (y : View). y.shares.order) is) ∙ holding)) at_other in none_holds i u x holding);
          shared = each_set (λ _ (u : View). KnowsOrders r.orders u) (set vs id a) other b
              (λ i u _ lies. each_set (λ _ (u : View). KnowsOrders r.orders u) vs id a (λ i u _ there. r.ordered.shared i u there) (λ h. absurd (nothing_held h)) i u lies)
              (λ h. absurd (nothing_held h));
          held = each_set (λ i (u : View). u.shares.order ≡ Holding → (orders_of u.known ≡ r.orders) × (told_orders u.known ≡ orders_from (opening_orders start) r.log)) (set vs id a) other b
              (λ i u _ lies. each_set (λ i (u : View). u.shares.order ≡ Holding → (orders_of u.known ≡ r.orders) × (told_orders u.known ≡ orders_from (opening_orders start) r.log)) vs id a (λ i u _ there. r.ordered.held i u there) (λ h. absurd (free_not h)) i u lies)
              (λ h. absurd (free_not h));
        };
        sound = r.sound;
        remembered = subst (Remembered memo (view_of (content_of z ws.node r.orders r.function r.half)) ws.memo_turn (home 2)) (sym (mapped (λ (v : View). v.hand) ∙ ap (λ l. set l other b.hand) (set_again (hands_in vs) id a.hand (at_map (λ (v : View). v.hand) vs id (bare d) at)) ∙ set_again (hands_in vs) other b.hand (at_map (λ (v : View). v.hand) vs other (bare e) at_other))) r.remembered;
        tables = subst (Tables free_slots z (content_of z ws.node r.orders r.function r.half) r.on ws.free_turn ws.turn home) (sym (mapped (λ (v : View). v.hand) ∙ ap (λ l. set l other b.hand) (set_again (hands_in vs) id a.hand (at_map (λ (v : View). v.hand) vs id (bare d) at)) ∙ set_again (hands_in vs) other b.hand (at_map (λ (v : View). v.hand) vs other (bare e) at_other))) r.tables;
        linked = subst (Linked z ws.node ws.next ws.head r.on r.chain) (sym (mapped (λ (v : View). v.hand) ∙ ap (λ l. set l other b.hand) (set_again (hands_in vs) id a.hand (at_map (λ (v : View). v.hand) vs id (bare d) at)) ∙ set_again (hands_in vs) other b.hand (at_map (λ (v : View). v.hand) vs other (bare e) at_other))) r.linked;
        sifts = record {
          carried = λ i f lies. each_map (IsPlaced start r.log vs (entries_of f.session (take i r.log)) i) (IsPlaced start r.log (set (set vs id a) other b) (entries_of f.session (take i r.log)) i) (stays dead at_other (entries_of f.session (take i r.log)) i) (carried_by f.call) (r.sifts.carried i f lies);
          noted = each_set (λ i (u : View). u.draws.live ≡ true → Each (IsPlaced start r.log (set (set vs id a) other b) (entries_of u.draws.session r.log) (length r.log)) u.counts.above) (set vs id a) other b
              (λ i u _ lies. each_set (λ i (u : View). u.draws.live ≡ true → Each (IsPlaced start r.log (set (set vs id a) other b) (entries_of u.draws.session r.log) (length r.log)) u.counts.above) vs id a
              (λ i u _ there l. each_map (IsPlaced start r.log vs (entries_of u.draws.session r.log) (length r.log)) (IsPlaced start r.log (set (set vs id a) other b) (entries_of u.draws.session r.log) (length r.log)) (stays dead at_other (entries_of u.draws.session r.log) (length r.log)) u.counts.above (r.sifts.noted i u there l)) (λ l. tt) i u lies)
              (λ l. tt);
          owes = each_set (λ i (u : View). u.draws.live ≡ true → Each (OwesLast start r.log u.draws.session) u.counts.owed) (set vs id a) other b
              (λ i u _ lies. each_set (λ i (u : View). u.draws.live ≡ true → Each (OwesLast start r.log u.draws.session) u.counts.owed) vs id a (λ i u _ there. r.sifts.owes i u there) (λ l. tt) i u lies) (λ l. tt);
        };
        tied = each_set (λ i (u : View). Tied u) (set vs id a) other b (λ i u _ lies. each_set (λ i (u : View). Tied u) vs id a (λ i u _ there. r.tied i u there) (bare_tied (with_gone d e)) i u lies) (bare_tied blank);
        sized = each_set (λ i (u : View). (u.draws.live ≡ true) ⊎ (u.draws.closing ≡ true) → u.draws.slots ≡ z.slots) (set vs id a) other b
            (λ i u _ lies. each_set (λ i (u : View). (u.draws.live ≡ true) ⊎ (u.draws.closing ≡ true) → u.draws.slots ≡ z.slots) vs id a (λ i u _ there. r.sized i u there) (r.sized id (bare d) at) i u lies)
            (⊎_elim (λ l. absurd (true≢false (sym l))) (λ c. absurd (true≢false (sym c))));
        holders = each_set (λ _ (u : View). IsHolder ws.count r.half r.pending u) (set vs id a) other b (λ i u _ lies. each_set (λ _ (u : View). IsHolder ws.count r.half r.pending u) vs id a (λ i u _ there. r.holders i u there) (bare_holder ws.count r.half r.pending (with_gone d e)) i u lies) (bare_holder ws.count r.half r.pending blank);
        generations = each_set (λ _ (u : View). Each (IsOfSlot ws.count u) u.counts.generations) (set vs id a) other b (λ i u _ lies. each_set (λ _ (u : View). Each (IsOfSlot ws.count u) u.counts.generations) vs id a (λ i u _ there. r.generations i u there) tt i u lies) tt;
        seen = each_set (λ _ (u : View). IsSeen z ws.node r.function u) (set vs id a) other b (λ i u _ lies. each_set (λ _ (u : View). IsSeen z ws.node r.function u) vs id a (λ i u _ there. r.seen i u there) (record { words = λ _. tt; held = λ _. tt }) i u lies) (record { words = λ _. tt; held = λ _. tt });
        half_by = ⊎_elim (λ none_half. inl none_half) (λ (y : HalfHolder r.half vs). let h = y.0 in
            inr ((h.0, h.1, left h.0 h.1 h.2 (λ is. free_not (sym (ap (λ (y : View). y.shares.full) is) ∙ h.3)) (λ is. free_not (sym (ap (λ (y : View). y.shares.full) is) ∙ h.3)) at_other, h.3), y.1)) r.half_by;
        pending_by = ⊎_elim (λ none_due. inl none_due) (λ (y : (h : FullHolder vs) × (h.1.known.pending ≡ r.pending)). let h = y.0 in
            inr ((h.0, h.1, left h.0 h.1 h.2 (λ is. free_not (sym (ap (λ (y : View). y.shares.full) is) ∙ h.3)) (λ is. free_not (sym (ap (λ (y : View). y.shares.full) is) ∙ h.3)) at_other, h.3), y.1)) r.pending_by;
      }
    where
      mapped : {A : Type 0} (f : View → A) → map f (set (set vs id (bare (with_gone d e))) other (bare blank)) ≡ set (set (map f vs) id (f (bare (with_gone d e)))) other (f (bare blank))
      mapped f = map-set f (set vs id (bare (with_gone d e))) other (bare blank) ∙ ap (λ l. set l other (f (bare blank))) (map-set f vs id (bare (with_gone d e)))

      free_not : Free ≡ Holding → ⊥
      free_not x = cc

      -- a view that is neither of the two stays
      left : (i : ℕ) (u : View) → get_elem? vs i ≡ some u → (u ≡ bare d → ⊥) → (u ≡ bare e → ⊥) → get_elem? vs other ≡ some (bare e) → get_elem? (set (set vs id (bare (with_gone d e))) other (bare blank)) i ≡ some u
      left i u lies not_d not_e at_other = dite (ℕ_discrete i id)
          (λ same. absurd (not_d (some-injective u (bare d) (sym lies ∙ (ap (λ j. get_elem? vs j) same ∙ at)))))
          (λ off_id. dite (ℕ_discrete i other)
          (λ same. absurd (not_e (some-injective u (bare e) (sym lies ∙ (ap (λ j. get_elem? vs j) same ∙ at_other)))))
          (λ off_other. set_else (set vs id (bare (with_gone d e))) other i (bare blank) off_other ∙ (set_else vs id i (bare (with_gone d e)) off_id ∙ lies)))

      bare_tied : (f : Draws) → Tied (bare f)
      bare_tied f = record { zeros = λ k zeros. absurd (omega (arith, zeros)); pins = λ k pins. absurd (omega (arith, pins)); taken = λ busy. absurd (busy (refl, refl, refl)); alone = λ n walk whole. absurd (no_some n walk); dead = λ _. (refl, refl, (refl, refl, refl), refl, refl) }

      raised : d.live ≡ false → get_elem? vs other ≡ some (bare e) → (high : List Entry) (f : Function) → IsRaised high vs f → IsRaised high (set (set vs id (bare (with_gone d e))) other (bare blank)) f
      raised dead at_other high f x = record {
        id = x.id;
        view = x.view;
        at = left x.id x.view x.at (λ is. true≢false (sym (ap (λ (y : View). y.draws.live) (sym is) ∙ x.live) ∙ dead)) (λ is. some-ne-none x.held (sym (ap (λ (y : View). get_elem? y.counts.raised x.index) (sym is) ∙ x.raised))) at_other;
        live = x.live;
        none_behind = x.none_behind;
        index = x.index;
        held = x.held;
        raised = x.raised;
        one = x.one;
      }

      stays : d.live ≡ false → get_elem? vs other ≡ some (bare e) → (own : List Entry) (most : ℕ) (f : Function) → IsPlaced (sizes_for z.variables z.elements) r.log vs own most f → IsPlaced (sizes_for z.variables z.elements) r.log (set (set vs id (bare (with_gone d e))) other (bare blank)) own most f
      stays dead at_other own most f p = record { place = p.place; within = p.within; later = p.later; is = quiet (sizes_for z.variables z.elements) r.log vs (set (set vs id (bare (with_gone d e))) other (bare blank)) p.place f (raised dead at_other (drop p.place r.log) f) p.is }
