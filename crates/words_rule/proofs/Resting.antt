-- A seat that has put down all that it had is taken in as one that knows of the journal alone.
use Rattle.std.proofs.Common.{◌≡◌, ◌≢◌, ◌⊎◌, inl, inr, ℕ, zero, suc, ⊎_elim, ◌+◌, ◌*◌, ◌^◌, ◌<◌, ◌≤◌, true, List, [], ◌∷◌, set, length, refl, ap, sym, subst, ◌∙◌, arith, true≢false, eq-eqb}
use Rattle.std.specs.Prelude as std
use Rattle.std.specs.Prelude.{Some, None, map}
use mathlib.Core.Logic.{dite}
use mathlib.Core.Option.{Option, some, some-injective, some-ne-none}
use native.Mathlib.Decide.{ℕ_discrete}
use lib.ListN.{get_elem?}
use lib.Seq.{map-set}
use Rattle.atomic_table.specs.Table.{Joins}
use Rattle.atomic_table.proofs.Lists.{at_map, set_else, set_again}
use Rattle.handle_count.specs.CountWords.{count_of}
use Rattle.function_laws.specs.EntryOrders.{opening_orders, orders_from}
use Rattle.function_laws.specs.SessionEntries.{Each}
use Rattle.function_laws.specs.Tables.{Sizes}
use Rattle.words_rule.specs.declared.cell.Cell.{Cell}
use Rattle.words_rule.specs.declared.view.Share.TheVariants as operation
use Rattle.words_rule.specs.declared.view.Hold.TheVariants.{Free, Holding}
use Rattle.words_rule.specs.declared.view.Held.{Held}
use Rattle.words_rule.specs.declared.view.Draws.{Draws}
use Rattle.words_rule.specs.declared.view.View.{View}
use Rattle.words_rule.specs.Views.{sizes_for, blank, orders_of, told_orders, with_gone}
use Rattle.words_rule.specs.Layout.{Shape, Words, content_of, words_of}
use Rattle.words_rule.specs.Hands.{Tables, Linked}
use Rattle.node_store.specs.Contents.{view_of}
use Rattle.words_rule.specs.Remembered.{Remembered}
use Rattle.words_rule.proofs.Remembering.{remembered_still}
use Rattle.words_rule.specs.Journal.{Journal}
use Rattle.words_rule.specs.Phase.{Phase, footing_of, weight, share, bit, hold, full_bit, full_hold, op_share, op_weight, order_bit, order_hold, walk_share, walk_weight}
use Rattle.words_rule.specs.Tallies.{Counted, Tally, held_count, one_if, parts, refs, size, tally_of, times}
use Rattle.words_rule.specs.Kept.{Board, Kept, KeepsTally}
use Rattle.words_rule.specs.Ordered.{KnowsOrders}
use Rattle.words_rule.specs.Generations.{IsOfSlot}
use Rattle.words_rule.specs.Holders.{IsHolder}
use Rattle.words_rule.specs.Rule.{Parts, Rule, Tied, FullHolder, HalfHolder, bare, draws_in, footings_in, tallies_in, hands_in}
use Rattle.words_rule.specs.Endings.{IsSettled}
use Rattle.words_rule.proofs.Lists.{each_set, set_at}
use Rattle.words_rule.proofs.Handling.{never, hands_it}
use Rattle.words_rule.proofs.Linking.{hand_links}
use Rattle.words_rule.proofs.OneSessions.{one_joined}
use Rattle.words_rule.proofs.Sessions.{parts_join}
use Rattle.words_rule.proofs.Sifting.{steps_quiet}
use Rattle.words_rule.proofs.Seeing.{seen_other}
use Rattle.words_rule.proofs.Phases.{moves}
use Rattle.words_rule.proofs.Tallying.{total-set}
use Rattle.free_list.specs.FreeSlots.{FreeSlots}

-- the same view, told otherwise
frame : {A : Type 0} (f : View → A) (vs : List View) (id : ℕ) (v w : View) → get_elem? vs id ≡ some v → f w ≡ f v → map f (set vs id w) ≡ map f vs
frame f vs id v w at same = map-set f vs id w ∙ ap (λ a. set (map f vs) id a) same ∙ set_again (map f vs) id (f v) (at_map f vs id v at)

nothing_held : operation.Nothing ≡ operation.Held → ⊥
nothing_held e = cc

free_not : Free ≡ Holding → ⊥
free_not e = cc

module _ {S : Type 0} (board : S → List (std.Option Cell)) (free_slots : S → FreeSlots) (memo : S → List ℕ) where
  module _ (z : Shape) (ws : Words) (home : ℕ → Option (Option (std.Option S))) (vs : List View) (r : Parts board free_slots memo z ws home vs) (id : ℕ) (v : View) (at : get_elem? vs id ≡ some v) (live : v.draws.live ≡ true) (settled : IsSettled v) where
    abbrev b : View
    b = bare v.draws

    no_times : (l : List ℕ) → ((k : ℕ) → 0 < times k l → ⊥) → l ≡ []
    no_times [] none_there = refl
    no_times (x ∷ xs) none_there = absurd (none_there x (let e : times x (x ∷ xs) ≡ 1 + times x xs = ap (λ t. one_if t + times x xs) (eq-eqb x x refl) in omega (arith, e)))

    tied : Tied v
    tied = r.tied id v at

    no_order : v.shares.order ≡ Holding → ⊥
    no_order is = free_not (sym settled.order ∙ is)

    unpinned : v.counts.pins ≡ []
    unpinned = no_times v.counts.pins (λ k some_pin. no_order (tied.pins k some_pin))

    -- it names slots by its rows alone
    same_refs : (k : ℕ) → refs k (tally_of (bare v.draws)) ≡ refs k (tally_of v)
    same_refs k =
        let a = ap (held_count k) settled.raised in
        let c = ap (held_count k) settled.owed in
        let d = ap (times k) unpinned in omega (arith, a, c, d)

    same_size : size (tally_of (bare v.draws)) ≡ size (tally_of v)
    same_size =
        let a = ap (λ (l : List Held). length l) settled.raised in
        let c = ap (λ (l : List Held). length l) settled.owed in omega (arith, a, c)

    counted_bare : Counted ws.count r.cells (set (tallies_in vs) id (tally_of (bare v.draws)))
    counted_bare =
        let c = r.counts in
        let ts = tallies_in vs in
        let t = tally_of v in
        let u = tally_of (bare v.draws) in
        let here : get_elem? ts id ≡ some t = at_map tally_of vs id v at in record {
          counted = λ k. let now = c.counted k in let s = total-set (refs k) ts id t u here in let e = same_refs k in omega (arith, now, s, e);
          most = let p = total-set parts ts id t u here in let m = c.most in omega (arith, p, m);
          few_cells = c.few_cells;
          small = each_set (λ i (x : Tally). (size x ≤ x.sessions * 2 ^ 25) × (x.sessions ≤ x.parts)) ts id u (λ i x _ there. c.small i x there) (let s = c.small id t here in let e = same_size in (omega (arith, s.0, e), s.1));
          pinned = each_set (λ i (x : Tally). (k : ℕ) → times k x.counts.pins ≤ x.sessions) ts id u (λ i x _ there. c.pinned i x there) (λ k. omega arith);
          still = each_set (λ i (x : Tally). (k : ℕ) → 0 < times k x.counts.zeros → count_of (ws.count k) ≡ refs k x) ts id u (λ i x _ there. c.still i x there) (λ k some_zero. absurd (omega (arith, some_zero)));
        }

    phase_bare : Phase ws.phase (set (footings_in vs) id (footing_of (bare v.draws)))
    phase_bare =
        let p = r.phase in
        let xs = footings_in vs in
        let x = footing_of v in
        let y = footing_of (bare v.draws) in
        let here : get_elem? xs id ≡ some x = at_map footing_of vs id v at in
        let ow : op_weight x ≡ 0 = ap weight settled.op in let os : op_share x ≡ 0 = ap share settled.op in
        let ww : walk_weight x ≡ 0 = ap weight settled.walk in let wsh : walk_share x ≡ 0 = ap share settled.walk in
        let ob : order_bit x ≡ 0 = ap bit settled.order in let oh : order_hold x ≡ 0 = ap hold settled.order in
        let fb : full_bit x ≡ 0 = ap bit settled.full in let fh : full_hold x ≡ 0 = ap hold settled.full in
        let one = p.one in
        let apart = p.apart in
        let apart_full = p.apart_full in
        moves ws.phase xs p id x y ws.phase here refl (omega arith, omega arith) (omega (arith, ow, ww, ob, fb)) (omega (arith, one)) (omega arith)
        (λ H T eH eT l. let k = apart (omega (arith, eH, l)) in omega (arith, k, eT, os))
        (λ F W eF eW l. let k = apart_full (omega (arith, eF, l)) in omega (arith, k, eW, wsh))

    -- a holder is another
    other_half : HalfHolder r.half vs → HalfHolder r.half (set vs id (bare v.draws))
    other_half y = let h = y.0 in dite (ℕ_discrete h.0 id)
        (λ same. absurd (free_not (sym settled.full ∙ (ap (λ (y : View). y.shares.full) (some-injective v h.1 (sym at ∙ (ap (λ j. get_elem? vs j) (sym same) ∙ h.2))) ∙ h.3))))
        (λ apart. ((h.0, h.1, set_else vs id h.0 (bare v.draws) apart ∙ h.2, h.3), y.1))

    other_pending : (h : FullHolder vs) → h.1.known.pending ≡ r.pending → (g : FullHolder (set vs id (bare v.draws))) × (g.1.known.pending ≡ r.pending)
    other_pending h is = dite (ℕ_discrete h.0 id)
        (λ same. absurd (free_not (sym settled.full ∙ (ap (λ (y : View). y.shares.full) (some-injective v h.1 (sym at ∙ (ap (λ j. get_elem? vs j) (sym same) ∙ h.2))) ∙ h.3))))
        (λ apart. ((h.0, h.1, set_else vs id h.0 (bare v.draws) apart ∙ h.2, h.3), is))

    pub parts_bare : Parts board free_slots memo z ws home (set vs id (bare v.draws))
    parts_bare =
        let w : View = bare v.draws in
        let start : Sizes = sizes_for z.variables z.elements in
        let drawn : draws_in (set vs id w) ≡ draws_in vs = frame (λ (u : View). u.draws) vs id v w at refl in
        let hand_at : get_elem? (hands_in vs) id ≡ some v.hand = at_map (λ (u : View). u.hand) vs id v at in record {
          log = r.log;
          table = r.table;
          cells = r.cells;
          function = r.function;
          half = r.half;
          orders = r.orders;
          pending = r.pending;
          on = r.on;
          chain = r.chain;
          journal = subst (λ (ds : List Draws). Journal ws.journal ws.board_turn ds start r.log r.table) (sym drawn) r.journal;
          phase = subst (Phase ws.phase) (sym (map-set footing_of vs id w)) phase_bare;
          counts = subst (Counted ws.count r.cells) (sym (map-set tally_of vs id w)) counted_bare;
          kept = subst (Kept z r.function r.cells) (sym (map-set tally_of vs id w)) (record {
            each = each_set (λ i (t : Tally). KeepsTally z r.function t) (tallies_in vs) id (tally_of w) (λ i t apart there. r.kept.each i t there) (record { rows = (r.kept.each id (tally_of v) (at_map tally_of vs id v at)).rows; raised = tt; owed = tt });
            fixed = r.kept.fixed;
            cells_kept = r.kept.cells_kept;
          });
          on_board = subst (λ (ds : List Draws). Board board ws.board_turn (home 0) ds r.table r.cells) (sym drawn) r.on_board;
          positions = r.positions;
          ordered = record {
            settled = λ nobody. r.ordered.settled (λ i u there holding. dite (ℕ_discrete i id)
                (λ same. no_order (ap (λ (y : View). y.shares.order) (some-injective v u (sym at ∙ (ap (λ j. get_elem? vs j) (sym same) ∙ there))) ∙ holding))
                (λ apart. nobody i u (set_else vs id i w apart ∙ there) holding));
            shared = each_set (λ _ (u : View). KnowsOrders r.orders u) vs id w (λ i u apart there. r.ordered.shared i u there) (λ has. absurd (nothing_held has));
            held = each_set (λ i (u : View). u.shares.order ≡ Holding → (orders_of u.known ≡ r.orders) × (told_orders u.known ≡ orders_from (opening_orders start) r.log)) vs id w (λ i u apart there. r.ordered.held i u there) (λ holding. absurd (free_not holding));
          };
          sound = r.sound;
          remembered = subst (Remembered memo (view_of (content_of z ws.node r.orders r.function r.half)) ws.memo_turn (home 2)) (sym (map-set (λ (u : View). u.hand) vs id w))
              (remembered_still memo (view_of (content_of z ws.node r.orders r.function r.half)) (view_of (content_of z ws.node r.orders r.function r.half)) ws.memo_turn (home 2) (home 2) (hands_in vs) id v.hand w.hand hand_at
              (inl (record { vars = refl; elements = refl; level = refl; content = λ s f these is. is })) refl (sym settled.memo) r.remembered);
          tables = subst (Tables free_slots z (content_of z ws.node r.orders r.function r.half) r.on ws.free_turn ws.turn home) (sym (map-set (λ (u : View). u.hand) vs id w))
              (hands_it free_slots z (content_of z ws.node r.orders r.function r.half) r.on ws.free_turn ws.turn home (hands_in vs) r.tables id v.hand hand_at w.hand (sym settled.levels) (sym settled.free) (sym settled.idle.0) (sym settled.idle.1) (λ n its. absurd (never n its)));
          linked = subst (Linked z ws.node ws.next ws.head r.on r.chain) (sym (map-set (λ (u : View). u.hand) vs id w))
              (hand_links z ws.node ws.next ws.head r.on r.chain (hands_in vs) r.linked id w.hand (λ k its. absurd (never k its)) (λ n its. absurd (never n its)) (λ n its. absurd (never n its)));
          sifts = steps_quiet start r.log vs r.sifts id v w at refl refl (λ k held there. absurd (some-ne-none held (sym there ∙ ap (λ (l : List Held). get_elem? l k) settled.raised))) (λ _. tt) (λ _. tt);
          tied = each_set (λ i (f : View). Tied f) vs id w (λ i f apart there. r.tied i f there)
              (record { zeros = λ k zeros. absurd (omega (arith, zeros)); pins = λ k pins. absurd (omega (arith, pins)); taken = λ busy. absurd (busy (refl, refl, refl)); alone = λ n walk whole. absurd (never n walk); dead = λ gone. absurd (true≢false (sym live ∙ gone)) });
          sized = each_set (λ i (f : View). (f.draws.live ≡ true) ⊎ (f.draws.closing ≡ true) → f.draws.slots ≡ z.slots) vs id w (λ i f apart there. r.sized i f there) (r.sized id v at);
          holders = each_set (λ _ (u : View). IsHolder ws.count r.half r.pending u) vs id w (λ i u apart there. r.holders i u there) ((λ holding. absurd (free_not holding)), (λ full. absurd (free_not full)));
          generations = each_set (λ _ (u : View). Each (IsOfSlot ws.count u) u.counts.generations) vs id w (λ i u apart there. r.generations i u there) tt;
          seen = seen_other z ws.node r.function vs r.seen id w (record { words = λ _. tt; held = λ _. tt });
          half_by = ⊎_elim (λ none_half. inl none_half) (λ y. inr (other_half y)) r.half_by;
          pending_by = ⊎_elim (λ none_due. inl none_due) (λ (y : (h : FullHolder vs) × (h.1.known.pending ≡ r.pending)). inr (other_pending y.0 y.1)) r.pending_by;
        }

  -- as the table asks for it
  pub joins_settled : (id : ℕ) (v : View) (other : ℕ) (w : View) → v ≡ bare v.draws → v.draws.closing ≡ true → w.draws.live ≡ true → IsSettled w → Joins (Rule board free_slots memo) id v other w (bare (with_gone v.draws w.draws)) (bare blank)
  joins_settled id v other w is_v closing live settled s r at apart there =
      let a = bare (with_gone v.draws w.draws) in
      let ds : List View = set s.views other (bare w.draws) in
      let at_other : get_elem? s.views other ≡ some w = sym (set_else s.views id other a apart) ∙ there in
      let p = parts_bare r.shape (words_of r.shape s.words) (λ (k : ℕ). get_elem? s.homes k) s.views r.parts other w at_other live settled in
      let at_id : get_elem? ds id ≡ some (bare v.draws) = set_else s.views other id (bare w.draws) (λ e. apart (sym e)) ∙ at ∙ ap some is_v in
      let there_now : get_elem? (set ds id a) other ≡ some (bare w.draws) = set_else ds id other a apart ∙ set_at s.views other w (bare w.draws) at_other in
      record {
        shape = r.shape;
        wide = r.wide;
        long = r.long;
        parts = subst (λ (l : List View). Parts board free_slots memo r.shape (words_of r.shape s.words) (λ (k : ℕ). get_elem? s.homes k) l) (twice s.views other id (bare w.draws) a (bare blank) (λ e. apart (sym e)))
            (parts_join board free_slots memo r.shape (words_of r.shape s.words) (λ (k : ℕ). get_elem? s.homes k) ds p id other v.draws w.draws at_id apart there_now closing live settled.board);
        one = one_joined board free_slots memo r.shape (words_of r.shape s.words).order (words_of r.shape s.words).node (words_of r.shape s.words).count s.views r.one id other v.draws w.draws (at ∙ ap some is_v);
      }
    where
      -- what is written twice is as it was written last
      over : {A : Type 0} (l : List A) (i : ℕ) (x y : A) → set (set l i x) i y ≡ set l i y
      over [] i x y = refl
      over (z ∷ zs) zero x y = refl
      over (z ∷ zs) (suc i) x y = ap (λ t. z ∷ t) (over zs i x y)

      swapped : {A : Type 0} (l : List A) (i j : ℕ) (x y : A) → j ≢ i → set (set l i x) j y ≡ set (set l j y) i x
      swapped [] i j x y apart = refl
      swapped (z ∷ zs) zero zero x y apart = absurd (apart refl)
      swapped (z ∷ zs) zero (suc j) x y apart = refl
      swapped (z ∷ zs) (suc i) zero x y apart = refl
      swapped (z ∷ zs) (suc i) (suc j) x y apart = ap (λ t. z ∷ t) (swapped zs i j x y (λ e. apart (ap suc e)))

      twice : {A : Type 0} (l : List A) (i j : ℕ) (x y w : A) → j ≢ i → set (set (set l i x) j y) i w ≡ set (set l j y) i w
      twice l i j x y w apart = ap (λ t. set t i w) (swapped l i j x y apart) ∙ over (set l j y) i x w
