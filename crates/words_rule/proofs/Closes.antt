-- What the closing seat is told of the history, and of the store.
use Rattle.std.proofs.Common.{◌≡◌, inl, inr, ⊎_elim, ℕ, true, false, List, [], length, refl, ap, sym, subst, ◌∙◌, arith, true≢false}
use Rattle.std.specs.Prelude as std
use Rattle.std.specs.Prelude.{Some, None, take, drop, slice_index}
use Rattle.node_store.specs.Contents.{Content, IsSound, view_of}
use Rattle.std.proofs.lemmas.Bool.{cases_lt}
use mathlib.Core.Option.{Option, none, some, some-ne-none}
use lib.ListN.{get_elem?}
use lib.Seq.{set-get_or}
use Rattle.atomic_table.specs.Table.{Me, Allows, Final, Seen, keeps, step}
use Rattle.atomic_table.proofs.Lists.{at_map, set_again}
use Rattle.function_laws.specs.declared.history.Entry.{Entry}
use Rattle.function_laws.specs.Tables.{Table, Sizes, opening}
use Rattle.function_laws.specs.Histories.{IsLegal, table_after}
use Rattle.function_laws.specs.SessionEntries.{Each, entries_of}
use Rattle.words_rule.specs.declared.cell.Cell.{Cell}
use Rattle.words_rule.specs.declared.view.Draws.{Draws}
use Rattle.words_rule.specs.declared.view.View.{View}
use Rattle.words_rule.specs.Views.{sizes_for}
use Rattle.words_rule.specs.declared.view.Hand.{Hand}
use Rattle.words_rule.specs.declared.view.Hold.TheVariants.{Holding}
use Rattle.words_rule.specs.Layout.{Shape, Words, content_of, words_of}
use Rattle.words_rule.specs.Shapes.{shape_in}
use Rattle.words_rule.specs.Hands.{IsFreeList}
use Rattle.words_rule.specs.Phase.{bit, footing_of, full_bit, order_bit}
use Rattle.words_rule.specs.Tallies.{tally_of}
use Rattle.words_rule.specs.Remembered.{AreAnswers}
use Rattle.words_rule.specs.Notes.{IsNotedIn}
use Rattle.words_rule.specs.Sifted.{IsPlaced, IsRaised, carried_by}
use Rattle.words_rule.specs.Rule.{FullHolder, HalfHolder, Parts, Rule, draws_in, footings_in}
use Rattle.words_rule.specs.Endings.{AreBack, Ends, Remains, Whole, closed}
use Rattle.words_rule.proofs.Lists.{each_map, map_at, not_true}
use Rattle.words_rule.proofs.Handling.{never}
use Rattle.words_rule.proofs.Tallying.{total-has}
use Rattle.words_rule.proofs.Sifting.{quiet}
use Rattle.free_list.specs.FreeSlots.{FreeSlots}

module _ {S : Type 0} (board : S → List (std.Option Cell)) (free_slots : S → FreeSlots) (memo : S → List ℕ) where
  module _ (z : Shape) (ws : Words) (home : ℕ → Option (Option (std.Option S))) (vs : List View) (r : Parts board free_slots memo z ws home vs) (id : ℕ) (v : View) (at : get_elem? vs id ≡ some v) (is : v.draws.closing ≡ true) where
    here : get_elem? (draws_in vs) id ≡ some v.draws
    here = at_map (λ (u : View). u.draws) vs id v at

    -- once all have come back, no seat is live
    pub none_live : AreBack v.draws.given v.draws.gone → (j : ℕ) (u : View) → get_elem? vs j ≡ some u → u.draws.live ≡ false
    none_live back j u there =
        let k = ((r.journal.each id v.draws here).closing is).2 in
        let no_seat : (p : ℕ) → r.journal.seat p ≡ none = λ p. elim (cases_lt p v.draws.given) [
          | inl below ↦ (let b = back p below in ap r.journal.seat (sym b.3) ∙ (k.back b.0 b.1 b.2).1)
          | inr above ↦ (k.later p above).no_seat
        ] in
        not_true u.draws.live (λ l. some-ne-none j (sym ((r.journal.each j u.draws (at_map (λ (f : View). f.draws) vs j u there)).live l).seated ∙ no_seat u.draws.session))

    placed_so : AreBack v.draws.given v.draws.gone → (i : ℕ) (e : Entry) → get_elem? r.log i ≡ some e → Each (IsPlaced (sizes_for z.variables z.elements) r.log [] (entries_of e.session (take i r.log)) i) (carried_by e.call)
    placed_so back i e there =
        let start : Sizes = sizes_for z.variables z.elements in
        each_map (IsPlaced start r.log vs (entries_of e.session (take i r.log)) i) (IsPlaced start r.log [] (entries_of e.session (take i r.log)) i)
        (λ f p. record {
          place = p.place;
          within = p.within;
          later = p.later;
          is = quiet start r.log vs [] p.place f (λ (x : IsRaised (drop p.place r.log) vs f). absurd (true≢false (sym x.live ∙ none_live back x.id x.view x.at))) p.is;
        })
        (carried_by e.call) (r.sifts.carried i e there)

    pub whole_of : Whole ws.journal (sizes_for v.draws.vars v.draws.elements) v.draws.given v.draws.gone
    whole_of =
        let k = ((r.journal.each id v.draws here).closing is).2 in
        let start : Sizes = sizes_for z.variables z.elements in
        let now : Sizes = sizes_for v.draws.vars v.draws.elements in
        let same : start ≡ now = k.start_is in
        let table : table_after (opening now) r.log ≡ r.table = ap (λ (s : Sizes). table_after (opening s) r.log) (sym same) ∙ r.journal.leaves in record {
          log = r.log;
          legal = subst (λ (s : Sizes). IsLegal s r.log) same r.journal.legal;
          count = sym r.journal.drawn;
          fixed = ap (λ (t : Table). t.sizes) table ∙ r.journal.fixed ∙ same;
          placed = λ back i e there. subst (λ (s : Sizes). Each (IsPlaced s r.log [] (entries_of e.session (take i r.log)) i) (carried_by e.call)) same (placed_so back i e there);
          each = λ i g there. (k.back i g there).2;
          rows = λ i g there. ap (λ (t : Table). t.live g.session) table ∙ (k.back i g there).3;
          beyond = λ p le. (k.later p le).no_entry;
          noted = λ i g there. subst (λ (s : Sizes). Each (IsNotedIn s r.log) g.noted) same (k.back i g there).4;
        }

    -- and nobody has a slot taken
    none_taken : AreBack v.draws.given v.draws.gone → (s : ℕ) → r.tables.taker s ≡ none
    none_taken back s = by (r.tables.taker s) refl
      where
        by : (o : Option ℕ) → r.tables.taker s ≡ o → r.tables.taker s ≡ none
        by none is = is
        by (some j) is =
            let t = r.tables.taken_by s j is in
            let u = map_at (λ (f : View). f.hand) vs j t.0 t.2 in
            let idle = ((r.tied j u.0 u.1).dead (none_live back j u.0 u.1)).2 in
            absurd (never t.1 (sym idle.0 ∙ ap (λ (h : Hand). h.taken) u.2 ∙ t.3))

    -- with no bit set nobody has a hold
    no_order : ws.phase ≡ 0 → (i : ℕ) (u : View) → get_elem? vs i ≡ some u → u.shares.order ≡ Holding → ⊥
    no_order zero_it i u there holding =
        let fields = r.phase.fields in
        let has = total-has order_bit (footings_in vs) i (footing_of u) (at_map footing_of vs i u there) in
        let one : order_bit (footing_of u) ≡ 1 = ap bit holding in omega (arith, fields, has, one, zero_it)

    no_full : ws.phase ≡ 0 → FullHolder vs → ⊥
    no_full zero_it h =
        let fields = r.phase.fields in
        let has = total-has full_bit (footings_in vs) h.0 (footing_of h.1) (at_map footing_of vs h.0 h.1 h.2) in
        let one : full_bit (footing_of h.1) ≡ 1 = ap bit h.3 in omega (arith, fields, has, one, zero_it)

    shape_is : z ≡ shape_in v.draws
    shape_is =
        let k = ((r.journal.each id v.draws here).closing is).2 in
        let same : sizes_for z.variables z.elements ≡ sizes_for v.draws.vars v.draws.elements = k.start_is in
        let slots : z.slots ≡ v.draws.slots = sym (r.sized id v at (inr is)) in
        λ i. record { variables = (same i).variables; elements = (same i).elements; slots = slots i }

    remains : AreBack v.draws.given v.draws.gone → (words : List ℕ) (slots : List (std.Option S)) → words_of z words ≡ ws → slice_index words 1 ≡ ws.phase → slice_index words 2 ≡ ws.board_turn → slice_index words 3 ≡ ws.free_turn → slice_index words 5 ≡ ws.memo_turn
        → ((k : ℕ) (y : std.Option S) → home k ≡ some (some y) → get_elem? slots k ≡ some y) → Remains board free_slots memo z words slots v.draws.rows r.log
    remains back words slots same phase board_turn free_turn memo_turn kept =
        let store : content_of z (words_of z words).node r.orders r.function r.half ≡ content_of z ws.node r.orders r.function r.half = ap (λ (w : Words). content_of z w.node r.orders r.function r.half) same in record {
          cells = r.cells;
          function = r.function;
          half = r.half;
          orders = r.orders;
          free_list = r.tables.free_now;
          sound = subst IsSound (sym store) r.sound;
          rows_kept = (r.kept.each id (tally_of v) (at_map tally_of vs id v at)).rows;
          cells_kept = r.kept.cells_kept;
          cells_are = ap (λ (t : Table). t.cells) r.journal.leaves ∙ r.on_board.are;
          calm = λ clear. let zero_it = sym phase ∙ clear in (⊎_elim (λ none_half. none_half) (λ (y : HalfHolder r.half vs). absurd (no_full zero_it y.0)) r.half_by, r.ordered.settled (λ i u there holding. no_order zero_it i u there holding));
          board_home = λ clear. let x = r.on_board.home_is (sym board_turn ∙ clear) in (x.0, kept 0 (Some x.0) x.1, x.2);
          free_home = λ clear. let x = r.tables.free_home (sym free_turn ∙ clear) in (x.1, kept 1 (Some x.1) x.2, x.3);
          memo_home = λ clear. let x = r.remembered.at_home (sym memo_turn ∙ clear) in (x.1, kept 2 (Some x.1) x.2, subst (λ (w : Content). AreAnswers (view_of w) (memo x.1)) (sym store) x.3);
          free_is = subst (λ (w : Content). IsFreeList z w (λ _. none) r.tables.free_now) (sym store) (let f = r.tables.free_is in record {
            free = λ k s there. let t = f.free k s there in (t.0, t.1, refl);
            once = f.once;
            all = λ s lt free none_now. f.all s lt free (none_taken back s);
          });
        }

  pub looks_last : (slots id : ℕ) (me : Me (std.Option S) View) → Allows (Rule board free_slots memo) slots id me 0 (λ n. n) (closed (step slots 0 0 0 none) me)
  looks_last slots id me s r long at small = (
    me.0,
    keeps,
    tt,
    subst (λ (x : List ℕ × List View). Rule board free_slots memo (record { words = x.0; homes = s.homes; views = x.1 })) (λ k. (sym (set-get_or s.words 0 0) k, sym (set_again s.views id me.0 at) k)) r,
    (refl, λ is. whole_of r.shape (words_of r.shape s.words) (λ (k : ℕ). get_elem? s.homes k) s.views r.parts id me.0 at is),
  )

  -- it has three slots
  pub three_slots : (id : ℕ) (v : View) (words : List ℕ) (slots : List (std.Option S)) → Final (Seen (Rule board free_slots memo) id v) words slots → length slots ≡ 3
  three_slots id v words slots f = sym f.3 ∙ f.1.0.long

  -- the last state of a table, which the closing seat knows
  pub ends_of : (id : ℕ) (d : Draws) (v : View) (words : List ℕ) (slots : List (std.Option S)) → v.draws ≡ d → d.closing ≡ true → AreBack d.given d.gone → Final (Seen (Rule board free_slots memo) id v) words slots → Ends board free_slots memo words slots d
  unfolding whole_of
  ends_of id d v words slots same is back f =
      let s = f.0 in
      let r = f.1.0 in
      let at = f.1.1 in
      let z = r.shape in
      let ws = words_of r.shape s.words in
      let home : ℕ → Option (Option (std.Option S)) = λ (k : ℕ). get_elem? s.homes k in
      let closing : v.draws.closing ≡ true = ap (λ (e : Draws). e.closing) same ∙ is in
      let back_now : AreBack v.draws.given v.draws.gone = subst (λ (e : Draws). AreBack e.given e.gone) (sym same) back in
      let left = remains z ws home s.views r.parts id v at closing back_now s.words slots refl refl refl refl refl f.4 in
      let whole = whole_of z ws home s.views r.parts id v at closing in
      subst (λ (y : List ℕ × Draws). Ends board free_slots memo y.0 slots y.1) (λ i. (f.2 i, same i))
      (whole, subst (λ (y : Shape). Remains board free_slots memo y s.words slots v.draws.rows r.parts.log) (shape_is z ws home s.views r.parts id v at closing) left)
