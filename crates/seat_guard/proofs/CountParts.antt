-- Each step on a count word keeps the parts of the rule.
use Rattle.std.proofs.Common.{◌≡◌, ◌≢◌, ◌⊎◌, ℕ, zero, suc, ◌+◌, ◌<◌, ◌==◌, true, false, cond, List, [], ◌∷◌, length, set, refl, ap, sym, subst, ◌∙◌, ⊎_elim, arith, true≢false, eq-eqb, ne_eqb}
use Rattle.std.specs.Prelude as std
use Rattle.std.specs.Prelude.{All}
use mathlib.Core.Logic.{dite}
use mathlib.Core.Option.{Option, some, some-injective, some-ne-none}
use native.Mathlib.Decide.{ℕ_discrete}
use lib.ListN.{get_elem?}
use Rattle.edge_bits.specs.declared.limits.TheConstants.{MOST_ROWS}
use Rattle.atomic_table.proofs.Lists.{at_map}
use Rattle.handle_count.specs.CountWords.{count_of, generation_of}
use Rattle.function_laws.specs.declared.history.Entry.{Entry}
use Rattle.function_laws.specs.SessionEntries.{Each, entries_of}
use Rattle.function_laws.specs.Sizes.{Orders}
use Rattle.function_laws.specs.EntryOrders.{opening_orders, orders_from}
use Rattle.function_laws.specs.Tables.{Sizes, opening}
use Rattle.function_laws.specs.Widening.{at_sizes}
use Rattle.function_laws.proofs.SessionEntryLemmas.{places_low}
use Rattle.seat_guard.specs.declared.view.Held.{Held as HeldEdge}
use Rattle.seat_guard.specs.declared.view.Row.{Row}
use Rattle.seat_guard.specs.declared.view.Hold.TheVariants.{Holding}
use Rattle.seat_guard.specs.declared.view.SlotGeneration.{SlotGeneration}
use Rattle.seat_guard.specs.declared.view.Counts.{Counts}
use Rattle.seat_guard.specs.declared.view.Shares.{Shares}
use Rattle.seat_guard.specs.declared.view.Draws.{Draws}
use Rattle.seat_guard.specs.declared.view.View.{View}
use Rattle.seat_guard.specs.Allots.{sessions_of}
use Rattle.seat_guard.specs.CountPlays.{MayRaise, found_above, found_zero}
use Rattle.seat_guard.specs.Generations.{IsOfSlot, names}
use Rattle.seat_guard.specs.Journal.{Journal}
use Rattle.seat_guard.specs.Known.{known_at, sizes_for}
use Rattle.seat_guard.specs.Layout.{Words}
use Rattle.seat_guard.specs.Phase.{Phase, footing_of, on}
use Rattle.seat_guard.specs.Rule.{Tied, draws_in, footings_in, tallies_in}
use Rattle.seat_guard.specs.Sifted.{IsAtPlace, IsPlaced, OwesLast, Sifts}
use Rattle.seat_guard.specs.Turn.{Turn}
use Rattle.seat_guard.specs.Tallies.{Counted, EachHeld, Tally, cells_count, found_at, held_count, lowered_by, one_if, pinned_by, raised_by, retell, row_count, size, tally_of, times, unpinned_by}
use Rattle.seat_guard.proofs.HeldLists.{paid_each}
use Rattle.seat_guard.proofs.Journals.{mine}
use Rattle.seat_guard.proofs.Lists.{each_at, each_map, map_at}
use Rattle.seat_guard.proofs.Noting.{IsHad}
use Rattle.seat_guard.proofs.PartSteps.{PartsOf, changed, here, holder, same_draws, same_phase, tally, turn_is}
use Rattle.seat_guard.proofs.Phases.{excludes, one_order, order_by_full}
use Rattle.seat_guard.proofs.Sifting.{stays_placed, steps_quiet}
use Rattle.seat_guard.proofs.Tallying.{by_cell, by_row, notes_zero, pays, pins_it, raises, recounts, unpins_it}
use Rattle.seat_guard.proofs.Turns.{turn_tally}

-- what is noted of the generations, with one told anew
retells : (P Q : SlotGeneration → Type 0) (k n : ℕ) → Q (record { slot = k; generation = n }) → ((x : SlotGeneration) → x.slot ≢ k → P x → Q x)
    → (xs : List SlotGeneration) → Each P xs → Each Q (retell k n xs)
retells P Q k n told others [] all = (told, tt)
retells P Q k n told others (x ∷ xs) all = let rest = retells P Q k n told others xs all.1 in dite (ℕ_discrete x.slot k)
    (λ is. subst (λ b. Each Q (cond b (retell k n xs) (x ∷ retell k n xs))) (sym (eq-eqb x.slot k is)) rest)
    (λ apart. subst (λ b. Each Q (cond b (retell k n xs) (x ∷ retell k n xs))) (sym (ne_eqb x.slot k apart)) (others x apart all.0, rest))

row_named : (k : ℕ) (row : Row) (rows : List Row) → get_elem? rows k ≡ some row → 0 < row_count row.held.edge.index rows
row_named k row [] lies = absurd (some-ne-none row (sym lies))
row_named zero row (x ∷ rows) lies = let e : one_if (x.held.edge.index == row.held.edge.index) ≡ 1 = ap one_if (eq-eqb x.held.edge.index row.held.edge.index (ap (λ (y : Row). y.held.edge.index) (some-injective x row lies))) in omega (arith, e)
row_named (suc k) row (x ∷ rows) lies = let r = row_named k row rows lies in omega (arith, r)

module _ {S : Type 0} (keeps_it : S → HeldEdge → Type 0) (board : S → List (std.Option HeldEdge)) (counts : S → ℕ × ℕ × ℕ) (orders : S → Orders) where
  module _ (slots : ℕ) (ws : Words) (home : Option (Option (std.Option S))) (vs : List View) (r : PartsOf keeps_it board counts orders slots ws home vs) (id : ℕ) (v : View) (at : get_elem? vs id ≡ some v) where
    abbrev with_counts : Counts → View
    with_counts c = record v { counts = c }

    abbrev ts : List Tally
    ts = tallies_in vs

    abbrev ds : List Draws
    ds = draws_in vs

    abbrev PartsWith : (ℕ → ℕ) → Counts → Type 0
    PartsWith count c = PartsOf keeps_it board counts orders slots (record ws { count = count }) home (set vs id (with_counts c))

    here_is : get_elem? ds id ≡ some v.draws
    here_is = here keeps_it board counts orders slots ws home vs r id v at

    tally_is : get_elem? ts id ≡ some (tally_of v)
    tally_is = tally keeps_it board counts orders slots ws home vs r id v at

    -- the seat's counts change, and the count words
    recounted : (c : Counts) (count : ℕ → ℕ) → Counted count r.cells (set ts id (tally_of (with_counts c)))
        → ((P : HeldEdge → Type 0) → v.draws.holds ≡ false → EachHeld P (tally_of v) → EachHeld P (tally_of (with_counts c)))
        → Tied (with_counts c) → Sifts r.start r.log (set vs id (with_counts c))
        → ((k : ℕ) → generation_of (count k) ≡ generation_of (ws.count k)) → Each (IsOfSlot count (with_counts c)) c.generations
        → PartsWith count c
    recounted c count counted holds_same tied sifts still right_now =
        let drawn : set ds id v.draws ≡ ds = same_draws keeps_it board counts orders slots ws home vs r id v at in
        changed keeps_it board counts orders slots ws home vs r id v at (record ws { count = count }) home r.log r.table r.cells (with_counts c)
        (same_phase keeps_it board counts orders slots ws home vs r id v at) refl (r.sized id v.draws here_is)
        (subst (λ (l : List Draws). Journal ws.journal ws.turn l r.start r.log r.table) (sym drawn) r.journal)
        (subst (λ (l : List Draws). Turn keeps_it board counts orders slots ws.turn home l (set ts id (tally_of (with_counts c))) r.cells r.table (orders_from (opening_orders r.start) r.log)) (sym drawn)
        (turn_tally keeps_it board counts orders slots ws.turn id home ds ts r.cells r.table (orders_from (opening_orders r.start) r.log) v (tally_of (with_counts c)) r.turn here_is tally_is
        (turn_is keeps_it board counts orders slots ws home vs r id v at) (holder keeps_it board counts orders slots ws home vs r id v at) holds_same))
        counted sifts tied still right_now (r.row_generations id v at)

    -- what was noted of sifts stays, where what was raised stays raised and no more is owed
    quiet_sifts : (c : Counts) → ((k : ℕ) (x : HeldEdge) → get_elem? v.counts.raised k ≡ some x → (m : ℕ) × (get_elem? c.raised m ≡ some x)) → c.above ≡ v.counts.above
        → ((Q : HeldEdge → Type 0) → Each Q v.counts.owed → Each Q c.owed) → Sifts r.start r.log (set vs id (with_counts c))
    quiet_sifts c raised above owed =
        steps_quiet r.start r.log vs r.sifts id v (with_counts c) at refl refl raised
        (λ l. subst (λ fs. Each (IsPlaced (IsAtPlace r.start r.log (set vs id (with_counts c))) (entries_of v.draws.session r.log) (length r.log)) fs) (sym above)
        (each_map (IsPlaced (IsAtPlace r.start r.log vs) (entries_of v.draws.session r.log) (length r.log)) (IsPlaced (IsAtPlace r.start r.log (set vs id (with_counts c))) (entries_of v.draws.session r.log) (length r.log))
        (stays_placed r.start r.log vs r.sifts id v (with_counts c) at refl refl raised (entries_of v.draws.session r.log) (length r.log)) v.counts.above (r.sifts.noted id v at l)))
        (λ l. owed (OwesLast r.start r.log v.draws.session) (r.sifts.owes id v at l))

    -- what was noted of generations stays right
    still_right : (count : ℕ → ℕ) (c : Counts) → ((k : ℕ) → generation_of (count k) ≡ generation_of (ws.count k)) → ((k : ℕ) → 0 < names k (with_counts c) → 0 < names k v) → Each (IsOfSlot count (with_counts c)) v.counts.generations
    still_right count c still fewer = each_map (IsOfSlot ws.count v) (IsOfSlot count (with_counts c)) (λ g right named. still g.slot ∙ right (fewer g.slot named)) v.counts.generations (r.generations id v at)

    -- and with the generation of a slot as it is now
    right_told : (count : ℕ → ℕ) (c : Counts) (k : ℕ) → ((j : ℕ) → generation_of (count j) ≡ generation_of (ws.count j)) → ((j : ℕ) → j ≢ k → 0 < names j (with_counts c) → 0 < names j v) → Each (IsOfSlot count (with_counts c)) (retell k (generation_of (count k)) v.counts.generations)
    right_told count c k still fewer = retells (IsOfSlot ws.count v) (IsOfSlot count (with_counts c)) k (generation_of (count k)) (λ named. refl)
        (λ g apart right named. still g.slot ∙ right (fewer g.slot apart named)) v.counts.generations (r.generations id v at)

    one_session : v.draws.live ≡ true → sessions_of v.draws ≡ 1
    one_session live = ap (λ b. cond b 1 (cond v.draws.closing (length v.draws.gone) 0)) live

    -- the order is this seat's, so no other noted a count at 0
    alone_in_order : v.shares.order ≡ Holding → (k i : ℕ) (u : Tally) → i ≢ id → get_elem? ts i ≡ some u → 0 < times k u.counts.zeros → ⊥
    alone_in_order holding k i u apart there zeros =
        let m = map_at tally_of vs i u there in
        one_order ws.phase (footings_in vs) r.phase id i (footing_of v) (footing_of m.0) apart (at_map footing_of vs id v at) (at_map footing_of vs i m.0 m.1) holding
        ((r.tied i m.0 m.1).zeros k (subst (λ (y : Tally). 0 < times k y.counts.zeros) (sym m.2) zeros))

    nobody : (held : HeldEdge) → MayRaise v held → (i : ℕ) (u : Tally) → i ≢ id → get_elem? ts i ≡ some u → 0 < times held.edge.index u.counts.zeros → ⊥
    nobody held may i u apart there zeros = ⊎_elim
        (λ row. by_row ws.count r.cells ts r.counted id (tally_of v) held.edge.index tally_is (let n = row_named row.0 row.1 v.draws.rows row.2 in let e : row.1.held.edge.index ≡ held.edge.index = ap (λ (h : HeldEdge). h.edge.index) row.3 in
        subst (λ (k : ℕ). 0 < row_count k v.draws.rows + held_count k v.counts.raised + held_count k v.counts.owed + times k v.counts.pins) e (omega (arith, n))) i u apart there zeros)
        (λ y. ⊎_elim
        (λ cell. by_cell ws.count r.cells ts r.counted held.edge.index (subst (λ (l : List (std.Option HeldEdge)). 0 < cells_count held.edge.index l) (r.turn.held id v.draws here_is y.0) cell) i u there zeros)
        (λ z. ⊎_elim
        (λ share. let m = map_at tally_of vs i u there in
        excludes ws.phase (footings_in vs) r.phase id i (footing_of v) (footing_of m.0) (at_map footing_of vs id v at) (at_map footing_of vs i m.0 m.1) share
        ((r.tied i m.0 m.1).zeros held.edge.index (subst (λ (y : Tally). 0 < times held.edge.index y.counts.zeros) (sym m.2) zeros)))
        (λ full. alone_in_order (order_by_full ws.phase (footings_in vs) r.phase id (footing_of v) (at_map footing_of vs id v at) full) held.edge.index i u apart there zeros)
        z) y.1) may

    may_hold : (held : HeldEdge) → MayRaise v held → (P : HeldEdge → Type 0) → v.draws.holds ≡ false → EachHeld P (tally_of v) → P held
    may_hold held may P without e = ⊎_elim
        (λ row. subst P row.3 (each_at (λ (row : Row). P row.held) v.draws.rows row.0 row.1 e.rows row.2))
        (λ y. absurd (true≢false (sym y.0 ∙ without))) may

    -- a slot is counted up
    pub raised_part : (held : HeldEdge) (count : ℕ → ℕ) → v.draws.live ≡ true → MayRaise v held → size (tally_of v) < MOST_ROWS
        → count_of (count held.edge.index) ≡ suc (count_of (ws.count held.edge.index)) → ((j : ℕ) → j ≢ held.edge.index → count j ≡ ws.count j) → ((j : ℕ) → generation_of (count j) ≡ generation_of (ws.count j))
        → PartsWith count (raised_by held (generation_of (count held.edge.index)) v.counts)
    raised_part held count live may room up others still =
        let c : Counts = raised_by held (generation_of (count held.edge.index)) v.counts in
        let t = r.tied id v at in
        let one = one_session live in
        recounted c count
        (raises ws.count r.cells ts r.counted id (tally_of v) held (generation_of (count held.edge.index)) count tally_is (omega (arith, room, one)) up others (nobody held may))
        (λ P without e. record { rows = e.rows; raised = (may_hold held may P without e, e.raised); owed = e.owed })
        (record { unshared = t.unshared; unraised = λ dead. absurd (true≢false (sym live ∙ dead)); zeros = t.zeros; pins = t.pins })
        (quiet_sifts c (λ k x e. (suc k, e)) refl (λ Q e. e))
        still
        (right_told count c held.edge.index still (λ j apart named. let e : one_if (held.edge.index == j) ≡ 0 = ap one_if (ne_eqb held.edge.index j (λ is. apart (sym is))) in omega (arith, named, e)))

    -- what is owed is counted down
    pub lowered_part : (k : ℕ) (count : ℕ → ℕ) → v.draws.live ≡ true → 0 < held_count k v.counts.owed
        → suc (count_of (count k)) ≡ count_of (ws.count k) → ((j : ℕ) → j ≢ k → count j ≡ ws.count j) → ((j : ℕ) → generation_of (count j) ≡ generation_of (ws.count j))
        → PartsWith count (lowered_by k v.counts)
    lowered_part k count live owed down others still =
        let c : Counts = lowered_by k v.counts in
        let t = r.tied id v at in
        recounted c count
        (pays ws.count r.cells ts r.counted id (tally_of v) k count tally_is owed down others)
        (λ P without e. record { rows = e.rows; raised = e.raised; owed = paid_each P k v.counts.owed e.owed })
        (record { unshared = t.unshared; unraised = λ dead. absurd (true≢false (sym live ∙ dead)); zeros = t.zeros; pins = t.pins })
        (quiet_sifts c (λ k x e. (k, e)) refl (λ Q e. paid_each Q k v.counts.owed e))
        still (still_right count c still (λ j named. named))

    -- one pin more
    pub pinned_part : (k : ℕ) (count : ℕ → ℕ) → v.draws.live ≡ true → v.shares.order ≡ Holding → times k v.counts.pins ≡ 0
        → count_of (count k) ≡ suc (count_of (ws.count k)) → ((j : ℕ) → j ≢ k → count j ≡ ws.count j) → ((j : ℕ) → generation_of (count j) ≡ generation_of (ws.count j))
        → PartsWith count (pinned_by k v.counts)
    pinned_part k count live holding unpinned up others still =
        let c : Counts = pinned_by k v.counts in
        let t = r.tied id v at in
        let one = one_session live in
        recounted c count
        (pins_it ws.count r.cells ts r.counted id (tally_of v) k count tally_is unpinned (omega (arith, one)) up others (alone_in_order holding k))
        (λ P without e. record { rows = e.rows; raised = e.raised; owed = e.owed })
        (record { unshared = t.unshared; unraised = t.unraised; zeros = t.zeros; pins = λ j some_pin. holding })
        (quiet_sifts c (λ k x e. (k, e)) refl (λ Q e. e))
        still (still_right count c still (λ j named. named))

    -- one pin less
    pub unpinned_part : (k : ℕ) (count : ℕ → ℕ) → v.shares.order ≡ Holding → 0 < times k v.counts.pins
        → suc (count_of (count k)) ≡ count_of (ws.count k) → ((j : ℕ) → j ≢ k → count j ≡ ws.count j) → ((j : ℕ) → generation_of (count j) ≡ generation_of (ws.count j))
        → PartsWith count (unpinned_by k v.counts)
    unpinned_part k count holding pinned down others still =
        let c : Counts = unpinned_by k v.counts in
        let t = r.tied id v at in
        recounted c count
        (unpins_it ws.count r.cells ts r.counted id (tally_of v) k count tally_is pinned down others)
        (λ P without e. record { rows = e.rows; raised = e.raised; owed = e.owed })
        (record { unshared = t.unshared; unraised = t.unraised; zeros = t.zeros; pins = λ j some_pin. holding })
        (quiet_sifts c (λ k x e. (k, e)) refl (λ Q e. e))
        still (still_right count c still (λ j named. named))

    -- a count is found at 0
    pub zero_part : (k : ℕ) → v.shares.order ≡ Holding → count_of (ws.count k) ≡ 0 → PartsWith ws.count (found_zero k (generation_of (ws.count k)) v.counts)
    zero_part k holding found =
        let c : Counts = found_zero k (generation_of (ws.count k)) v.counts in
        let t = r.tied id v at in
        recounted c ws.count
        (notes_zero ws.count r.cells ts r.counted id (tally_of v) k (generation_of (ws.count k)) tally_is found)
        (λ P without e. record { rows = e.rows; raised = e.raised; owed = e.owed })
        (record { unshared = t.unshared; unraised = t.unraised; zeros = λ j some_zero. holding; pins = t.pins })
        (quiet_sifts c (λ k x e. (k, e)) refl (λ Q e. e))
        (λ j. refl) (right_told ws.count c k (λ j. refl) (λ j apart named. named))

    -- above 0, while it is pinned
    pub found_part : (k : ℕ) → PartsWith ws.count (found_at k (generation_of (ws.count k)) v.counts)
    found_part k =
        let c : Counts = found_at k (generation_of (ws.count k)) v.counts in
        let t = r.tied id v at in
        recounted c ws.count
        (recounts ws.count r.cells ts r.counted id (tally_of v) (tally_of (with_counts c)) tally_is (λ j. refl) refl refl (λ j zeros. zeros) (λ j. refl) (omega arith))
        (λ P without e. record { rows = e.rows; raised = e.raised; owed = e.owed })
        (record { unshared = t.unshared; unraised = t.unraised; zeros = t.zeros; pins = t.pins })
        (quiet_sifts c (λ k x e. (k, e)) refl (λ Q e. e))
        (λ j. refl) (right_told ws.count c k (λ j. refl) (λ j apart named. named))

    -- above 0: the function of an edge that has the slot is noted
    pub above_part : (k : ℕ) → v.draws.live ≡ true → (had : IsHad keeps_it board counts orders slots ws home vs r id v at k) → PartsWith ws.count (found_above k (generation_of (ws.count k)) v.draws had.0 v.counts)
    above_part k live had =
        let c : Counts = found_above k (generation_of (ws.count k)) v.draws had.0 v.counts in
        let w : View = with_counts c in
        let t = r.tied id v at in
        let own : List Entry = entries_of v.draws.session r.log in
        let m = mine ws.journal ws.turn ds r.start r.log r.table r.journal id v.draws here_is live in
        let sizes : r.start ≡ sizes_for v.draws.vars v.draws.elements = sym r.journal.fixed ∙ m.agrees.sizes_are in
        let same : (j : ℕ) (x : HeldEdge) → get_elem? v.counts.raised j ≡ some x → (m : ℕ) × (get_elem? c.raised m ≡ some x) = λ j x e. (j, e) in
        let placed : IsPlaced (IsAtPlace r.start r.log vs) own (length r.log) (known_at v.draws had.0.function) = record {
          place = length r.log;
          within = omega arith;
          later = subst (λ (n : ℕ). All (λ (e : Entry). e.place < n) own) (omega arith) (places_low r.log 0 (opening r.start) v.draws.session r.journal.legal);
          is = subst (λ (z : Sizes). IsAtPlace r.start r.log vs (length r.log) (at_sizes z had.0.function)) sizes had.3;
        } in
        recounted c ws.count
        (recounts ws.count r.cells ts r.counted id (tally_of v) (tally_of w) tally_is (λ j. refl) refl refl (λ j zeros. zeros) (λ j. refl) (omega arith))
        (λ P without e. record { rows = e.rows; raised = e.raised; owed = e.owed })
        (record { unshared = t.unshared; unraised = t.unraised; zeros = t.zeros; pins = t.pins })
        (steps_quiet r.start r.log vs r.sifts id v w at refl refl same
        (λ l. (
          stays_placed r.start r.log vs r.sifts id v w at refl refl same own (length r.log) (known_at v.draws had.0.function) placed,
          each_map (IsPlaced (IsAtPlace r.start r.log vs) own (length r.log)) (IsPlaced (IsAtPlace r.start r.log (set vs id w)) own (length r.log))
              (stays_placed r.start r.log vs r.sifts id v w at refl refl same own (length r.log)) v.counts.above (r.sifts.noted id v at l),
        ))
        (λ l. r.sifts.owes id v at l))
        (λ j. refl) (right_told ws.count c k (λ j. refl) (λ j apart named. named))

    -- The shares change with the phase word. What was noted of counts may go, and what is left of zeros and pins is an order holder's.
    pub reshared : (n : ℕ) (x : Shares) (c : Counts) → v.draws.live ≡ true → Phase n (set (footings_in vs) id (on (footing_of v) x)) → (c.raised ≡ v.counts.raised) × (c.owed ≡ v.counts.owed) × (c.pins ≡ v.counts.pins) × (c.generations ≡ v.counts.generations)
        → (c.zeros ≡ v.counts.zeros) ⊎ (c.zeros ≡ []) → (c.above ≡ v.counts.above) ⊎ (c.above ≡ [])
        → ((k : ℕ) → 0 < times k c.zeros → x.order ≡ Holding) → ((k : ℕ) → 0 < times k c.pins → x.order ≡ Holding)
        → PartsOf keeps_it board counts orders slots (record ws { phase = n }) home (set vs id (record v { shares = x; counts = c }))
    reshared n x c live phase same zeros above found pins =
        let w : View = record v { shares = x; counts = c } in
        let drawn : set ds id v.draws ≡ ds = same_draws keeps_it board counts orders slots ws home vs r id v at in
        let raised : (k : ℕ) (y : HeldEdge) → get_elem? v.counts.raised k ≡ some y → (m : ℕ) × (get_elem? c.raised m ≡ some y) = λ k y e. (k, ap (λ (l : List HeldEdge). get_elem? l k) same.0 ∙ e) in
        let fewer : (k : ℕ) → 0 < times k c.zeros → 0 < times k v.counts.zeros = λ k some_zero. ⊎_elim (λ e. subst (λ (l : List ℕ). 0 < times k l) e some_zero) (λ e. absurd (let z : times k c.zeros ≡ 0 = ap (times k) e in omega (arith, z, some_zero))) zeros in
        let tallies : (P : HeldEdge → Type 0) → EachHeld P (tally_of v) → EachHeld P (tally_of w) = λ P e. record { rows = e.rows; raised = subst (Each P) (sym same.0) e.raised; owed = subst (Each P) (sym same.1) e.owed } in
        changed keeps_it board counts orders slots ws home vs r id v at (record ws { phase = n }) home r.log r.table r.cells w phase refl (r.sized id v.draws here_is)
        (subst (λ (l : List Draws). Journal ws.journal ws.turn l r.start r.log r.table) (sym drawn) r.journal)
        (subst (λ (l : List Draws). Turn keeps_it board counts orders slots ws.turn home l (set ts id (tally_of w)) r.cells r.table (orders_from (opening_orders r.start) r.log)) (sym drawn)
        (turn_tally keeps_it board counts orders slots ws.turn id home ds ts r.cells r.table (orders_from (opening_orders r.start) r.log) v (tally_of w) r.turn here_is tally_is
        (turn_is keeps_it board counts orders slots ws home vs r id v at) (holder keeps_it board counts orders slots ws home vs r id v at) (λ P without e. tallies P e)))
        (recounts ws.count r.cells ts r.counted id (tally_of v) (tally_of w) tally_is
        (λ k. let a : held_count k c.raised ≡ held_count k v.counts.raised = ap (held_count k) same.0 in let b : held_count k c.owed ≡ held_count k v.counts.owed = ap (held_count k) same.1 in let p : times k c.pins ≡ times k v.counts.pins = ap (times k) same.2 in omega (arith, a, b, p))
        refl refl fewer (λ k. ap (times k) same.2)
        (let a : length c.raised ≡ length v.counts.raised = ap (λ (l : List HeldEdge). length l) same.0 in let b : length c.owed ≡ length v.counts.owed = ap (λ (l : List HeldEdge). length l) same.1 in omega (arith, a, b)))
        (steps_quiet r.start r.log vs r.sifts id v w at refl refl raised
        (λ l. ⊎_elim
        (λ e. subst (λ fs. Each (IsPlaced (IsAtPlace r.start r.log (set vs id w)) (entries_of v.draws.session r.log) (length r.log)) fs) (sym e)
        (each_map (IsPlaced (IsAtPlace r.start r.log vs) (entries_of v.draws.session r.log) (length r.log)) (IsPlaced (IsAtPlace r.start r.log (set vs id w)) (entries_of v.draws.session r.log) (length r.log))
        (stays_placed r.start r.log vs r.sifts id v w at refl refl raised (entries_of v.draws.session r.log) (length r.log)) v.counts.above (r.sifts.noted id v at l)))
        (λ e. subst (λ fs. Each (IsPlaced (IsAtPlace r.start r.log (set vs id w)) (entries_of v.draws.session r.log) (length r.log)) fs) (sym e) tt) above)
        (λ l. subst (Each (OwesLast r.start r.log v.draws.session)) (sym same.1) (r.sifts.owes id v at l)))
        (record { unshared = λ dead. absurd (true≢false (sym live ∙ dead)); unraised = λ dead. absurd (true≢false (sym live ∙ dead)); zeros = found; pins = pins })
        (λ k. refl)
        (subst (λ gs. Each (IsOfSlot ws.count w) gs) (sym same.3)
        (each_map (IsOfSlot ws.count v) (IsOfSlot ws.count w) (λ g right named. right (let a : held_count g.slot c.raised ≡ held_count g.slot v.counts.raised = ap (held_count g.slot) same.0 in omega (arith, named, a))) v.counts.generations (r.generations id v at)))
        (r.row_generations id v at)
