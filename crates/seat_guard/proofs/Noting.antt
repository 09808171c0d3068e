-- An order holder finds a count above 0: the slot is then that of an edge which some seat or cell has.
use Rattle.std.proofs.Common.{◌≡◌, ℕ, suc, ◌<◌, ◌==◌, Bool, true, false, List, [], ◌∷◌, length, refl, ap, sym, subst, ◌∙◌, inl, inr, arith, eqb-true}
use Rattle.std.specs.Prelude as std
use Rattle.std.specs.Prelude.{Some, None, take, drop, slice_get, option_map}
use Rattle.std.proofs.lemmas.List.{take_all}
use mathlib.Core.Logic.{dite}
use mathlib.Core.Option.{Option, some, some-injective, some-ne-none}
use native.Mathlib.Decide.{ℕ_discrete, dec_lt}
use lib.ListN.{get_elem?}
use Rattle.atomic_table.proofs.Lists.{at_map}
use Rattle.handle_count.specs.CountWords.{count_of}
use Rattle.function_laws.specs.declared.history.Function.{Function}
use Rattle.function_laws.specs.declared.history.Entry.{Entry}
use Rattle.function_laws.specs.Histories.{table_after}
use Rattle.function_laws.specs.SessionEntries.{entries_of}
use Rattle.function_laws.specs.SiftEntries.{IsOfCell, IsOfRow}
use Rattle.function_laws.specs.Sizes.{Orders}
use Rattle.function_laws.specs.Tables.{Table, Sizes, opening}
use Rattle.function_laws.specs.Widening.{at_sizes}
use Rattle.seat_guard.specs.declared.view.Held.{Held}
use Rattle.seat_guard.specs.declared.view.Row.{Row}
use Rattle.seat_guard.specs.declared.view.Hold.TheVariants.{Holding}
use Rattle.seat_guard.specs.declared.view.View.{View}
use Rattle.seat_guard.specs.CountPlays.{Knows}
use Rattle.seat_guard.specs.Journal.{IsLeftRow}
use Rattle.seat_guard.specs.Known.{StandsIn}
use Rattle.seat_guard.specs.Layout.{Words}
use Rattle.seat_guard.specs.Phase.{footing_of}
use Rattle.seat_guard.specs.Rule.{footings_in, tallies_in}
use Rattle.seat_guard.specs.Sifted.{IsAtPlace, LastLoses, OwesLast}
use Rattle.seat_guard.specs.Tallies.{EachHeld, Tally, cells_count, held_count, one_if, refs, row_count, tally_of, times}
use Rattle.seat_guard.specs.Totals.{total}
use Rattle.seat_guard.specs.Turn.{Has}
use Rattle.seat_guard.specs.Views.{function_in}
use Rattle.seat_guard.proofs.Bools.{by_bool}
use Rattle.seat_guard.proofs.Lists.{each_at, map_at}
use Rattle.seat_guard.proofs.PartSteps.{PartsOf, here}
use Rattle.seat_guard.proofs.Phases.{one_order}
use Rattle.seat_guard.proofs.Sifting.{drop_all, itself}

-- where a sum is above 0, a term is
total_some : {A : Type 0} (f : A → ℕ) (xs : List A) → 0 < total f xs → (i : ℕ) × (x : A) × (get_elem? xs i ≡ some x) × (0 < f x)
total_some f [] lt = absurd (omega (arith, lt))
total_some f (x ∷ xs) lt = dite (dec_lt 0 (f x)) (λ here. (0, x, refl, here)) (λ no_here. let r = total_some f xs (omega (arith, lt, no_here)) in (suc r.0, r.1, r.2, r.3))

one_of_if : (a k : ℕ) → 0 < one_if (a == k) → a ≡ k
one_of_if a k lt = by (a == k) refl lt
  where
    by : (b : Bool) → (a == k) ≡ b → 0 < one_if b → a ≡ k
    by true e lt = eqb-true a k e
    by false e lt = absurd (omega (arith, lt))

row_some : (k : ℕ) (rows : List Row) → 0 < row_count k rows → (j : ℕ) × (row : Row) × (get_elem? rows j ≡ some row) × (row.held.edge.index ≡ k)
row_some k [] lt = absurd (omega (arith, lt))
row_some k (row ∷ rows) lt = dite (dec_lt 0 (one_if (row.held.edge.index == k))) (λ here. (0, row, refl, one_of_if row.held.edge.index k here)) (λ no_here. let r = row_some k rows (omega (arith, lt, no_here)) in (suc r.0, r.1, r.2, r.3))

held_some : (k : ℕ) (xs : List Held) → 0 < held_count k xs → (j : ℕ) × (x : Held) × (get_elem? xs j ≡ some x) × (x.edge.index ≡ k)
held_some k [] lt = absurd (omega (arith, lt))
held_some k (x ∷ xs) lt = dite (dec_lt 0 (one_if (x.edge.index == k))) (λ here. (0, x, refl, one_of_if x.edge.index k here)) (λ no_here. let r = held_some k xs (omega (arith, lt, no_here)) in (suc r.0, r.1, r.2, r.3))

cell_some : (k : ℕ) (cells : List (std.Option Held)) → 0 < cells_count k cells → (i : ℕ) × (x : Held) × (slice_get cells i ≡ Some (Some x)) × (x.edge.index ≡ k)
cell_some k [] lt = absurd (omega (arith, lt))
cell_some k (None ∷ cells) lt = let r = cell_some k cells (omega (arith, lt)) in (suc r.0, r.1, r.2, r.3)
cell_some k (Some x ∷ cells) lt = dite (dec_lt 0 (one_if (x.edge.index == k))) (λ here. (0, x, refl, one_of_if x.edge.index k here)) (λ no_here. let r = cell_some k cells (omega (arith, lt, no_here)) in (suc r.0, r.1, r.2, r.3))

module _ {S : Type 0} (keeps_it : S → Held → Type 0) (board : S → List (std.Option Held)) (counts : S → ℕ × ℕ × ℕ) (orders : S → Orders) where
  module _ (slots : ℕ) (ws : Words) (home : Option (Option (std.Option S))) (vs : List View) (r : PartsOf keeps_it board counts orders slots ws home vs) (id : ℕ) (v : View) (at : get_elem? vs id ≡ some v) where
    -- an edge that some seat or cell has
    abbrev pub IsHad : ℕ → Type 0
    IsHad k = (held : Held) × (held.edge.index ≡ k) × (v.draws.holds ≡ true → Knows v held) × IsAtPlace r.start r.log vs (length r.log) (at_sizes r.start held.function)

    now : table_after (opening r.start) (take (length r.log) r.log) ≡ r.table
    now = ap (table_after (opening r.start)) (take_all (length r.log) r.log (omega arith)) ∙ r.journal.leaves

    -- a row or a cell that the table has
    of_row : (s : ℕ) (row : Row) → StandsIn r.table s row → IsAtPlace r.start r.log vs (length r.log) (at_sizes r.start row.held.function)
    of_row s row stands = inl (inl (inl (subst (λ (t : Table). IsOfRow t (at_sizes r.start row.held.function)) (sym now)
        (s, row.name, at_sizes r.start row.held.function, stands ∙ ap (λ (z : Sizes). Some (at_sizes z row.held.function)) r.journal.fixed, itself (at_sizes r.start row.held.function)))))

    by_cell : (k : ℕ) → 0 < cells_count k r.cells → IsHad k
    by_cell k some_cell =
        let c = cell_some k r.cells some_cell in (
          c.1,
          c.3,
          (λ holds. inr (inr (inr (inr (c.0, ap (λ (l : List (std.Option Held)). slice_get l c.0) (r.turn.held id v.draws (here keeps_it board counts orders slots ws home vs r id v at) holds) ∙ c.2))))),
          inl (inl (inr (subst (λ (t : Table). IsOfCell t (at_sizes r.start c.1.function)) (sym now)
              (c.0, at_sizes r.start c.1.function, ap (λ (f : ℕ → std.Option Function). f c.0) r.turn.cells_are ∙ ap (λ o. option_map (at_sizes r.table.sizes) (function_in o)) c.2 ∙ ap (λ (z : Sizes). Some (at_sizes z c.1.function)) r.journal.fixed, itself (at_sizes r.start c.1.function))))),
        )

    module _ (i : ℕ) (u : View) (there : get_elem? vs i ≡ some u) where
      is_mine : i ≡ id → u ≡ v
      is_mine same = some-injective u v (sym there ∙ (ap (λ m. get_elem? vs m) same ∙ at))

      -- what another has, the holder of the turn knows
      others : v.draws.holds ≡ true → (i ≡ id → ⊥) → EachHeld (Has v.draws.others) (tally_of u)
      others holds apart = r.turn.away id v.draws (here keeps_it board counts orders slots ws home vs r id v at) holds i (tally_of u) apart (at_map tally_of vs i u there)

      stands : (m : ℕ) (row : Row) → get_elem? u.draws.rows m ≡ some row → IsAtPlace r.start r.log vs (length r.log) (at_sizes r.start row.held.function)
      stands m row lies =
          let fits = r.journal.each i u.draws (at_map (λ (u : View). u.draws) vs i u there) in
          by_bool u.draws.live
          (λ l. of_row u.draws.session row (each_at (StandsIn r.table u.draws.session) u.draws.rows m row (fits.live l).stand lies))
          (λ dead. by_bool u.draws.closing
          (λ c. let left = each_at (IsLeftRow r.table r.journal.seat u.draws.given) u.draws.rows m row (fits.closing c).2.left lies in of_row left.0 row left.3)
          (λ not_closing. absurd (some-ne-none row (sym lies ∙ ap (λ (rows : List Row). get_elem? rows m) (fits.rowless dead not_closing)))))

      by_row : (k : ℕ) → 0 < row_count k u.draws.rows → IsHad k
      by_row k some_row =
          let x = row_some k u.draws.rows some_row in (
            x.1.held,
            x.3,
            (λ holds. dite (ℕ_discrete i id)
                (λ same. inl (x.0, x.1, ap (λ (y : View). get_elem? y.draws.rows x.0) (sym (is_mine same)) ∙ x.2, refl))
                (λ apart. inr (inr (inr (inl (each_at (λ (row : Row). Has v.draws.others row.held) u.draws.rows x.0 x.1 (others holds apart).rows x.2)))))),
            stands x.0 x.1 x.2,
          )

      by_raised : (k : ℕ) → 0 < held_count k u.counts.raised → IsHad k
      by_raised k some_raised =
          let x = held_some k u.counts.raised some_raised in (
            x.1,
            x.3,
            (λ holds. dite (ℕ_discrete i id)
                (λ same. inr (inl (x.0, ap (λ (y : View). get_elem? y.counts.raised x.0) (sym (is_mine same)) ∙ x.2)))
                (λ apart. inr (inr (inr (inl (each_at (Has v.draws.others) u.counts.raised x.0 x.1 (others holds apart).raised x.2)))))),
            by_bool u.draws.live
                (λ live. inr (record {
                  id = i;
                  view = u;
                  at = there;
                  live = live;
                  none_behind = ap (entries_of u.draws.session) (drop_all r.log);
                  index = x.0;
                  held = x.1;
                  raised = x.2;
                  one = itself (at_sizes r.start x.1.function);
                }))
                (λ dead. absurd (some-ne-none x.1 (sym x.2 ∙ ap (λ (l : List Held). get_elem? l x.0) ((r.tied i u there).unraised dead).0))),
          )

      by_owed : (k : ℕ) → 0 < held_count k u.counts.owed → IsHad k
      by_owed k some_owed =
          let x = held_some k u.counts.owed some_owed in (
            x.1,
            x.3,
            (λ holds. dite (ℕ_discrete i id)
                (λ same. inr (inr (inl (x.0, ap (λ (y : View). get_elem? y.counts.owed x.0) (sym (is_mine same)) ∙ x.2))))
                (λ apart. inr (inr (inr (inl (each_at (Has v.draws.others) u.counts.owed x.0 x.1 (others holds apart).owed x.2)))))),
            by_bool u.draws.live
                (λ live. let owes = each_at (OwesLast r.start r.log u.draws.session) u.counts.owed x.0 x.1 (r.sifts.owes i u there live) x.2 in
                inl (inr (inl (subst (λ (es : List Entry). LastLoses r.start es (at_sizes r.start x.1.function)) (sym (take_all (length r.log) r.log (omega arith))) owes.0))))
                (λ dead. absurd (some-ne-none x.1 (sym x.2 ∙ ap (λ (l : List Held). get_elem? l x.0) ((r.tied i u there).unraised dead).1))),
          )

      -- a pin is that of the order holder
      no_pin : (k : ℕ) → v.shares.order ≡ Holding → times k v.counts.pins ≡ 0 → 0 < times k u.counts.pins → ⊥
      no_pin k holding unpinned pinned = dite (ℕ_discrete i id)
          (λ same. let e : times k u.counts.pins ≡ 0 = ap (λ (y : View). times k y.counts.pins) (is_mine same) ∙ unpinned in omega (arith, e, pinned))
          (λ apart. one_order ws.phase (footings_in vs) r.phase id i (footing_of v) (footing_of u) apart (at_map footing_of vs id v at) (at_map footing_of vs i u there) holding ((r.tied i u there).pins k pinned))

    -- a slot that is counted and that the holder has not pinned is that of an edge
    pub counted_is : (k : ℕ) → v.shares.order ≡ Holding → times k v.counts.pins ≡ 0 → 0 < count_of (ws.count k) → IsHad k
    counted_is k holding unpinned lt = dite (dec_lt 0 (cells_count k r.cells)) (by_cell k) (λ no_cell. by_view (total_some (refs k) (tallies_in vs) (let c = r.counted.counted k in omega (arith, c, lt, no_cell))))
      where
        by_view : (i : ℕ) × (t : Tally) × (get_elem? (tallies_in vs) i ≡ some t) × (0 < refs k t) → IsHad k
        by_view x =
            let m = map_at tally_of vs x.0 x.1 x.2 in
            let u : View = m.0 in
            let some_ref : 0 < refs k (tally_of u) = subst (λ (t : Tally). 0 < refs k t) (sym m.2) x.3 in
            dite (dec_lt 0 (row_count k u.draws.rows)) (by_row x.0 u m.1 k)
            (λ no_row. dite (dec_lt 0 (held_count k u.counts.raised)) (by_raised x.0 u m.1 k)
            (λ no_raised. dite (dec_lt 0 (held_count k u.counts.owed)) (by_owed x.0 u m.1 k)
            (λ no_owed. absurd (no_pin x.0 u m.1 k holding unpinned (omega (arith, some_ref, no_row, no_raised, no_owed))))))
