-- A seat is given, one is taken in, and the table as it is made.
use Rattle.std.proofs.Common.{◌≡◌, ◌≢◌, ℕ, zero, suc, ◌+◌, ◌-◌, ◌<◌, ◌≤◌, true, false, cond, List, [], ◌∷◌, ◌++◌, length, set, refl, ap, sym, subst, ◌∙◌, arith, true≢false, length-append}
use Rattle.std.specs.Prelude as std
use Rattle.std.specs.Prelude.{take, drop}
use mathlib.Core.Logic.{dite}
use mathlib.Core.Option.{Option, none, some, some-injective, some-ne-none}
use native.Mathlib.Decide.{ℕ_discrete}
use lib.ListN.{get_elem?}
use lib.Seq.{map-set}
use Rattle.edge_bits.specs.declared.limits.TheConstants.{CELLS, MOST_SESSIONS}
use Rattle.atomic_table.proofs.Lists.{at_longer, at_map, set_else}
use Rattle.function_laws.specs.declared.history.Function.{Function}
use Rattle.function_laws.specs.declared.history.Entry.{Entry}
use Rattle.function_laws.specs.Tables.{opening}
use Rattle.function_laws.specs.SessionEntries.{Each, entries_of}
use Rattle.function_laws.specs.Sizes.{Orders}
use Rattle.function_laws.specs.EntryOrders.{opening_orders, orders_from}
use Rattle.function_laws.specs.Widening.{at_sizes}
use Rattle.seat_guard.specs.declared.view.Held.{Held}
use Rattle.seat_guard.specs.declared.view.Row.{Row}
use Rattle.seat_guard.specs.declared.view.Gone.{Gone}
use Rattle.seat_guard.specs.declared.view.Hold.TheVariants.{Free, Holding}
use Rattle.seat_guard.specs.declared.view.Noted.{Noted}
use Rattle.seat_guard.specs.declared.view.Draws.{Draws}
use Rattle.seat_guard.specs.declared.view.View.{View}
use Rattle.seat_guard.specs.Allots.{parts_of, sessions_of}
use Rattle.seat_guard.specs.Finds.{carried_by}
use Rattle.seat_guard.specs.Generations.{IsOfRow, IsOfSlot}
use Rattle.seat_guard.specs.Journal.{ClosingFits, Fits, IsLeftRow, Journal}
use Rattle.seat_guard.specs.Layout.{Words}
use Rattle.seat_guard.specs.Notes.{AreNotedIn}
use Rattle.seat_guard.specs.Phase.{Footing, footing_of, HasNoShare, Phase}
use Rattle.seat_guard.specs.Rule.{Tied, draws_in, footings_in, tallies_in}
use Rattle.seat_guard.specs.Sifted.{IsAtPlace, IsPlaced, IsRaised, OwesLast}
use Rattle.seat_guard.specs.Tallies.{Counted, EachHeld, Tally, cells_count, held_count, tally_of, times}
use Rattle.seat_guard.specs.Turn.{AreSized, IsKeptCell, IsSized}
use Rattle.seat_guard.specs.Views.{cell_in, sizes_for, viewed, blank, joined_with, session_of, with_draws, with_gone, one_more}
use Rattle.seat_guard.proofs.Journals.{splits_it, joins_it}
use Rattle.seat_guard.proofs.Lists.{each_append, each_map, each_more, each_set, not_true, off}
use Rattle.seat_guard.proofs.PartSteps.{PartsOf, TurnOf, bare_tied, here, mapped, no_share, rows-append, stood, tally}
use Rattle.seat_guard.proofs.Phases.{phase_joined, phase_more, phase_starts}
use Rattle.seat_guard.proofs.Sifting.{quiet}
use Rattle.seat_guard.proofs.Tallying.{counted_less, counted_more, counted_one}
use Rattle.seat_guard.proofs.Turns.{IsHolder, sized_set, stays_so}

-- the parts of the closing seat
closing_parts : (d : Draws) → d.live ≡ false → d.closing ≡ true → (parts_of d ≡ (MOST_SESSIONS - d.given) + length d.gone) × (sessions_of d ≡ length d.gone)
closing_parts d dead is = (
  ap (λ x. cond x 1 (cond d.closing ((MOST_SESSIONS - d.given) + length d.gone) 0)) dead ∙ ap (λ x. cond x ((MOST_SESSIONS - d.given) + length d.gone) 0) is,
  ap (λ x. cond x 1 (cond d.closing (length d.gone) 0)) dead ∙ ap (λ x. cond x (length d.gone) 0) is,
)

live_parts : (d : Draws) → d.live ≡ true → (parts_of d ≡ 1) × (sessions_of d ≡ 1)
live_parts d live = (ap (λ b. cond b 1 (cond d.closing ((MOST_SESSIONS - d.given) + length d.gone) 0)) live, ap (λ b. cond b 1 (cond d.closing (length d.gone) 0)) live)

free_not : Free ≡ Holding → ⊥
free_not e = cc

nothing_held : (P : Held → Type 0) (t : Tally) → t.rows ≡ [] → t.counts.raised ≡ [] → t.counts.owed ≡ [] → EachHeld P t
nothing_held P t rows raised owed = record { rows = subst (Each (λ (row : Row). P row.held)) (sym rows) tt; raised = subst (Each P) (sym raised) tt; owed = subst (Each P) (sym owed) tt }

module _ {S : Type 0} (keeps_it : S → Held → Type 0) (board : S → List (std.Option Held)) (counts : S → ℕ × ℕ × ℕ) (orders : S → Orders) where
  module _ (slots : ℕ) (ws : Words) (home : Option (Option (std.Option S))) (vs : List View) (r : PartsOf keeps_it board counts orders slots ws home vs) (id : ℕ) (v : View) (at : get_elem? vs id ≡ some v) where
    abbrev d : Draws
    d = v.draws

    abbrev ds : List Draws
    ds = draws_in vs

    abbrev ts : List Tally
    ts = tallies_in vs

    abbrev feet : List Footing
    feet = footings_in vs

    here_is : get_elem? ds id ≡ some d
    here_is = here keeps_it board counts orders slots ws home vs r id v at

    tally_is : get_elem? ts id ≡ some (tally_of v)
    tally_is = tally keeps_it board counts orders slots ws home vs r id v at

    stood_is : get_elem? feet id ≡ some (footing_of v)
    stood_is = stood keeps_it board counts orders slots ws home vs r id v at

    module _ (is : d.closing ≡ true) where
      abbrev fits : (d.live ≡ false) × (id ≡ 0) × ClosingFits r.start r.log r.table r.journal.seat d
      fits = (r.journal.each id d here_is).closing is

      -- the next session gets a seat
      pub split_off : d.given < d.sessions → PartsOf keeps_it board counts orders slots ws home (set vs id (with_draws v (one_more d)) ++ viewed (session_of d) ∷ [])
      split_off room =
          let a = with_draws v (one_more d) in
          let b = viewed (session_of d) in
          let views = mapped (λ (v : View). v.draws) vs id a b in
          let tallies = mapped tally_of vs id a b in
          let t = r.tied id v at in
          let few : d.given < MOST_SESSIONS = let m = fits.2.few in omega (arith, room, m.1) in
          let of_d = closing_parts d fits.0 is in
          let of_a = closing_parts (one_more d) fits.0 is in
          let p = of_d.0 in let q = of_a.0 in
          let shared : parts_of (one_more d) + 1 ≡ parts_of d = omega (arith, p, q, few) in
          let idle = t.unshared fits.0 in record {
            start = r.start;
            sessions = r.sessions;
            log = r.log;
            table = r.table;
            cells = r.cells;
            journal = subst (λ (l : List Draws). Journal ws.journal ws.turn l r.start r.log r.table) (sym views) (splits_it ws.journal ws.turn ds r.start r.log r.table r.journal id d here_is is room);
            turn = subst (λ (l : List Draws × List Tally). TurnOf keeps_it board counts orders slots ws.turn home l.0 l.1 r.cells r.table (orders_from (opening_orders r.start) r.log)) (λ k. (sym views k, sym tallies k))
                (stays_so keeps_it board counts orders slots ws.turn home ds (set ds id (one_more d) ++ session_of d ∷ []) ts (set ts id (tally_of a) ++ tally_of b ∷ []) r.cells r.table (orders_from (opening_orders r.start) r.log) r.turn
                (each_more (λ i (f : Draws). f.holds ≡ true → IsHolder keeps_it board counts orders slots ds i f) (set ds id (one_more d)) (session_of d)
                (each_set (λ i (f : Draws). f.holds ≡ true → IsHolder keeps_it board counts orders slots ds i f) ds id (one_more d) (λ i f apart lies h. (f, lies, h, refl, refl, refl)) (λ h. (d, here_is, h, refl, refl, refl)))
                (λ h. absurd (off h)))
                (λ i u there P all. each_more (λ _ (u : Tally). EachHeld P u) (set ts id (tally_of a)) (tally_of b)
                (each_set (λ _ (u : Tally). EachHeld P u) ts id (tally_of a) (λ i u apart lies. all i u lies) (let e = all id (tally_of v) tally_is in record { rows = e.rows; raised = e.raised; owed = e.owed }))
                (nothing_held P (tally_of b) refl refl refl) i u there)
                (λ i f lies h k u off_i there P all. each_more (λ k (u : Tally). k ≢ i → EachHeld P u) (set ts id (tally_of a)) (tally_of b)
                (each_set (λ k (u : Tally). k ≢ i → EachHeld P u) ts id (tally_of a) (λ m u apart lies off. all m u off lies) (λ off. let e = all id (tally_of v) off tally_is in record { rows = e.rows; raised = e.raised; owed = e.owed }))
                (λ off. nothing_held P (tally_of b) refl refl refl) k u there off_i));
            counted = subst (Counted ws.count r.cells) (sym tallies) (counted_more ws.count r.cells ts r.counted id (tally_of v) (tally_of a) (tally_of b) tally_is
                (λ k. refl) (omega arith) refl refl (λ k. refl) refl (λ k. refl) (λ k. refl) shared (let s = of_a.1 in omega (arith, s, q)) (omega arith));
            sifts = record {
              carried = λ i e there. each_map (IsPlaced (IsAtPlace r.start r.log vs) (entries_of e.session (take i r.log)) i) (IsPlaced (IsAtPlace r.start r.log (set vs id a ++ b ∷ [])) (entries_of e.session (take i r.log)) i) (split_stays (entries_of e.session (take i r.log)) i) (carried_by e.call) (r.sifts.carried i e there);
              noted = each_more (λ i (u : View). u.draws.live ≡ true → Each (IsPlaced (IsAtPlace r.start r.log (set vs id a ++ b ∷ [])) (entries_of u.draws.session r.log) (length r.log)) u.counts.above) (set vs id a) b
                  (each_set (λ i (u : View). u.draws.live ≡ true → Each (IsPlaced (IsAtPlace r.start r.log (set vs id a ++ b ∷ [])) (entries_of u.draws.session r.log) (length r.log)) u.counts.above) vs id a
                  (λ i u _ there l. each_map (IsPlaced (IsAtPlace r.start r.log vs) (entries_of u.draws.session r.log) (length r.log)) (IsPlaced (IsAtPlace r.start r.log (set vs id a ++ b ∷ [])) (entries_of u.draws.session r.log) (length r.log)) (split_stays (entries_of u.draws.session r.log) (length r.log)) u.counts.above (r.sifts.noted i u there l))
                  (λ l. absurd (true≢false (sym l ∙ fits.0))))
                  (λ l. tt);
              owes = each_more (λ i (u : View). u.draws.live ≡ true → Each (OwesLast r.start r.log u.draws.session) u.counts.owed) (set vs id a) b
                  (each_set (λ i (u : View). u.draws.live ≡ true → Each (OwesLast r.start r.log u.draws.session) u.counts.owed) vs id a (λ i u _ there. r.sifts.owes i u there) (λ l. absurd (true≢false (sym l ∙ fits.0)))) (λ l. tt);
            };
            generations = each_more (λ _ (u : View). Each (IsOfSlot ws.count u) u.counts.generations) (set vs id a) b (each_set (λ _ (u : View). Each (IsOfSlot ws.count u) u.counts.generations) vs id a (λ i u _ there. r.generations i u there) (r.generations id v at)) tt;
            row_generations = each_more (λ _ (u : View). Each (IsOfRow ws.count) u.draws.rows) (set vs id a) b (each_set (λ _ (u : View). Each (IsOfRow ws.count) u.draws.rows) vs id a (λ i u _ there. r.row_generations i u there) (r.row_generations id v at)) tt;
            sized = subst (AreSized slots r.sessions) (sym views) (each_more (λ _ (e : Draws). IsSized slots r.sessions e) (set ds id (one_more d)) (session_of d)
                (sized_set slots r.sessions ds id (one_more d) r.sized (r.sized id d here_is))
                ((λ _. (r.sized id d here_is).1 is), (λ c. absurd (true≢false (sym c)))));
            sessions_are = r.sessions_are;
            phase = subst (Phase ws.phase) (sym (mapped footing_of vs id a b)) (phase_more ws.phase feet r.phase id (footing_of v) (footing_of a) stood_is idle idle (footing_of b) no_share shared);
            tied = each_more (λ _ (u : View). Tied u) (set vs id a) b
                (each_set (λ _ (u : View). Tied u) vs id a (λ i u apart lies. r.tied i u lies) (record { unshared = t.unshared; unraised = t.unraised; zeros = t.zeros; pins = t.pins }))
                (bare_tied (session_of d));
          }
        where
          split_raised : (high : List Entry) (f : Function) → IsRaised r.start high vs f → IsRaised r.start high (set vs id (with_draws v (one_more d)) ++ viewed (session_of d) ∷ []) f
          split_raised high f x = dite (ℕ_discrete x.id id)
              (λ same. absurd (true≢false (sym (ap (λ (y : View). y.draws.live) (some-injective v x.view (sym at ∙ (ap (λ j. get_elem? vs j) (sym same) ∙ x.at))) ∙ x.live) ∙ fits.0)))
              (λ apart. record { id = x.id; view = x.view; at = at_longer (set vs id (with_draws v (one_more d))) (viewed (session_of d) ∷ []) x.id x.view (set_else vs id x.id (with_draws v (one_more d)) apart ∙ x.at); live = x.live; none_behind = x.none_behind; index = x.index; held = x.held; raised = x.raised; one = x.one })

          split_stays : (own : List Entry) (most : ℕ) (f : Function) → IsPlaced (IsAtPlace r.start r.log vs) own most f → IsPlaced (IsAtPlace r.start r.log (set vs id (with_draws v (one_more d)) ++ viewed (session_of d) ∷ [])) own most f
          split_stays own most f p = record { place = p.place; within = p.within; later = p.later; is = quiet r.start r.log vs (set vs id (with_draws v (one_more d)) ++ viewed (session_of d) ∷ []) p.place f (split_raised (drop p.place r.log) f) p.is }

      -- a session's seat is taken in
      pub joined : (other : ℕ) (w : View) → other ≢ id → get_elem? (set vs id (joined_with v w.draws)) other ≡ some w → w.draws.live ≡ true → w.draws.holds ≡ false → HasNoShare w.shares → w.counts.raised ≡ [] → w.counts.owed ≡ []
          → PartsOf keeps_it board counts orders slots ws home (set (set vs id (joined_with v w.draws)) other (viewed blank))
      joined other w apart there live free idle_other unraised unowed =
          let e = w.draws in
          let a = joined_with v e in
          let t = r.tied id v at in
          let one : draws_in (set vs id a) ≡ set ds id (with_gone d e) = map-set (λ (v : View). v.draws) vs id a in
          let views : draws_in (set (set vs id a) other (viewed blank)) ≡ set (set ds id (with_gone d e)) other blank =
          map-set (λ (v : View). v.draws) (set vs id a) other (viewed blank) ∙ ap (λ l. set l other blank) one in
          let lies : get_elem? (set ds id (with_gone d e)) other ≡ some e = subst (λ (l : List Draws). get_elem? l other ≡ some e) one (at_map (λ (v : View). v.draws) (set vs id a) other w there) in
          let at_other : get_elem? vs other ≡ some w = sym (set_else vs id other a apart) ∙ there in
          let tallies_one : tallies_in (set vs id a) ≡ set ts id (tally_of a) = map-set tally_of vs id a in
          let tallies : tallies_in (set (set vs id a) other (viewed blank)) ≡ set (set ts id (tally_of a)) other (tally_of (viewed blank)) = map-set tally_of (set vs id a) other (viewed blank) ∙ ap (λ l. set l other (tally_of (viewed blank))) tallies_one in
          let tally_lies : get_elem? (set ts id (tally_of a)) other ≡ some (tally_of w) = subst (λ (l : List Tally). get_elem? l other ≡ some (tally_of w)) tallies_one (at_map tally_of (set vs id a) other w there) in
          let tally_other : get_elem? ts other ≡ some (tally_of w) = at_map tally_of vs other w at_other in
          let feet_one : footings_in (set vs id a) ≡ set feet id (footing_of a) = map-set footing_of vs id a in
          let feet_two : footings_in (set (set vs id a) other (viewed blank)) ≡ set (set feet id (footing_of a)) other (footing_of (viewed blank)) =
          map-set footing_of (set vs id a) other (viewed blank) ∙ ap (λ l. set l other (footing_of (viewed blank))) feet_one in
          let stands : get_elem? (set feet id (footing_of a)) other ≡ some (footing_of w) = subst (λ (l : List Footing). get_elem? l other ≡ some (footing_of w)) feet_one (at_map footing_of (set vs id a) other w there) in
          let not_held : d.holds ≡ false = not_true d.holds (λ h. true≢false (sym ((r.journal.each id d here_is).holder h) ∙ fits.0)) in
          let idle = t.unshared fits.0 in
          let longer : length (with_gone d e).gone ≡ length d.gone + 1 = length-append d.gone _ in
          let longer_rows : length (with_gone d e).rows ≡ length d.rows + length e.rows = length-append d.rows e.rows in
          let of_d = closing_parts d fits.0 is in
          let of_a = closing_parts (with_gone d e) fits.0 is in
          let of_e = live_parts e live in
          let d0 = of_d.0 in let d1 = of_d.1 in let a0 = of_a.0 in let a1 = of_a.1 in let e0 = of_e.0 in let e1 = of_e.1 in
          let mine = t.unraised fits.0 in
          let no_pins : (u : View) → Tied u → u.shares.order ≡ Free → (k : ℕ) → (times k u.counts.pins ≡ 0) × (times k u.counts.zeros ≡ 0) =
          λ u tied free_order k. (none_of (times k u.counts.pins) (λ some_pin. free_not (sym free_order ∙ tied.pins k some_pin)), none_of (times k u.counts.zeros) (λ found. free_not (sym free_order ∙ tied.zeros k found))) in
          let holds_both : (P : Held → Type 0) → EachHeld P (tally_of v) → EachHeld P (tally_of w) → EachHeld P (tally_of a) =
          λ P x y. record { rows = each_append (λ (row : Row). P row.held) d.rows e.rows x.rows y.rows; raised = tt; owed = tt } in record {
            start = r.start;
            sessions = r.sessions;
            log = r.log;
            table = r.table;
            cells = r.cells;
            journal = subst (λ (l : List Draws). Journal ws.journal ws.turn l r.start r.log r.table) (sym views) (joins_it ws.journal ws.turn ds r.start r.log r.table r.journal id d other e here_is apart lies is live free);
            turn = subst (λ (l : List Draws × List Tally). TurnOf keeps_it board counts orders slots ws.turn home l.0 l.1 r.cells r.table (orders_from (opening_orders r.start) r.log)) (λ k. (sym views k, sym tallies k))
                (stays_so keeps_it board counts orders slots ws.turn home ds (set (set ds id (with_gone d e)) other blank) ts (set (set ts id (tally_of a)) other (tally_of (viewed blank))) r.cells r.table (orders_from (opening_orders r.start) r.log) r.turn
                (each_set (λ i (f : Draws). f.holds ≡ true → IsHolder keeps_it board counts orders slots ds i f) (set ds id (with_gone d e)) other blank
                (λ i f _ lies. each_set (λ i (f : Draws). f.holds ≡ true → IsHolder keeps_it board counts orders slots ds i f) ds id (with_gone d e) (λ i f apart lies h. (f, lies, h, refl, refl, refl)) (λ h. absurd (true≢false (sym h ∙ not_held))) i f lies)
                (λ h. absurd (off h)))
                (λ i u there P all. each_set (λ _ (u : Tally). EachHeld P u) (set ts id (tally_of a)) other (tally_of (viewed blank))
                (λ i u _ lies. each_set (λ _ (u : Tally). EachHeld P u) ts id (tally_of a) (λ i u apart lies. all i u lies) (holds_both P (all id (tally_of v) tally_is) (all other (tally_of w) tally_other)) i u lies)
                (nothing_held P (tally_of (viewed blank)) refl refl refl) i u there)
                (λ i f at_i h k u off_i there P all.
                let off_other : other ≢ i = λ same. true≢false (sym (ap (λ (y : Draws). y.holds) (some-injective e f (sym (at_map (λ (v : View). v.draws) vs other w at_other) ∙ (ap (λ m. get_elem? ds m) same ∙ at_i))) ∙ h) ∙ free) in
                each_set (λ k (u : Tally). k ≢ i → EachHeld P u) (set ts id (tally_of a)) other (tally_of (viewed blank))
                (λ m u _ lies off_m. each_set (λ k (u : Tally). k ≢ i → EachHeld P u) ts id (tally_of a) (λ m u apart lies off. all m u off lies) (λ off. holds_both P (all id (tally_of v) off tally_is) (all other (tally_of w) off_other tally_other)) m u lies off_m)
                (λ off. nothing_held P (tally_of (viewed blank)) refl refl refl) k u there off_i));
            counted = subst (Counted ws.count r.cells) (sym tallies) (counted_less ws.count r.cells ts r.counted id other (tally_of v) (tally_of w) (tally_of a) (tally_of (viewed blank)) tally_is tally_other tally_lies
                (λ k. let p = rows-append k d.rows e.rows in let rm : held_count k v.counts.raised ≡ 0 = ap (held_count k) mine.0 in let om : held_count k v.counts.owed ≡ 0 = ap (held_count k) mine.1 in let pm = (no_pins v t idle.2 k).0 in let ra : held_count k w.counts.raised ≡ 0 = ap (held_count k) unraised in let ow : held_count k w.counts.owed ≡ 0 = ap (held_count k) unowed in
                let pn = (no_pins w (r.tied other w at_other) idle_other.2 k).0 in omega (arith, p, rm, om, pm, ra, ow, pn))
                (let ra : length w.counts.raised ≡ 0 = ap (λ (l : List Held). length l) unraised in let ow : length w.counts.owed ≡ 0 = ap (λ (l : List Held). length l) unowed in omega (arith, longer_rows, ra, ow))
                (omega (arith, a1, d1, e1, longer))
                (λ k. refl) (λ k. refl)
                (λ k. refl) refl (λ k. refl) (λ k. refl) (omega (arith, a0, d0, e0, longer)) (omega (arith, a1, a0)) (omega arith));
            sifts = record {
              carried = λ i e there. each_map (IsPlaced (IsAtPlace r.start r.log vs) (entries_of e.session (take i r.log)) i) (IsPlaced (IsAtPlace r.start r.log (set (set vs id a) other (viewed blank))) (entries_of e.session (take i r.log)) i) (join_stays at_other unraised (entries_of e.session (take i r.log)) i) (carried_by e.call) (r.sifts.carried i e there);
              noted = each_set (λ i (u : View). u.draws.live ≡ true → Each (IsPlaced (IsAtPlace r.start r.log (set (set vs id a) other (viewed blank))) (entries_of u.draws.session r.log) (length r.log)) u.counts.above) (set vs id a) other (viewed blank)
                  (λ i u _ lies. each_set (λ i (u : View). u.draws.live ≡ true → Each (IsPlaced (IsAtPlace r.start r.log (set (set vs id a) other (viewed blank))) (entries_of u.draws.session r.log) (length r.log)) u.counts.above) vs id a
                  (λ i u _ there l. each_map (IsPlaced (IsAtPlace r.start r.log vs) (entries_of u.draws.session r.log) (length r.log)) (IsPlaced (IsAtPlace r.start r.log (set (set vs id a) other (viewed blank))) (entries_of u.draws.session r.log) (length r.log)) (join_stays at_other unraised (entries_of u.draws.session r.log) (length r.log)) u.counts.above (r.sifts.noted i u there l))
                  (λ l. absurd (true≢false (sym l ∙ fits.0))) i u lies)
                  (λ l. tt);
              owes = each_set (λ i (u : View). u.draws.live ≡ true → Each (OwesLast r.start r.log u.draws.session) u.counts.owed) (set vs id a) other (viewed blank)
                  (λ i u _ lies. each_set (λ i (u : View). u.draws.live ≡ true → Each (OwesLast r.start r.log u.draws.session) u.counts.owed) vs id a (λ i u _ there. r.sifts.owes i u there) (λ l. absurd (true≢false (sym l ∙ fits.0))) i u lies)
                  (λ l. tt);
            };
            generations = each_set (λ _ (u : View). Each (IsOfSlot ws.count u) u.counts.generations) (set vs id a) other (viewed blank)
                (λ i u _ lies. each_set (λ _ (u : View). Each (IsOfSlot ws.count u) u.counts.generations) vs id a (λ i u _ there. r.generations i u there) tt i u lies) tt;
            row_generations = each_set (λ _ (u : View). Each (IsOfRow ws.count) u.draws.rows) (set vs id a) other (viewed blank)
                (λ i u _ lies. each_set (λ _ (u : View). Each (IsOfRow ws.count) u.draws.rows) vs id a (λ i u _ there. r.row_generations i u there)
                (each_append (IsOfRow ws.count) d.rows e.rows (r.row_generations id v at) (r.row_generations other w at_other)) i u lies) tt;
            sized = subst (AreSized slots r.sessions) (sym views) (sized_set slots r.sessions (set ds id (with_gone d e)) other blank
                (sized_set slots r.sessions ds id (with_gone d e) r.sized (r.sized id d here_is)) ((λ l. absurd (true≢false (sym l))), (λ c. absurd (true≢false (sym c)))));
            sessions_are = r.sessions_are;
            phase = subst (Phase ws.phase) (sym feet_two) (phase_joined ws.phase feet r.phase id (footing_of v) (footing_of a) stood_is idle idle other (footing_of w) (footing_of (viewed blank)) stands idle_other no_share (omega (arith, d0, a0, e0, longer)));
            tied = each_set (λ _ (u : View). Tied u) (set vs id a) other (viewed blank)
                (λ i u _ lies. each_set (λ _ (u : View). Tied u) vs id a (λ i u _ lies. r.tied i u lies) (record { unshared = t.unshared; unraised = λ _. (refl, refl); zeros = λ k found. absurd (omega (arith, found)); pins = λ k found. absurd (omega (arith, found)) }) i u lies)
                (bare_tied blank);
          }
        where
          join_raised : (high : List Entry) (f : Function) → IsRaised r.start high vs f → get_elem? vs other ≡ some w → w.counts.raised ≡ [] → IsRaised r.start high (set (set vs id (joined_with v w.draws)) other (viewed blank)) f
          join_raised high f x at_other unraised = dite (ℕ_discrete x.id id)
              (λ same. absurd (true≢false (sym (ap (λ (y : View). y.draws.live) (some-injective v x.view (sym at ∙ (ap (λ j. get_elem? vs j) (sym same) ∙ x.at))) ∙ x.live) ∙ fits.0)))
              (λ apart_id. dite (ℕ_discrete x.id other)
              (λ same. absurd (some-ne-none x.held (sym x.raised ∙ ap (λ (l : List Held). get_elem? l x.index)
              (ap (λ (y : View). y.counts.raised) (some-injective x.view w (sym x.at ∙ (ap (λ j. get_elem? vs j) same ∙ at_other))) ∙ unraised))))
              (λ apart_other. record {
                id = x.id;
                view = x.view;
                at = set_else (set vs id (joined_with v w.draws)) other x.id (viewed blank) apart_other ∙ (set_else vs id x.id (joined_with v w.draws) apart_id ∙ x.at);
                live = x.live;
                none_behind = x.none_behind;
                index = x.index;
                held = x.held;
                raised = x.raised;
                one = x.one;
              }))

          join_stays : get_elem? vs other ≡ some w → w.counts.raised ≡ [] → (own : List Entry) (most : ℕ) (f : Function) → IsPlaced (IsAtPlace r.start r.log vs) own most f → IsPlaced (IsAtPlace r.start r.log (set (set vs id (joined_with v w.draws)) other (viewed blank))) own most f
          join_stays at_other unraised own most f p = record { place = p.place; within = p.within; later = p.later; is = quiet r.start r.log vs (set (set vs id (joined_with v w.draws)) other (viewed blank)) p.place f (λ x. join_raised (drop p.place r.log) f x at_other unraised) p.is }

          none_of : (n : ℕ) → (0 < n → ⊥) → n ≡ 0
          none_of zero never = refl
          none_of (suc n) never = absurd (never (omega arith))

  -- an empty board names no slot
  none_counted : (k : ℕ) (cells : List (std.Option Held)) → ((i : ℕ) → cell_in cells i ≡ std.None) → cells_count k cells ≡ 0
  none_counted k [] none_there = refl
  none_counted k (std.None ∷ cells) none_there = none_counted k cells (λ i. none_there (suc i))
  none_counted k (std.Some held ∷ cells) none_there = absurd (let a : std.Some held.function ≡ std.None = none_there zero in cc)

  -- the table as it is made
  pub starts : (x : S) (d : Draws) → orders x ≡ opening_orders (sizes_for d.vars d.elements) → counts x ≡ (d.vars, d.elements, d.slots) → d.closing ≡ true → d.live ≡ false → d.holds ≡ false → d.rows ≡ [] → d.given ≡ 0 → d.sessions ≤ MOST_SESSIONS → d.gone ≡ [] → d.noted ≡ [] → d.placed ≡ [] → length (board x) ≡ CELLS → cell_in (board x) ≡ (λ (i : ℕ). std.None) → Each (IsKeptCell keeps_it board counts orders x) (board x)
      → PartsOf keeps_it board counts orders d.slots (record { journal = 0; phase = 0; turn = 0; sessions = d.sessions; count = λ k. 0 }) (some (some (std.Some x))) (viewed d ∷ [])
  starts x d ordered sizes is dead free rows given most gone notes calls len empty kept = record {
    start = sizes_for d.vars d.elements;
    sessions = d.sessions;
    log = [];
    table = opening (sizes_for d.vars d.elements);
    cells = board x;
    journal = record {
      seat = λ _. none;
      legal = tt;
      leaves = refl;
      fixed = refl;
      drawn = refl;
      bounded = λ p. omega arith;
      beyond = λ p le. refl;
      found = tt;
      each = one;
    };
    turn = record {
      home_is = λ _. (x, refl, record { board_is = refl; cells_kept = kept; counts_are = sizes; kept = λ j u at. only_tally j u at (EachHeld (keeps_it x)) (nothing_held (keeps_it x) (tally_of (viewed d)) rows refl refl); orders_are = ordered });
      cells_are = λ j i. std.option_map (at_sizes (sizes_for d.vars d.elements)) (sym empty j i);
      held = λ i f at h. absurd (true≢false (sym h ∙ only i f at (λ f. f.holds ≡ false) free));
      away = λ i f at h. absurd (true≢false (sym h ∙ only i f at (λ f. f.holds ≡ false) free));
      ordered = λ i f at h. absurd (true≢false (sym h ∙ only i f at (λ f. f.holds ≡ false) free));
    };
    counted = counted_one (board x) (tally_of (viewed d)) len (λ k. none_counted k (board x) (λ i. ap (λ (f : ℕ → std.Option Function). f i) empty)) few rows refl (let p = parts_are.0 in let s = parts_are.1 in omega (arith, p, s));
    sifts = record { carried = λ i e at. absurd (some-ne-none e (sym at)); noted = λ i u at l. absurd (true≢false (sym l ∙ only_view i u at (λ u. u.draws.live ≡ false) dead)); owes = λ i u at l. absurd (true≢false (sym l ∙ only_view i u at (λ u. u.draws.live ≡ false) dead)) };
    generations = λ i u at. only_view i u at (λ u. Each (IsOfSlot (λ k. 0) u) u.counts.generations) tt;
    row_generations = λ i u at. only_view i u at (λ u. Each (IsOfRow (λ k. 0)) u.draws.rows) (subst (λ (l : List Row). Each (IsOfRow (λ k. 0)) l) (sym rows) tt);
    sized = λ j e at. only j e at (IsSized d.slots d.sessions) ((λ _. (refl, refl)), (λ _. (refl, refl)));
    sessions_are = refl;
    phase = phase_starts (footing_of (viewed d)) few no_share;
    tied = λ i u at. only_view i u at Tied (bare_tied d);
  }
    where
      parts_are : (parts_of d ≡ (MOST_SESSIONS - d.given) + length d.gone) × (sessions_of d ≡ length d.gone)
      parts_are = closing_parts d dead is

      few : parts_of d ≤ MOST_SESSIONS
      few = let p = parts_are.0 in let g : length d.gone ≡ 0 = ap (λ (l : List Gone). length l) gone in omega (arith, p, g, given)

      only_view : (i : ℕ) (u : View) → get_elem? (viewed d ∷ []) i ≡ some u → (P : View → Type 0) → P (viewed d) → P u
      only_view zero u at P p = subst P (some-injective (viewed d) u at) p
      only_view (suc i) u at P p = absurd (some-ne-none u (sym at))

      only_tally : (i : ℕ) (u : Tally) → get_elem? (tally_of (viewed d) ∷ []) i ≡ some u → (P : Tally → Type 0) → P (tally_of (viewed d)) → P u
      only_tally zero u at P p = subst P (some-injective (tally_of (viewed d)) u at) p
      only_tally (suc i) u at P p = absurd (some-ne-none u (sym at))

      only : (j : ℕ) (e : Draws) → get_elem? (d ∷ []) j ≡ some e → (P : Draws → Type 0) → P d → P e
      only zero e at P p = subst P (some-injective d e at) p
      only (suc j) e at P p = absurd (some-ne-none e (sym at))

      one : (id : ℕ) (e : Draws) → get_elem? (d ∷ []) id ≡ some e → Fits 0 (sizes_for d.vars d.elements) [] (opening (sizes_for d.vars d.elements)) (λ _. none) id e
      one zero e at = subst (Fits 0 (sizes_for d.vars d.elements) [] (opening (sizes_for d.vars d.elements)) (λ _. none) 0) (some-injective d e at) (record {
        live = λ l. absurd (true≢false (sym l ∙ dead));
        closing = λ _. (
          dead,
          refl,
          record {
            few = (omega (arith, given), most);
            start_is = refl;
            later = λ p le. record { no_seat = refl; no_entry = refl; no_row = refl; no_name = refl };
            back = λ k g there. absurd (some-ne-none g (sym (sym (ap (λ (l : List Gone). get_elem? l k) gone) ∙ there)));
            left = subst (λ (l : List Row). Each (IsLeftRow (opening (sizes_for d.vars d.elements)) (λ _. none) d.given) l) (sym rows) tt;
          },
        );
        holder = λ h. absurd (true≢false (sym h ∙ free));
        rowless = λ _ _. rows;
        noted = subst (λ (z : List Noted × List Noted). AreNotedIn (sizes_for d.vars d.elements) [] d.session z.0 z.1) (λ i. (sym notes i, sym calls i)) (record { noted = tt; placed = tt });
      })
      one (suc id) e at = absurd (some-ne-none e (sym at))
