-- Each change of a seat keeps the parts of the rule.
use Rattle.std.proofs.Common.{◌≡◌, ◌≢◌, ◌⊎◌, ℕ, suc, ◌+◌, ◌^◌, ◌<◌, ◌==◌, cond, true, List, [], ◌∷◌, ◌++◌, map, length, set, refl, ap, ap₂, sym, subst, ◌∙◌, ⊎_elim, inl, inr, arith, true≢false, eq-eqb, eqb-true}
use Rattle.std.specs.Prelude as std
use Rattle.std.specs.Prelude.{take, drop}
use mathlib.Core.Option.{Option, some}
use mathlib.Core.List.{map-append}
use lib.ListN.{get_elem?}
use lib.Seq.{map-set}
use Rattle.edge_bits.specs.declared.limits.TheConstants.{CELLS}
use Rattle.atomic_table.proofs.Lists.{at_map, set_again}
use Rattle.handle_count.specs.CountWords.{generation_of}
use Rattle.function_laws.specs.declared.history.Function.{Function}
use Rattle.function_laws.specs.declared.history.Entry.{Entry}
use Rattle.function_laws.specs.Tables.{Table, Sizes}
use Rattle.function_laws.specs.Steps.{after}
use Rattle.function_laws.specs.SessionEntries.{Each, entries_of, entry}
use Rattle.function_laws.specs.Sizes.{Orders}
use Rattle.function_laws.specs.EntryOrders.{opening_orders, orders_after, orders_from}
use Rattle.function_laws.specs.Widening.{at_sizes}
use Rattle.function_laws.proofs.OrderLemmas.{orders_from-append}
use Rattle.seat_guard.specs.declared.guard.TheConstants.{CLOSING_TURN}
use Rattle.seat_guard.specs.declared.view.Held.{Held}
use Rattle.seat_guard.specs.declared.view.Row.{Row}
use Rattle.seat_guard.specs.declared.view.Change.{Change}
use Rattle.seat_guard.specs.declared.view.Change.TheVariants.{Nothing, Adds, Takes, Posts}
use Rattle.seat_guard.specs.declared.view.Telling.{Telling}
use Rattle.seat_guard.specs.declared.view.Draws.{Draws}
use Rattle.seat_guard.specs.declared.view.Leaving.{Leaving}
use Rattle.seat_guard.specs.declared.view.View.{View}
use Rattle.seat_guard.specs.Finds.{carried_by}
use Rattle.seat_guard.specs.declared.view.SlotGeneration.{SlotGeneration}
use Rattle.seat_guard.specs.Generations.{IsOfRow, IsOfSlot, names}
use Rattle.seat_guard.specs.Journal.{Journal}
use Rattle.seat_guard.specs.Layout.{Words}
use Rattle.seat_guard.specs.Moves.{HasGeneration, LeavesBoard, MayMove}
use Rattle.seat_guard.specs.Phase.{Footing, footing_of, HasNoShare, Phase}
use Rattle.seat_guard.specs.Rule.{AllBack, Ends, Parts, Tied, draws_in, footings_in, tallies_in}
use Rattle.seat_guard.specs.Sifted.{ArePlaced, Gains, IsAtPlace, IsHadAt, IsPlaced, IsRaised, Loses, Sifts}
use Rattle.seat_guard.specs.Tallies.{Counted, FitsBoard, HasRaised, Tally, cells_after, counts_after, gained, held_count, lost, noted_of, one_if, row_count, rows_after, tally_after, tally_of}
use Rattle.seat_guard.specs.Turn.{AreSized, IsKeptCell, IsSized, Serves, Turn}
use Rattle.seat_guard.specs.Views.{cell_at, told_with, MayTell, sizes_for, viewed, blank, holding, letting_go, with_draws, noting}
use Rattle.seat_guard.proofs.Bools.{by_bool}
use Rattle.seat_guard.proofs.Cells.{after_cells, orders_stay}
use Rattle.seat_guard.proofs.HeldLists.{lost_same}
use Rattle.seat_guard.proofs.Journals.{mine, one_holder, one_session, none_live, held_turn, takes_it, gives_it, draws_it, notes_it, turns, whole_of}
use Rattle.seat_guard.proofs.Lists.{each_map, each_set}
use Rattle.seat_guard.proofs.Moving.{gains_it, loses_it}
use Rattle.seat_guard.proofs.NameSteps.{each_without}
use Rattle.seat_guard.proofs.Sifting.{draws_sifted, steps_same}
use Rattle.seat_guard.proofs.Tallying.{alone, draws_counts, taken-rows}
use Rattle.seat_guard.proofs.Turns.{IsHolder, away_with, comes_home, draws_aside, draws_away, finds_it, sized_set, stays_so}

pub mapped : {A B : Type 0} (f : A → B) (l : List A) (id : ℕ) (a b : A) → map f (set l id a ++ b ∷ []) ≡ set (map f l) id (f a) ++ f b ∷ []
mapped f l id a b = map-append f (set l id a) (b ∷ []) ∙ ap (λ l. l ++ f b ∷ []) (map-set f l id a)

pub no_share : HasNoShare (viewed blank).shares
no_share = (refl, refl, refl, refl)

-- who has nothing of the words is tied
pub bare_tied : (d : Draws) → Tied (viewed d)
bare_tied d = record { unshared = λ _. (refl, refl, refl, refl); unraised = λ _. (refl, refl); zeros = λ k found. absurd (omega (arith, found)); pins = λ k found. absurd (omega (arith, found)) }

pub rows-append : (k : ℕ) (xs ys : List Row) → row_count k (xs ++ ys) ≡ row_count k xs + row_count k ys
rows-append k [] ys = omega arith
rows-append k (x ∷ xs) ys = let r = rows-append k xs ys in omega (arith, r)

-- what a seat names after a draw it named before
names_before : (v w : View) (x : Telling) → w.draws.rows ≡ rows_after x.change v.draws.rows → w.counts.raised ≡ [] → v.counts.raised ≡ gained x.change → (k : ℕ) → 0 < names k w → 0 < names k v
names_before v w x rows none_raised up k lt =
    let a : row_count k w.draws.rows ≡ row_count k (rows_after x.change v.draws.rows) = ap (row_count k) rows in
    let b : held_count k w.counts.raised ≡ 0 = ap (held_count k) none_raised in
    let c : held_count k v.counts.raised ≡ held_count k (gained x.change) = ap (held_count k) up in
    by x.change (omega (arith, a, b, lt)) c
  where
    by : (change : Change) → 0 < row_count k (rows_after change v.draws.rows) → held_count k v.counts.raised ≡ held_count k (gained change) → 0 < row_count k v.draws.rows + held_count k v.counts.raised
    by Nothing lt c = omega (arith, lt)
    by (Posts i held) lt c = omega (arith, lt)
    by (Adds row) lt c = omega (arith, c, lt)
    by (Takes name) lt c = let t = taken-rows k name v.draws.rows in omega (arith, lt, t)

-- what is so of all that was noted, for the generation of a slot
of_noted : (P : SlotGeneration → Type 0) (k g : ℕ) (xs : List SlotGeneration) → Each P xs → noted_of k xs ≡ std.Some g → P (record { slot = k; generation = g })
of_noted P k g [] all is = absurd (let a : std.None ≡ std.Some g = is in cc)
of_noted P k g (x ∷ xs) all is = by_bool (x.slot == k)
    (λ same. let e : std.Some x.generation ≡ std.Some g = sym (ap (λ b. cond b (std.Some x.generation) (noted_of k xs)) same) ∙ is in
    subst P (let s = eqb-true x.slot k same in let t : x.generation ≡ g = cc in λ i. record { slot = s i; generation = t i }) all.0)
    (λ apart. of_noted P k g xs all.1 (sym (ap (λ b. cond b (std.Some x.generation) (noted_of k xs)) apart) ∙ is))

-- the rows after a draw have their slots' generations
aged_after : (count : ℕ → ℕ) (v : View) (change : Change) → HasRaised change v.draws.cells v.counts → HasGeneration change v.counts → Each (IsOfSlot count v) v.counts.generations → Each (IsOfRow count) v.draws.rows → Each (IsOfRow count) (rows_after change v.draws.rows)
aged_after count v Nothing up aged noted all = all
aged_after count v (Posts i held) up aged noted all = all
aged_after count v (Adds row) up aged noted all = (
  of_noted (IsOfSlot count v) row.held.edge.index row.generation v.counts.generations noted aged
      (let a : held_count row.held.edge.index v.counts.raised ≡ held_count row.held.edge.index (row.held ∷ []) = ap (held_count row.held.edge.index) up.0 in
      let b : one_if (row.held.edge.index == row.held.edge.index) ≡ 1 = ap one_if (eq-eqb row.held.edge.index row.held.edge.index refl) in omega (arith, a, b)),
  all,
)
aged_after count v (Takes name) up aged noted all = each_without (IsOfRow count) name v.draws.rows all

fits_cells : (change : Change) (cells other : List (std.Option Held)) → LeavesBoard change ⊎ (cells ≡ other) → FitsBoard change cells → FitsBoard change other
fits_cells change cells other (inr same) fits = subst (FitsBoard change) same fits
fits_cells change cells other (inl leaves) fits = by change leaves
  where
    by : (change : Change) → LeavesBoard change → FitsBoard change other
    by Nothing leaves = tt
    by (Posts i held) leaves = absurd leaves
    by (Adds row) leaves = tt
    by (Takes name) leaves = tt

lost_cells : (change : Change) (cells other : List (std.Option Held)) (rows : List Row) → LeavesBoard change ⊎ (cells ≡ other) → lost change cells rows ≡ lost change other rows
lost_cells change cells other rows (inl leaves) = lost_same change cells other rows leaves
lost_cells change cells other rows (inr same) = ap (λ c. lost change c rows) same

-- the view after a draw, which is told the orders
abbrev pub moved : Orders → View → ℕ → Telling → View
moved now v n x = record v { draws = told_with now v.draws n x; counts = counts_after x.change v.draws.cells v.draws.rows v.counts }

module _ {S : Type 0} (keeps_it : S → Held → Type 0) (board : S → List (std.Option Held)) (counts : S → ℕ × ℕ × ℕ) (orders : S → Orders) where
  abbrev pub PartsOf : ℕ → Words → Option (Option (std.Option S)) → List View → Type 0
  PartsOf = Parts keeps_it board counts orders

  abbrev pub TurnOf : ℕ → ℕ → Option (Option (std.Option S)) → List Draws → List Tally → List (std.Option Held) → Table → Orders → Type 0
  TurnOf = Turn keeps_it board counts orders

  module _ (slots : ℕ) (ws : Words) (home : Option (Option (std.Option S))) (vs : List View) (r : PartsOf slots ws home vs) where
    abbrev ds : List Draws
    ds = draws_in vs

    abbrev ts : List Tally
    ts = tallies_in vs

    abbrev feet : List Footing
    feet = footings_in vs

    abbrev now_left : Orders
    now_left = orders_from (opening_orders r.start) r.log

    abbrev j : Journal ws.journal ws.turn ds r.start r.log r.table
    j = r.journal

    module _ (id : ℕ) (v : View) (at : get_elem? vs id ≡ some v) where
      abbrev d : Draws
      d = v.draws

      pub here : get_elem? ds id ≡ some d
      here = at_map (λ (v : View). v.draws) vs id v at

      pub tally : get_elem? ts id ≡ some (tally_of v)
      tally = at_map tally_of vs id v at

      pub stood : get_elem? feet id ≡ some (footing_of v)
      stood = at_map footing_of vs id v at

      pub same_tallies : set ts id (tally_of v) ≡ ts
      same_tallies = set_again ts id (tally_of v) tally

      pub same_draws : set ds id d ≡ ds
      same_draws = set_again ds id d here

      pub same_phase : Phase ws.phase (set feet id (footing_of v))
      same_phase = subst (Phase ws.phase) (sym (set_again feet id (footing_of v) stood)) r.phase

      -- the seat's view becomes another
      pub changed : (new : Words) (then : Option (Option (std.Option S))) (log : List Entry) (table : Table) (cells : List (std.Option Held)) (w : View)
          → Phase new.phase (set feet id (footing_of w)) → new.sessions ≡ ws.sessions → IsSized slots r.sessions w.draws
          → Journal new.journal new.turn (set ds id w.draws) r.start log table
          → TurnOf slots new.turn then (set ds id w.draws) (set ts id (tally_of w)) cells table (orders_from (opening_orders r.start) log)
          → Counted new.count cells (set ts id (tally_of w)) → Sifts r.start log (set vs id w) → Tied w
          → ((k : ℕ) → generation_of (new.count k) ≡ generation_of (ws.count k)) → Each (IsOfSlot new.count w) w.counts.generations → Each (IsOfRow ws.count) w.draws.rows
          → PartsOf slots new then (set vs id w)
      changed new then log table cells w phase same sized journal turn counted sifts tied still right_now aged = record {
        start = r.start;
        sessions = r.sessions;
        log = log;
        table = table;
        cells = cells;
        journal = subst (λ (l : List Draws). Journal new.journal new.turn l r.start log table) (sym (map-set (λ (v : View). v.draws) vs id w)) journal;
        turn = subst (λ (l : List Draws × List Tally). TurnOf slots new.turn then l.0 l.1 cells table (orders_from (opening_orders r.start) log)) (λ k. (sym (map-set (λ (v : View). v.draws) vs id w) k, sym (map-set tally_of vs id w) k)) turn;
        counted = subst (Counted new.count cells) (sym (map-set tally_of vs id w)) counted;
        sifts = sifts;
        generations = each_set (λ _ (u : View). Each (IsOfSlot new.count u) u.counts.generations) vs id w
            (λ i u apart there. each_map (IsOfSlot ws.count u) (IsOfSlot new.count u) (λ g right named_now. still g.slot ∙ right named_now) u.counts.generations (r.generations i u there)) right_now;
        row_generations = each_set (λ _ (u : View). Each (IsOfRow new.count) u.draws.rows) vs id w
            (λ i u apart there. each_map (IsOfRow ws.count) (IsOfRow new.count) (λ row right. still row.held.edge.index ∙ right) u.draws.rows (r.row_generations i u there))
            (each_map (IsOfRow ws.count) (IsOfRow new.count) (λ row right. still row.held.edge.index ∙ right) w.draws.rows aged);
        sized = subst (AreSized slots r.sessions) (sym (map-set (λ (v : View). v.draws) vs id w)) (sized_set slots r.sessions ds id w.draws r.sized sized);
        sessions_are = same ∙ r.sessions_are;
        phase = subst (Phase new.phase) (sym (map-set footing_of vs id w)) phase;
        tied = each_set (λ _ (u : View). Tied u) vs id w (λ i u apart there. r.tied i u there) tied;
      }

      -- only the draws change, and of them neither rows nor what the seat is
      redrawn : (new : Words) (then : Option (Option (std.Option S))) (e : Draws) → tally_of (with_draws v e) ≡ tally_of v → footing_of (with_draws v e) ≡ footing_of v → e.live ≡ d.live → e.session ≡ d.session
          → new.phase ≡ ws.phase → new.sessions ≡ ws.sessions → new.count ≡ ws.count → IsSized slots r.sessions e
          → Journal new.journal new.turn (set ds id e) r.start r.log r.table
          → TurnOf slots new.turn then (set ds id e) ts r.cells r.table now_left
          → PartsOf slots new then (set vs id (with_draws v e))
      redrawn new then e same_tally same_footing lives session phase sessions count sized journal turn =
          let w = with_draws v e in
          let t = r.tied id v at in
          let tallies : set ts id (tally_of w) ≡ ts = ap (set ts id) same_tally ∙ same_tallies in
          changed new then r.log r.table r.cells w
          (subst (λ (y : ℕ × Footing). Phase y.0 (set feet id y.1)) (λ k. (sym phase k, sym same_footing k)) same_phase)
          sessions sized journal
          (subst (λ (l : List Tally). TurnOf slots new.turn then (set ds id e) l r.cells r.table now_left) (sym tallies) turn)
          (subst (λ (y : (ℕ → ℕ) × List Tally). Counted y.0 r.cells y.1) (λ k. (sym count k, sym tallies k)) r.counted)
          (steps_same r.start r.log vs r.sifts id v w at lives session refl)
          (record { unshared = λ dead. t.unshared (sym lives ∙ dead); unraised = λ dead. t.unraised (sym lives ∙ dead); zeros = t.zeros; pins = t.pins })
          (λ k. ap (λ (f : ℕ → ℕ). generation_of (f k)) count)
          (subst (λ (f : ℕ → ℕ). Each (IsOfSlot f w) v.counts.generations) (sym count)
          (each_map (IsOfSlot ws.count v) (IsOfSlot ws.count w) (λ g right named_now. right (subst (λ (t : Tally). 0 < row_count g.slot t.rows + held_count g.slot t.counts.raised) same_tally named_now)) v.counts.generations (r.generations id v at)))
          (subst (λ (t : Tally). Each (IsOfRow ws.count) t.rows) (sym same_tally) (r.row_generations id v at))

      none_holds : ws.turn ≡ 0 → (i : ℕ) (f : Draws) → get_elem? ds i ≡ some f → f.holds ≡ true → ⊥
      none_holds free i f there held = let a = held_turn ws.journal ws.turn ds r.start r.log r.table j i f there held in omega (arith, a, free)

      pub turn_is : d.holds ≡ true → ws.turn ≢ 0
      turn_is holds z = none_holds z id d here holds

      pub holder : (i : ℕ) (f : Draws) → get_elem? ds i ≡ some f → f.holds ≡ true → d.holds ≡ true → i ≡ id
      holder i f there h holds = one_holder ws.journal ws.turn ds r.start r.log r.table j i id f d there here h holds

      -- the free turn is taken
      pub taken : (functions : S → List Function) (then : Option (Option (std.Option S))) → d.live ≡ true → ws.turn ≡ 0
          → (x : S) × (others : List Held) × (home ≡ some (some (std.Some x))) × (length (board x) ≡ CELLS) × Serves keeps_it board counts orders x (holding d (board x) others (orders x) (functions x)) v.counts
          × PartsOf slots (record ws { turn = suc d.session }) then (set vs id (with_draws v (holding d (board x) others (orders x) (functions x))))
      taken functions then live free =
          let part : TurnOf slots 0 home ds ts r.cells r.table now_left = subst (λ (n : ℕ). TurnOf slots n home ds ts r.cells r.table now_left) free r.turn in
          let sizes : r.table.sizes ≡ sizes_for d.vars d.elements = ((j.each id d here).live live).agrees.sizes_are in
          let t = finds_it keeps_it board counts orders slots home ds ts r.cells r.table now_left id v functions part tally sizes ((r.sized id d here).0 live).0 in
          let home_of = t.3 in
          let x : S = t.0 in
          let others : List Held = t.1 in
          let e : Draws = holding d (board x) others (orders x) (functions x) in
          let as_many : length (board x) ≡ CELLS = ap (λ (l : List (std.Option Held)). length l) home_of.board_is ∙ r.counted.few_cells in
          let table_board = part.cells_are ∙ ap (λ (l : List (std.Option Held)). cell_at r.table.sizes l) (sym home_of.board_is) in (
            x,
            others,
            t.2,
            as_many,
            t.4,
            redrawn (record ws { turn = suc d.session }) then e (refl {a = tally_of v}) (refl {a = footing_of v}) (refl {a = d.live}) (refl {a = d.session}) (refl {a = ws.phase}) (refl {a = ws.sessions}) (refl {a = ws.count}) (r.sized id d here)
                (takes_it ws.journal ws.turn ds r.start r.log r.table j id d (board x) others (orders x) (functions x) here live free table_board as_many)
                (away_with keeps_it board counts orders slots (suc d.session) id then ds ts r.cells (board x) r.table now_left (orders x) d others (functions x) home_of.orders_are home_of.board_is part.cells_are (λ e. omega (arith, e)) (none_holds free) t.5),
          )

      -- by the entries alone, once no seat is live
      pub all_placed : d.closing ≡ true → AllBack d → ArePlaced (IsHadAt r.start r.log) r.log
      all_placed is back i e there = each_map (IsPlaced (IsAtPlace r.start r.log vs) (entries_of e.session (take i r.log)) i) (IsPlaced (IsHadAt r.start r.log) (entries_of e.session (take i r.log)) i)
          (λ f p. record {
            place = p.place;
            within = p.within;
            later = p.later;
            is = ⊎_elim (λ had. had) (λ (x : IsRaised r.start (drop p.place r.log) vs f).
                absurd (true≢false (sym x.live ∙ none_live ws.journal ws.turn ds r.start r.log r.table j id d here is back x.id x.view.draws (at_map (λ (v : View). v.draws) vs x.id x.view x.at)))) p.is;
          })
          (carried_by e.call) (r.sifts.carried i e there)

      -- it is taken for good, once all sessions have come back
      pub taken_last : (then : Option (Option (std.Option S))) → d.closing ≡ true → AllBack d → ws.turn ≡ 0
          → (x : S) × (home ≡ some (some (std.Some x))) × Ends keeps_it board counts orders x d × PartsOf slots (record ws { turn = CLOSING_TURN }) then vs
      unfolding whole_of
      taken_last then is back free =
          let part : TurnOf slots 0 home ds ts r.cells r.table now_left = subst (λ (n : ℕ). TurnOf slots n home ds ts r.cells r.table now_left) free r.turn in
          let h = part.home_is refl in
          let x : S = h.0 in
          let home_of = h.2 in
          let sizes = ((j.each id d here).closing is).2.start_is in (
            x,
            h.1,
            record {
              rows_kept = (home_of.kept id (tally_of v) tally).rows;
              cells_kept = subst (λ (l : List (std.Option Held)). Each (IsKeptCell keeps_it board counts orders x) l) (sym home_of.board_is) home_of.cells_kept;
              counts_are = home_of.counts_are ∙ ap₂ (λ (z : Sizes) (n : ℕ). (z.variables, z.elements, n)) (j.fixed ∙ sizes) (sym ((r.sized id d here).1 is).0);
              calls = ws.journal;
              whole = whole_of ws.journal ws.turn ds r.start r.log r.table j id d here is (all_placed is);
              orders_are = home_of.orders_are ∙ ap (λ (z : Sizes). orders_from (opening_orders z) r.log) sizes;
            },
            record {
              start = r.start;
              sessions = r.sessions;
              log = r.log;
              table = r.table;
              cells = r.cells;
              journal = turns ws.journal ws.turn ds r.start r.log r.table j CLOSING_TURN free;
              turn = record {
                home_is = λ z. absurd (omega (arith, z));
                cells_are = part.cells_are;
                held = λ i f there held. absurd (none_holds free i f there held);
                away = λ i f there held. absurd (none_holds free i f there held);
                ordered = λ i f there held. absurd (none_holds free i f there held);
              };
              counted = r.counted;
              sifts = r.sifts;
              generations = r.generations;
              row_generations = r.row_generations;
              sized = r.sized;
              sessions_are = r.sessions_are;
              phase = r.phase;
              tied = r.tied;
            },
          )

      -- it is given back
      pub given_back : (x : S) (leaving : Leaving) → d.holds ≡ true → Serves keeps_it board counts orders x d v.counts → PartsOf slots (record ws { turn = 0 }) (some (some (std.Some x))) (set vs id (with_draws v (letting_go d leaving)))
      given_back x leaving holds serves =
          let live = (j.each id d here).holder holds in
          let agrees = ((j.each id d here).live live).agrees in
          redrawn (record ws { turn = 0 }) (some (some (std.Some x))) (letting_go d leaving) (refl {a = tally_of v}) (refl {a = footing_of v}) (refl {a = d.live}) (refl {a = d.session}) (refl {a = ws.phase}) (refl {a = ws.sessions}) (refl {a = ws.count}) (r.sized id d here)
          (gives_it ws.journal ws.turn ds r.start r.log r.table j id d leaving here live holds)
          (comes_home keeps_it board counts orders slots ws.turn id home ds ts r.cells r.table now_left v x leaving r.turn here tally holds
          (λ i f there h. holder i f there h holds)
          (λ i k u apart there found. alone ws.count r.cells ts r.counted id i k (tally_of v) u apart tally there found)
          agrees.sizes_are ((r.sized id d here).0 live).0 serves)

      -- a call draws its place, and is told the orders there
      pub placed : (x : Telling) → d.live ≡ true → length d.entries < 2 ^ 48 → MayTell d x → MayMove d v.counts x → PartsOf slots (record ws { journal = suc (length r.log) }) home (set vs id (moved now_left v (length r.log) x))
      placed x live room may moves =
          let n : ℕ = length r.log in
          let w : View = moved now_left v n x in
          let me = mine ws.journal ws.turn ds r.start r.log r.table j id d here live in
          let says = may.step r.table me.agrees in
          let log : List Entry = r.log ++ entry n d.session x.call x.reply ∷ [] in
          let u : Table = after r.table d.session x.call x.reply in
          let then_left : orders_from (opening_orders r.start) log ≡ orders_after now_left x.call x.reply = orders_from-append (opening_orders r.start) r.log (entry n d.session x.call x.reply ∷ []) in
          let way : LeavesBoard x.change ⊎ (d.cells ≡ r.cells) = by_bool d.holds (λ holds. inr (r.turn.held id d here holds)) (λ without. inl (moves.boardless without)) in
          let up : HasRaised x.change r.cells v.counts = (moves.up.0, moves.up.1, fits_cells x.change d.cells r.cells way moves.up.2) in
          let tallied : tally_of w ≡ tally_after x.change r.cells (tally_of v) = ap (λ (o : List Held). record (tally_of w) { counts = record v.counts { raised = []; owed = o; above = [] } }) (lost_cells x.change d.cells r.cells d.rows way) in
          let t = r.tied id v at in
          let turn_part : TurnOf slots ws.turn home (set ds id (told_with now_left d n x)) (set ts id (tally_after x.change r.cells (tally_of v))) (cells_after x.change r.cells) u (orders_after now_left x.call x.reply) =
          by_bool d.holds
          (λ holds. draws_away keeps_it board counts orders slots ws.turn id home ds ts r.cells r.table u now_left now_left v n x r.turn here holds (turn_is holds) (says.1.cells holds).0 (λ i f there h. holder i f there h holds))
          (λ without. draws_aside keeps_it board counts orders slots ws.turn id home ds ts r.cells r.table u now_left now_left v n x r.turn here tally without (moves.boardless without) up
          (after_cells r.table d.session x.call x.reply may.plain (may.board without)) (says.1.sizes_are ∙ sym me.agrees.sizes_are) (orders_stay now_left x.call x.reply may.plain (may.orders without))) in
          changed (record ws { journal = suc n }) home log u (cells_after x.change r.cells) w same_phase refl (r.sized id d here)
          (draws_it ws.journal ws.turn ds r.start r.log r.table j id d x now_left here live room may refl (r.turn.ordered id d here))
          (subst (λ (y : Tally × Orders). TurnOf slots ws.turn home (set ds id (told_with now_left d n x)) (set ts id y.0) (cells_after x.change r.cells) u y.1) (λ k. (sym tallied k, sym then_left k)) turn_part)
          (subst (λ (y : Tally). Counted ws.count (cells_after x.change r.cells) (set ts id y)) (sym tallied) (draws_counts ws.count r.cells ts r.counted id (tally_of v) x.change tally up moves.quiet))
          (draws_sifted r.start r.log vs r.sifts id v w x.call x.reply r.table at live
          (λ i f there l is. one_session ws.journal ws.turn ds r.start r.log r.table j i id f.draws d (at_map (λ (v : View). v.draws) vs i f there) here l live is)
          j.leaves refl refl refl
          (subst (λ (l : List Held). Each (λ (held : Held). Gains r.table d.session x.call x.reply (at_sizes r.start held.function)) l) (sym moves.up.0)
          (subst (λ (z : Sizes). Each (λ (held : Held). Gains r.table d.session x.call x.reply (at_sizes z held.function)) (gained x.change)) j.fixed (gains_it d r.table v.counts x may moves me.agrees)))
          (subst (λ (z : Sizes). Each (λ (held : Held). Loses r.table d.session x.call (at_sizes z held.function)) (lost x.change d.cells d.rows)) j.fixed (loses_it d r.table v.counts x may moves me.agrees me.stand))
          moves.carries)
          (record { unshared = t.unshared; unraised = λ dead. absurd (true≢false (sym live ∙ dead)); zeros = t.zeros; pins = t.pins })
          (λ k. refl)
          (each_map (IsOfSlot ws.count v) (IsOfSlot ws.count w) (λ g right named_now. right (names_before v w x refl refl moves.up.0 g.slot named_now)) v.counts.generations (r.generations id v at))
          (aged_after ws.count v x.change moves.up moves.aged (r.generations id v at) (r.row_generations id v at))

      -- the orders are noted
      pub noted_now : d.holds ≡ true → PartsOf slots ws home (set vs id (with_draws v (noting d ws.journal)))
      noted_now holds =
          redrawn ws home (noting d ws.journal) (refl {a = tally_of v}) (refl {a = footing_of v}) (refl {a = d.live}) (refl {a = d.session}) (refl {a = ws.phase}) (refl {a = ws.sessions}) (refl {a = ws.count}) (r.sized id d here)
          (notes_it ws.journal ws.turn ds r.start r.log r.table j id d here holds (r.turn.ordered id d here holds))
          (stays_so keeps_it board counts orders slots ws.turn home ds (set ds id (noting d ws.journal)) ts ts r.cells r.table now_left r.turn
          (each_set (λ i (f : Draws). f.holds ≡ true → IsHolder keeps_it board counts orders slots ds i f) ds id (noting d ws.journal) (λ i f apart lies h. (f, lies, h, refl, refl, refl)) (λ h. (d, here, holds, refl, refl, refl)))
          (λ i u there P all. all i u there)
          (λ i f lies h k u off_i there P all. all k u off_i there))
