-- Each kind of step on a count word, the draw, and a seat given or taken in keep the part of the counts.
use Rattle.std.proofs.Common.{◌≡◌, ◌≢◌, ℕ, zero, suc, ◌+◌, ◌-◌, ◌*◌, ◌^◌, ◌<◌, ◌≤◌, ◌==◌, Bool, true, false, cond, List, [], ◌∷◌, ◌++◌, length, set, refl, ap, sym, subst, ◌∙◌, arith, eq-eqb, ne_eqb, eqb-true, length-set}
use Rattle.std.specs.Prelude as std
use Rattle.std.specs.Prelude.{slice_get, slice_set}
use mathlib.Core.Logic.{dite}
use mathlib.Core.Option.{some, some-injective, some-ne-none}
use native.Mathlib.Decide.{ℕ_discrete}
use lib.ListN.{get_elem?}
use Rattle.edge_bits.specs.declared.limits.TheConstants.{CELLS, MOST_ROWS, MOST_SESSIONS}
use Rattle.handle_count.specs.CountWords.{count_of}
use Rattle.function_laws.specs.declared.history.Name.{Name}
use Rattle.function_laws.specs.Tables.{same_name}
use Rattle.seat_guard.specs.declared.view.Held.{Held}
use Rattle.seat_guard.specs.declared.view.Row.{Row}
use Rattle.seat_guard.specs.declared.view.Change.{Change}
use Rattle.seat_guard.specs.declared.view.Change.TheVariants.{Nothing, Adds, Takes, Posts}
use Rattle.seat_guard.specs.Totals.{total}
use Rattle.seat_guard.specs.Tallies.{Tally, Counted, FitsBoard, HasRaised, IsSmall, NotesNothing, cells_after, cells_count, found_at, gained, held_count, in_cell, lost, lowered_by, named, no_counts, one_if, paid, parts, pinned_by, raised_by, refs, row_count, rows_after, size, tally_after, times, unpinned, unpinned_by, without}
use Rattle.seat_guard.specs.declared.view.Counts.{Counts}
use Rattle.seat_guard.proofs.Lists.{each_more, each_set}
use Rattle.seat_guard.proofs.Totals.{total-append, total-has, total-set, total-two}

-- the rows of a name go to what is owed
pub taken-rows : (k : ℕ) (name : Name) (rows : List Row) → row_count k (without name rows) + held_count k (named name rows) ≡ row_count k rows
taken-rows k name [] = refl
taken-rows k name (row ∷ rows) = by (same_name row.name name) (taken-rows k name rows)
  where
    by : (b : Bool) → row_count k (without name rows) + held_count k (named name rows) ≡ row_count k rows
        → row_count k (cond b (without name rows) (row ∷ without name rows)) + held_count k (cond b (row.held ∷ named name rows) (named name rows)) ≡ one_if (row.held.edge.index == k) + row_count k rows
    by true r = omega (arith, r)
    by false r = omega (arith, r)

taken-length : (name : Name) (rows : List Row) → length (without name rows) + length (named name rows) ≡ length rows
taken-length name [] = refl
taken-length name (row ∷ rows) = by (same_name row.name name) (taken-length name rows)
  where
    by : (b : Bool) → length (without name rows) + length (named name rows) ≡ length rows
        → length (cond b (without name rows) (row ∷ without name rows)) + length (cond b (row.held ∷ named name rows) (named name rows)) ≡ suc (length rows)
    by true r = omega (arith, r)
    by false r = omega (arith, r)

-- a cell gets another edge, and what was there is owed
posted : (k : ℕ) (cells : List (std.Option Held)) (i : ℕ) (held : Held) → i < length cells
    → cells_count k (slice_set cells i (std.Some held)) + held_count k (in_cell (slice_get cells i)) ≡ cells_count k cells + one_if (held.edge.index == k)
posted k [] i held lt = absurd (omega (arith, lt))
posted k (std.None ∷ cells) zero held lt = omega arith
posted k (std.Some x ∷ cells) zero held lt = omega arith
posted k (std.None ∷ cells) (suc i) held lt = posted k cells i held (omega (arith, lt))
posted k (std.Some x ∷ cells) (suc i) held lt = let r = posted k cells i held (omega (arith, lt)) in omega (arith, r)

in_cell-few : (o : std.Option (std.Option Held)) → length (in_cell o) ≤ 1
in_cell-few std.None = omega arith
in_cell-few (std.Some std.None) = omega arith
in_cell-few (std.Some (std.Some x)) = omega arith

-- the draw moves counts, and changes none
draw_refs : (k : ℕ) (change : Change) (cells : List (std.Option Held)) (t : Tally) → HasRaised change cells t.counts
    → refs k (tally_after change cells t) + cells_count k (cells_after change cells) ≡ refs k t + cells_count k cells
draw_refs k change cells t up =
    let r : held_count k t.counts.raised ≡ held_count k (gained change) = ap (held_count k) up.0 in
    let o : held_count k t.counts.owed ≡ 0 = ap (held_count k) up.1 in
    let m = moved change up.2 in
    omega (arith, r, o, m)
  where
    moved : (change : Change) → FitsBoard change cells → row_count k (rows_after change t.rows) + held_count k (lost change cells t.rows) + cells_count k (cells_after change cells) ≡ row_count k t.rows + held_count k (gained change) + cells_count k cells
    moved Nothing fits = omega arith
    moved (Adds row) fits = omega arith
    moved (Takes name) fits = let r = taken-rows k name t.rows in omega (arith, r)
    moved (Posts i held) fits = let p = posted k cells i held fits in omega (arith, p)

draw_size : (change : Change) (cells : List (std.Option Held)) (t : Tally) → HasRaised change cells t.counts → size (tally_after change cells t) ≤ size t
draw_size change cells t up =
    let r : length t.counts.raised ≡ length (gained change) = ap (λ (l : List Held). length l) up.0 in
    let m = moved change in omega (arith, r, m)
  where
    moved : (change : Change) → length (rows_after change t.rows) + length (lost change cells t.rows) ≤ length t.rows + length (gained change)
    moved Nothing = omega arith
    moved (Adds row) = omega arith
    moved (Takes name) = let r = taken-length name t.rows in omega (arith, r)
    moved (Posts i held) = let f = in_cell-few (slice_get cells i) in omega (arith, f)

cells_stay : (change : Change) (cells : List (std.Option Held)) (t : Tally) → NotesNothing change t.counts → (k : ℕ) → 0 < times k t.counts.zeros → cells_count k (cells_after change cells) ≡ cells_count k cells
cells_stay Nothing cells t quiet k zeros = refl
cells_stay (Adds row) cells t quiet k zeros = refl
cells_stay (Takes name) cells t quiet k zeros = refl
cells_stay (Posts i held) cells t quiet k zeros = absurd (let e : times k t.counts.zeros ≡ 0 = ap (times k) quiet in omega (arith, e, zeros))

cells_long : (change : Change) (cells : List (std.Option Held)) → length (cells_after change cells) ≡ length cells
cells_long Nothing cells = refl
cells_long (Adds row) cells = refl
cells_long (Takes name) cells = refl
cells_long (Posts i held) cells = length-set cells i (std.Some held)

-- one that is owed goes
paid-held : (j k : ℕ) (xs : List Held) → 0 < held_count k xs → held_count j (paid k xs) + one_if (k == j) ≡ held_count j xs
paid-held j k [] some_owed = absurd (omega (arith, some_owed))
paid-held j k (x ∷ xs) some_owed = by (λ more. paid-held j k xs more) (x.edge.index == k) refl
  where
    by : (0 < held_count k xs → held_count j (paid k xs) + one_if (k == j) ≡ held_count j xs) → (b : Bool) → (x.edge.index == k) ≡ b → held_count j (cond b xs (x ∷ paid k xs)) + one_if (k == j) ≡ one_if (x.edge.index == j) + held_count j xs
    by rest true is = let e : one_if (x.edge.index == j) ≡ one_if (k == j) = ap (λ (i : ℕ). one_if (i == j)) (eqb-true x.edge.index k is) in omega (arith, e)
    by rest false is = let e : one_if (x.edge.index == k) ≡ 0 = ap one_if is in let r = rest (omega (arith, some_owed, e)) in omega (arith, r)

paid-length : (k : ℕ) (xs : List Held) → length (paid k xs) ≤ length xs
paid-length k [] = omega arith
paid-length k (x ∷ xs) = by (x.edge.index == k) (paid-length k xs)
  where
    by : (b : Bool) → length (paid k xs) ≤ length xs → length (cond b xs (x ∷ paid k xs)) ≤ suc (length xs)
    by true le = omega arith
    by false le = omega (arith, le)

unpinned-times : (j k : ℕ) (xs : List ℕ) → 0 < times k xs → times j (unpinned k xs) + one_if (k == j) ≡ times j xs
unpinned-times j k [] some_pin = absurd (omega (arith, some_pin))
unpinned-times j k (x ∷ xs) some_pin = by (λ more. unpinned-times j k xs more) (x == k) refl
  where
    by : (0 < times k xs → times j (unpinned k xs) + one_if (k == j) ≡ times j xs) → (b : Bool) → (x == k) ≡ b → times j (cond b xs (x ∷ unpinned k xs)) + one_if (k == j) ≡ one_if (x == j) + times j xs
    by rest true is = let e : one_if (x == j) ≡ one_if (k == j) = ap (λ (i : ℕ). one_if (i == j)) (eqb-true x k is) in omega (arith, e)
    by rest false is = let e : one_if (x == k) ≡ 0 = ap one_if is in let r = rest (omega (arith, some_pin, e)) in omega (arith, r)

module _ (count : ℕ → ℕ) (cells : List (std.Option Held)) (ts : List Tally) (r : Counted count cells ts) where
  abbrev Still : (ℕ → ℕ) → ℕ → Tally → Type 0
  Still c i t = (k : ℕ) → 0 < times k t.counts.zeros → count_of (c k) ≡ refs k t

  -- who found the count of k at 0 holds it alone: no other seat holds it, and no cell names it
  pub alone : (i j k : ℕ) (t u : Tally) → j ≢ i → get_elem? ts i ≡ some t → get_elem? ts j ≡ some u → 0 < times k t.counts.zeros → refs k u ≡ 0
  alone i j k t u apart a b zeros = let two = total-two (refs k) ts i j t u apart a b in let now = r.counted k in let e = r.still i t a k zeros in omega (arith, two, now, e)

  pub no_cell : (i k : ℕ) (t : Tally) → get_elem? ts i ≡ some t → 0 < times k t.counts.zeros → cells_count k cells ≡ 0
  no_cell i k t a zeros = let one = total-has (refs k) ts i t a in let now = r.counted k in let e = r.still i t a k zeros in omega (arith, one, now, e)

  -- a view that holds what it held, and notes no more at 0, changes nothing
  pub recounts : (id : ℕ) (t w : Tally) → get_elem? ts id ≡ some t → ((k : ℕ) → refs k w ≡ refs k t) → w.sessions ≡ t.sessions → w.parts ≡ t.parts → ((k : ℕ) → 0 < times k w.counts.zeros → 0 < times k t.counts.zeros) → ((k : ℕ) → times k w.counts.pins ≡ times k t.counts.pins) → size w ≤ size t
      → Counted count cells (set ts id w)
  recounts id t w at same sessions same_parts fewer pins less = record {
    counted = λ k. let now = r.counted k in let s = total-set (refs k) ts id t w at in let e = same k in omega (arith, now, s, e);
    most = let s = total-set parts ts id t w at in let m = r.most in omega (arith, s, m, same_parts);
    few_cells = r.few_cells;
    small = each_set (λ i (u : Tally). IsSmall u) ts id w (λ i u apart there. r.small i u there) (let s = r.small id t at in let a = s.0 in let b = s.1 in (omega (arith, a, less, sessions), omega (arith, b, sessions, same_parts)));
    pinned = each_set (λ i (u : Tally). (k : ℕ) → times k u.counts.pins ≤ u.sessions) ts id w (λ i u apart there. r.pinned i u there) (λ k. let p = r.pinned id t at k in let e = pins k in omega (arith, p, e, sessions));
    still = each_set (Still count) ts id w (λ i u apart there. r.still i u there) (λ k zeros. r.still id t at k (fewer k zeros) ∙ sym (same k));
  }

  -- a call draws its place: the count words stay
  pub draws_counts : (id : ℕ) (t : Tally) (change : Change) → get_elem? ts id ≡ some t → HasRaised change cells t.counts → NotesNothing change t.counts → Counted count (cells_after change cells) (set ts id (tally_after change cells t))
  draws_counts id t change at up quiet =
      let w = tally_after change cells t in record {
        counted = λ k. let now = r.counted k in let d = draw_refs k change cells t up in let s = total-set (refs k) ts id t w at in omega (arith, now, d, s);
        most = let s = total-set parts ts id t w at in let m = r.most in omega (arith, s, m);
        few_cells = cells_long change cells ∙ r.few_cells;
        small = each_set (λ i (u : Tally). IsSmall u) ts id w (λ i u apart there. r.small i u there) (let s = r.small id t at in let a = s.0 in let l = draw_size change cells t up in (omega (arith, a, l), s.1));
        pinned = each_set (λ i (u : Tally). (k : ℕ) → times k u.counts.pins ≤ u.sessions) ts id w (λ i u apart there. r.pinned i u there) (λ k. r.pinned id t at k);
        still = each_set (Still count) ts id w (λ i u apart there. r.still i u there)
            (λ k zeros. let z : 0 < times k t.counts.zeros = zeros in let e = r.still id t at k z in
            let d = draw_refs k change cells t up in let none_there = no_cell id k t at z in let same = cells_stay change cells t quiet k z in
            let now = r.counted k in let s = total-set (refs k) ts id t w at in
            omega (arith, e, d, none_there, now, s, same));
      }

  -- The count of one slot and what one seat holds of it change alike. Nobody else found the slot's count at 0.
  pub steps_at : (id k : ℕ) (t w : Tally) (c : ℕ → ℕ) → get_elem? ts id ≡ some t → count_of (c k) + refs k t ≡ count_of (count k) + refs k w → ((j : ℕ) → j ≢ k → c j ≡ count j) → ((j : ℕ) → j ≢ k → refs j w ≡ refs j t)
      → ((j : ℕ) → times j w.counts.zeros ≡ times j t.counts.zeros) → w.parts ≡ t.parts → IsSmall w → ((j : ℕ) → times j w.counts.pins ≤ w.sessions)
      → ((i : ℕ) (u : Tally) → i ≢ id → get_elem? ts i ≡ some u → 0 < times k u.counts.zeros → ⊥)
      → Counted c cells (set ts id w)
  steps_at id k t w c at here others aside zeros same_parts small pins nobody =
      let alike : (j : ℕ) → count_of (c j) + refs j t ≡ count_of (count j) + refs j w = λ j. dite (ℕ_discrete j k)
      (λ is. subst (λ (m : ℕ). count_of (c m) + refs m t ≡ count_of (count m) + refs m w) (sym is) here)
      (λ apart. let o : count_of (c j) ≡ count_of (count j) = ap count_of (others j apart) in let e = aside j apart in omega (arith, o, e)) in
      record {
        counted = λ j. let s = total-set (refs j) ts id t w at in let now = r.counted j in let e = alike j in omega (arith, s, now, e);
        most = let s = total-set parts ts id t w at in let m = r.most in omega (arith, s, m, same_parts);
        few_cells = r.few_cells;
        small = each_set (λ i (u : Tally). IsSmall u) ts id w (λ i u apart there. r.small i u there) small;
        pinned = each_set (λ i (u : Tally). (j : ℕ) → times j u.counts.pins ≤ u.sessions) ts id w (λ i u apart there. r.pinned i u there) pins;
        still = each_set (Still c) ts id w
            (λ i u apart there j found. dite (ℕ_discrete j k) (λ is. absurd (nobody i u apart there (subst (λ (m : ℕ). 0 < times m u.counts.zeros) is found))) (λ off. ap count_of (others j off) ∙ r.still i u there j found))
            (λ j found. let z = zeros j in let e = r.still id t at j (omega (arith, z, found)) in let a = alike j in omega (arith, e, a));
      }

  -- who has a row that names the slot, or the board with a cell that names it, may count it up: nobody noted it at 0
  pub by_row : (id : ℕ) (t : Tally) (k : ℕ) → get_elem? ts id ≡ some t → 0 < refs k t → (i : ℕ) (u : Tally) → i ≢ id → get_elem? ts i ≡ some u → 0 < times k u.counts.zeros → ⊥
  by_row id t k at some_ref i u apart there zeros = let z = alone i id k u t (λ e. apart (sym e)) there at zeros in omega (arith, z, some_ref)

  pub by_cell : (k : ℕ) → 0 < cells_count k cells → (i : ℕ) (u : Tally) → get_elem? ts i ≡ some u → 0 < times k u.counts.zeros → ⊥
  by_cell k some_cell i u there zeros = let z = no_cell i k u there zeros in omega (arith, z, some_cell)

  -- A slot is counted up: by who may.
  pub raises : (id : ℕ) (t : Tally) (held : Held) (g : ℕ) (c : ℕ → ℕ) → get_elem? ts id ≡ some t → size t < t.sessions * MOST_ROWS
      → count_of (c held.edge.index) ≡ suc (count_of (count held.edge.index)) → ((j : ℕ) → j ≢ held.edge.index → c j ≡ count j)
      → ((i : ℕ) (u : Tally) → i ≢ id → get_elem? ts i ≡ some u → 0 < times held.edge.index u.counts.zeros → ⊥)
      → Counted c cells (set ts id (record t { counts = raised_by held g t.counts }))
  raises id t held g c at room up others nobody =
      let k : ℕ = held.edge.index in
      let one : one_if (k == k) ≡ 1 = ap one_if (eq-eqb k k refl) in
      steps_at id k t (record t { counts = raised_by held g t.counts }) c at (omega (arith, one, up)) others
      (λ j apart. let e : one_if (k == j) ≡ 0 = ap one_if (ne_eqb k j (λ s. apart (sym s))) in omega (arith, e))
      (λ j. refl) refl (omega (arith, room), (r.small id t at).1) (r.pinned id t at) nobody

  -- what is owed is counted down
  pub pays : (id : ℕ) (t : Tally) (k : ℕ) (c : ℕ → ℕ) → get_elem? ts id ≡ some t → 0 < held_count k t.counts.owed
      → suc (count_of (c k)) ≡ count_of (count k) → ((j : ℕ) → j ≢ k → c j ≡ count j)
      → Counted c cells (set ts id (record t { counts = lowered_by k t.counts }))
  pays id t k c at owed down others =
      let p = paid-held k k t.counts.owed owed in let one : one_if (k == k) ≡ 1 = ap one_if (eq-eqb k k refl) in
      let s = (r.small id t at).0 in let len = paid-length k t.counts.owed in
      steps_at id k t (record t { counts = lowered_by k t.counts }) c at (omega (arith, p, one, down)) others
      (λ j apart. let q = paid-held j k t.counts.owed owed in let e : one_if (k == j) ≡ 0 = ap one_if (ne_eqb k j (λ s. apart (sym s))) in omega (arith, q, e))
      (λ j. refl) refl (omega (arith, s, len), (r.small id t at).1) (r.pinned id t at)
      (by_row id t k at (omega (arith, owed)))

  -- one pin more
  pub pins_it : (id : ℕ) (t : Tally) (k : ℕ) (c : ℕ → ℕ) → get_elem? ts id ≡ some t → times k t.counts.pins ≡ 0 → 0 < t.sessions
      → count_of (c k) ≡ suc (count_of (count k)) → ((j : ℕ) → j ≢ k → c j ≡ count j)
      → ((i : ℕ) (u : Tally) → i ≢ id → get_elem? ts i ≡ some u → 0 < times k u.counts.zeros → ⊥)
      → Counted c cells (set ts id (record t { counts = pinned_by k t.counts }))
  pins_it id t k c at unpinned_yet session up others nobody =
      let one : one_if (k == k) ≡ 1 = ap one_if (eq-eqb k k refl) in
      let aside : (j : ℕ) → j ≢ k → one_if (k == j) ≡ 0 = λ j apart. ap one_if (ne_eqb k j (λ s. apart (sym s))) in
      steps_at id k t (record t { counts = pinned_by k t.counts }) c at (omega (arith, one, up)) others
      (λ j apart. let e = aside j apart in omega (arith, e))
      (λ j. refl) refl (r.small id t at)
      (λ j. dite (ℕ_discrete j k)
      (λ is. subst (λ (m : ℕ). one_if (k == m) + times m t.counts.pins ≤ t.sessions) (sym is) (omega (arith, one, unpinned_yet, session)))
      (λ off. let e = aside j off in let p = r.pinned id t at j in omega (arith, e, p)))
      nobody

  -- one pin less
  pub unpins_it : (id : ℕ) (t : Tally) (k : ℕ) (c : ℕ → ℕ) → get_elem? ts id ≡ some t → 0 < times k t.counts.pins
      → suc (count_of (c k)) ≡ count_of (count k) → ((j : ℕ) → j ≢ k → c j ≡ count j)
      → Counted c cells (set ts id (record t { counts = unpinned_by k t.counts }))
  unpins_it id t k c at has_pin down others =
      let p = unpinned-times k k t.counts.pins has_pin in let one : one_if (k == k) ≡ 1 = ap one_if (eq-eqb k k refl) in
      steps_at id k t (record t { counts = unpinned_by k t.counts }) c at (omega (arith, p, one, down)) others
      (λ j apart. let q = unpinned-times j k t.counts.pins has_pin in let e : one_if (k == j) ≡ 0 = ap one_if (ne_eqb k j (λ s. apart (sym s))) in omega (arith, q, e))
      (λ j. refl) refl (r.small id t at)
      (λ j. let q = unpinned-times j k t.counts.pins has_pin in let m = r.pinned id t at j in omega (arith, q, m))
      (by_row id t k at (omega (arith, has_pin)))

  -- a count is found at 0
  pub notes_zero : (id : ℕ) (t : Tally) (k g : ℕ) → get_elem? ts id ≡ some t → count_of (count k) ≡ 0 → Counted count cells (set ts id (record t { counts = record (found_at k g t.counts) { zeros = k ∷ t.counts.zeros } }))
  notes_zero id t k g at found =
      let w = record t { counts = record (found_at k g t.counts) { zeros = k ∷ t.counts.zeros } } in
      record {
        counted = λ j. let s = total-set (refs j) ts id t w at in let now = r.counted j in omega (arith, s, now);
        most = let s = total-set parts ts id t w at in let m = r.most in omega (arith, s, m);
        few_cells = r.few_cells;
        small = each_set (λ i (u : Tally). IsSmall u) ts id w (λ i u apart there. r.small i u there) (r.small id t at);
        pinned = each_set (λ i (u : Tally). (k : ℕ) → times k u.counts.pins ≤ u.sessions) ts id w (λ i u apart there. r.pinned i u there) (r.pinned id t at);
        still = each_set (Still count) ts id w (λ i u apart there. r.still i u there)
            (λ j zeros. dite (ℕ_discrete j k)
            (λ is. subst (λ (m : ℕ). count_of (count m) ≡ refs m t) (sym is) (let one = total-has (refs k) ts id t at in let now = r.counted k in omega (arith, one, now, found)))
            (λ off. r.still id t at j (let e : one_if (k == j) ≡ 0 = ap one_if (ne_eqb k j (λ s. off (sym s))) in omega (arith, e, zeros))));
      }

  -- a seat is given: another takes parts of the first, and has nothing
  pub counted_more : (id : ℕ) (t a b : Tally) → get_elem? ts id ≡ some t
      → ((k : ℕ) → refs k a ≡ refs k t) → size a ≤ size t → a.sessions ≡ t.sessions → a.counts ≡ t.counts
      → ((k : ℕ) → refs k b ≡ 0) → size b ≡ 0 → ((k : ℕ) → times k b.counts.pins ≡ 0) → ((k : ℕ) → times k b.counts.zeros ≡ 0)
      → a.parts + b.parts ≡ t.parts → a.sessions ≤ a.parts → b.sessions ≤ b.parts → Counted count cells (set ts id a ++ b ∷ [])
  counted_more id t a b at same less sessions counts none_b size_b pins_b zeros_b shared fit_a fit_b =
      let pins : (k : ℕ) → times k a.counts.pins ≡ times k t.counts.pins = λ k. ap (λ (c : Counts). times k c.pins) counts in
      let zeros : (k : ℕ) → times k a.counts.zeros ≡ times k t.counts.zeros = λ k. ap (λ (c : Counts). times k c.zeros) counts in record {
        counted = λ k. let now = r.counted k in let s = total-set (refs k) ts id t a at in let q = total-append (refs k) (set ts id a) b in let e = same k in let n = none_b k in omega (arith, now, s, q, e, n);
        most = let p = total-set parts ts id t a at in let q = total-append parts (set ts id a) b in let m = r.most in omega (arith, p, q, m, shared);
        few_cells = r.few_cells;
        small = each_more (λ i (u : Tally). IsSmall u) (set ts id a) b
            (each_set (λ i (u : Tally). IsSmall u) ts id a (λ i u _ there. r.small i u there) (let s = r.small id t at in let x = s.0 in (omega (arith, x, less, sessions), fit_a)))
            (omega (arith, size_b), fit_b);
        pinned = each_more (λ i (u : Tally). (k : ℕ) → times k u.counts.pins ≤ u.sessions) (set ts id a) b
            (each_set (λ i (u : Tally). (k : ℕ) → times k u.counts.pins ≤ u.sessions) ts id a (λ i u _ there. r.pinned i u there) (λ k. let p = r.pinned id t at k in let e = pins k in omega (arith, p, e, sessions)))
            (λ k. let e = pins_b k in omega (arith, e));
        still = each_more (Still count) (set ts id a) b
            (each_set (Still count) ts id a (λ i u _ there. r.still i u there) (λ k z. let e = zeros k in r.still id t at k (omega (arith, e, z)) ∙ sym (same k)))
            (λ k z. absurd (let e = zeros_b k in omega (arith, e, z)));
      }

  -- a seat is taken in: what it holds goes over, and it has nothing
  pub counted_less : (id other : ℕ) (t u a b : Tally) → get_elem? ts id ≡ some t → get_elem? ts other ≡ some u → get_elem? (set ts id a) other ≡ some u
      → ((k : ℕ) → refs k a ≡ refs k t + refs k u) → size a ≤ size t + size u → a.sessions ≡ t.sessions + u.sessions → ((k : ℕ) → times k a.counts.pins ≡ 0) → ((k : ℕ) → times k a.counts.zeros ≡ 0)
      → ((k : ℕ) → refs k b ≡ 0) → size b ≡ 0 → ((k : ℕ) → times k b.counts.pins ≡ 0) → ((k : ℕ) → times k b.counts.zeros ≡ 0)
      → a.parts + b.parts ≡ t.parts + u.parts → a.sessions ≤ a.parts → b.sessions ≤ b.parts → Counted count cells (set (set ts id a) other b)
  counted_less id other t u a b at here there same less sessions pins zeros none_b size_b pins_b zeros_b shared fit_a fit_b = record {
    counted = λ k. let now = r.counted k in let s = total-set (refs k) ts id t a at in let q = total-set (refs k) (set ts id a) other u b there in let e = same k in let n = none_b k in omega (arith, now, s, q, e, n);
    most = let p = total-set parts ts id t a at in let q = total-set parts (set ts id a) other u b there in let m = r.most in omega (arith, p, q, m, shared);
    few_cells = r.few_cells;
    small = each_set (λ i (y : Tally). IsSmall y) (set ts id a) other b
        (λ i y _ lies. each_set (λ i (y : Tally). IsSmall y) ts id a (λ i y _ there. r.small i y there)
        (let x = (r.small id t at).0 in let x' = (r.small other u here).0 in (omega (arith, x, x', less, sessions), fit_a)) i y lies)
        (omega (arith, size_b), fit_b);
    pinned = each_set (λ i (y : Tally). (k : ℕ) → times k y.counts.pins ≤ y.sessions) (set ts id a) other b
        (λ i y _ lies. each_set (λ i (y : Tally). (k : ℕ) → times k y.counts.pins ≤ y.sessions) ts id a (λ i y _ there. r.pinned i y there) (λ k. let e = pins k in omega (arith, e)) i y lies)
        (λ k. let e = pins_b k in omega (arith, e));
    still = each_set (Still count) (set ts id a) other b
        (λ i y _ lies. each_set (Still count) ts id a (λ i y _ there. r.still i y there) (λ k z. absurd (let e = zeros k in omega (arith, e, z))) i y lies)
        (λ k z. absurd (let e = zeros_b k in omega (arith, e, z)));
  }

times-length : (k : ℕ) (rows : List Row) → row_count k rows ≤ length rows
times-length k [] = omega arith
times-length k (row ∷ rows) = let r = times-length k rows in by (row.held.edge.index == k) (row_count k rows) (length rows) r
  where
    by : (b : Bool) (m n : ℕ) → m ≤ n → one_if b + m ≤ suc n
    by true m n le = omega (arith, le)
    by false m n le = omega (arith, le)

held-length : (k : ℕ) (xs : List Held) → held_count k xs ≤ length xs
held-length k [] = omega arith
held-length k (x ∷ xs) = let r = held-length k xs in by (x.edge.index == k) (held_count k xs) (length xs) r
  where
    by : (b : Bool) (m n : ℕ) → m ≤ n → one_if b + m ≤ suc n
    by true m n le = omega (arith, le)
    by false m n le = omega (arith, le)

cells-length : (k : ℕ) (xs : List (std.Option Held)) → cells_count k xs ≤ length xs
cells-length k [] = omega arith
cells-length k (std.None ∷ xs) = let r = cells-length k xs in omega (arith, r)
cells-length k (std.Some x ∷ xs) = let r = cells-length k xs in by (x.edge.index == k) (cells_count k xs) (length xs) r
  where
    by : (b : Bool) (m n : ℕ) → m ≤ n → one_if b + m ≤ suc n
    by true m n le = omega (arith, le)
    by false m n le = omega (arith, le)

total-most : (k : ℕ) (ts : List Tally) → ((i : ℕ) (t : Tally) → get_elem? ts i ≡ some t → IsSmall t) → ((i : ℕ) (t : Tally) → get_elem? ts i ≡ some t → times k t.counts.pins ≤ t.sessions)
    → total (refs k) ts ≤ total parts ts * (MOST_ROWS + 1)
total-most k [] small pins = omega arith
total-most k (t ∷ ts) small pins =
    let rest = total-most k ts (λ i u at. small (suc i) u at) (λ i u at. pins (suc i) u at) in
    let s = small 0 t refl in let s0 = s.0 in let s1 = s.1 in let p = pins 0 t refl in
    let a = times-length k t.rows in let b = held-length k t.counts.raised in let c = held-length k t.counts.owed in
    omega (arith, rest, s0, s1, p, a, b, c)

-- no count word overflows
pub counts_small : (count : ℕ → ℕ) (cells : List (std.Option Held)) (ts : List Tally) → Counted count cells ts → (k : ℕ) → count_of (count k) < 2 ^ 32 - 1
counts_small count cells ts r k =
    let t = total-most k ts r.small (λ i u at. r.pinned i u at k) in let m = r.most in let now = r.counted k in let c = cells-length k cells in let f = r.few_cells in omega (arith, t, m, now, c, f)

-- the closing seat alone counts nothing
pub counted_one : (cells : List (std.Option Held)) (t : Tally) → length cells ≡ CELLS → ((k : ℕ) → cells_count k cells ≡ 0) → t.parts ≤ MOST_SESSIONS → t.rows ≡ [] → t.counts ≡ no_counts → t.sessions ≤ t.parts → Counted (λ k. 0) cells (t ∷ [])
counted_one cells t len none_there few rows counts fit = record {
  counted = λ k. let n = none_there k in let a = row k in let b = held k in omega (arith, n, a, b);
  most = omega (arith, few);
  few_cells = len;
  small = one (λ (u : Tally). IsSmall u) (let a : length t.rows ≡ 0 = ap (λ (l : List Row). length l) rows in let b : length t.counts.raised ≡ 0 = ap (λ (c : Counts). length c.raised) counts in let c : length t.counts.owed ≡ 0 = ap (λ (c : Counts). length c.owed) counts in (omega (arith, a, b, c), fit));
  pinned = one (λ (u : Tally). (k : ℕ) → times k u.counts.pins ≤ u.sessions) (λ k. let e : times k t.counts.pins ≡ 0 = ap (λ (c : Counts). times k c.pins) counts in omega (arith, e));
  still = one (λ (u : Tally). (k : ℕ) → 0 < times k u.counts.zeros → count_of 0 ≡ refs k u) (λ k zeros. absurd (let e : times k t.counts.zeros ≡ 0 = ap (λ (c : Counts). times k c.zeros) counts in omega (arith, e, zeros)));
}
  where
    row : (k : ℕ) → row_count k t.rows ≡ 0
    row k = ap (row_count k) rows

    held : (k : ℕ) → held_count k t.counts.raised + held_count k t.counts.owed + times k t.counts.pins ≡ 0
    held k = ap (λ (c : Counts). held_count k c.raised + held_count k c.owed + times k c.pins) counts

    one : (F : Tally → Type 0) → F t → (id : ℕ) (u : Tally) → get_elem? (t ∷ []) id ≡ some u → F u
    one F p zero u at = subst F (some-injective t u at) p
    one F p (suc id) u at = absurd (some-ne-none u (sym at))
