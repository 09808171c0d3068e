-- What a seat holds: as a list, and what holds of each edge of it.
use Rattle.std.proofs.Common.{◌≡◌, ℕ, zero, suc, ◌<◌, ◌==◌, Bool, true, false, cond, List, [], ◌∷◌, ◌++◌, map, refl, ap, sym, subst, arith, eq-eqb}
use Rattle.std.specs.Prelude as std
use mathlib.Core.Option.{some, some-injective, some-ne-none}
use lib.ListN.{get_elem?}
use Rattle.atomic_table.proofs.Lists.{at_longer}
use Rattle.function_laws.specs.declared.history.Name.{Name}
use Rattle.function_laws.specs.SessionEntries.{Each}
use Rattle.function_laws.specs.Tables.{same_name}
use Rattle.seat_guard.specs.declared.view.Held.{Held}
use Rattle.seat_guard.specs.declared.view.Row.{Row}
use Rattle.seat_guard.specs.declared.view.Change.{Change}
use Rattle.seat_guard.specs.declared.view.Change.TheVariants.{Nothing, Adds, Takes, Posts}
use Rattle.seat_guard.specs.Moves.{LeavesBoard}
use Rattle.seat_guard.specs.Tallies.{EachHeld, HasRaised, Tally, cells_after, gained, held_count, lost, named, one_if, paid, refs, row_count, rows_after, tally_after, without}
use Rattle.seat_guard.specs.Turn.{Has}
use Rattle.seat_guard.proofs.Lists.{each_append}

module _ (P Q : Held → Type 0) where
  rows_meet : (rows : List Row) → ((h : Held) → 0 < row_count h.edge.index rows → P h → Q h) → Each (λ (row : Row). P row.held) rows → Each (λ (row : Row). Q row.held) rows
  rows_meet [] f all = tt
  rows_meet (row ∷ rows) f all =
      let e : one_if (row.held.edge.index == row.held.edge.index) ≡ 1 = ap one_if (eq-eqb row.held.edge.index row.held.edge.index refl) in
      (f row.held (omega (arith, e)) all.0, rows_meet rows (λ h lt p. f h (omega (arith, lt)) p) all.1)

  helds_meet : (xs : List Held) → ((h : Held) → 0 < held_count h.edge.index xs → P h → Q h) → Each P xs → Each Q xs
  helds_meet [] f all = tt
  helds_meet (x ∷ xs) f all =
      let e : one_if (x.edge.index == x.edge.index) ≡ 1 = ap one_if (eq-eqb x.edge.index x.edge.index refl) in
      (f x (omega (arith, e)) all.0, helds_meet xs (λ h lt p. f h (omega (arith, lt)) p) all.1)

  -- of each slot that it holds
  pub meets : (t : Tally) → ((h : Held) → 0 < refs h.edge.index t → P h → Q h) → EachHeld P t → EachHeld Q t
  meets t f e = record {
    rows = rows_meet t.rows (λ h lt p. f h (omega (arith, lt)) p) e.rows;
    raised = helds_meet t.counts.raised (λ h lt p. f h (omega (arith, lt)) p) e.raised;
    owed = helds_meet t.counts.owed (λ h lt p. f h (omega (arith, lt)) p) e.owed;
  }

-- as a list

abbrev edges_of : Tally → List Held
edges_of t = map (λ (row : Row). row.held) t.rows ++ (t.counts.raised ++ t.counts.owed)

pub all_held : List Tally → List Held
all_held [] = []
all_held (t ∷ ts) = edges_of t ++ all_held ts

has_longer : (xs ys : List Held) (h : Held) → Has xs h → Has (xs ++ ys) h
has_longer xs ys h a = (a.0, at_longer xs ys a.0 h a.1)

has_behind : (xs ys : List Held) (h : Held) → Has ys h → Has (xs ++ ys) h
has_behind [] ys h a = a
has_behind (x ∷ xs) ys h a = let r = has_behind xs ys h a in (suc r.0, r.1)

module _ (P : Held → Type 0) where
  rows_each : (rows : List Row) → Each (λ (row : Row). P row.held) rows → Each P (map (λ (row : Row). row.held) rows)
  rows_each [] all = tt
  rows_each (row ∷ rows) all = (all.0, rows_each rows all.1)

  pub all_held_each : (ts : List Tally) → ((j : ℕ) (t : Tally) → get_elem? ts j ≡ some t → EachHeld P t) → Each P (all_held ts)
  unfolding all_held
  all_held_each [] each = tt
  all_held_each (t ∷ ts) each =
      let e = each 0 t refl in
      each_append P (map (λ (row : Row). row.held) t.rows ++ (t.counts.raised ++ t.counts.owed)) (all_held ts)
      (each_append P (map (λ (row : Row). row.held) t.rows) (t.counts.raised ++ t.counts.owed) (rows_each t.rows e.rows) (each_append P t.counts.raised t.counts.owed e.raised e.owed))
      (all_held_each ts (λ j u at. each (suc j) u at))

-- each of the list is in the list
each_has : (xs : List Held) → Each (Has xs) xs
each_has [] = tt
each_has (x ∷ xs) = ((0, refl), later xs (each_has xs))
  where
    later : (ys : List Held) → Each (Has xs) ys → Each (Has (x ∷ xs)) ys
    later [] all = tt
    later (y ∷ ys) all = ((suc all.0.0, all.0.1), later ys all.1)

rows_has : (rows : List Row) → Each (λ (row : Row). Has (map (λ (row : Row). row.held) rows) row.held) rows
rows_has [] = tt
rows_has (x ∷ rows) = ((0, refl), later rows (rows_has rows))
  where
    later : (ys : List Row) → Each (λ (row : Row). Has (map (λ (row : Row). row.held) rows) row.held) ys → Each (λ (row : Row). Has (x.held ∷ map (λ (row : Row). row.held) rows) row.held) ys
    later [] all = tt
    later (y ∷ ys) all = ((suc all.0.0, all.0.1), later ys all.1)

helds_to : (P Q : Held → Type 0) → ((h : Held) → P h → Q h) → (xs : List Held) → Each P xs → Each Q xs
helds_to P Q f [] all = tt
helds_to P Q f (x ∷ xs) all = (f x all.0, helds_to P Q f xs all.1)

own_has : (t : Tally) → EachHeld (Has (edges_of t)) t
own_has t =
    let rows = map (λ (row : Row). row.held) t.rows in
    let raised = t.counts.raised in
    let owed = t.counts.owed in
    record {
      rows = rows_meet (Has rows) (Has (rows ++ (raised ++ owed))) t.rows (λ h lt a. has_longer rows (raised ++ owed) h a) (rows_has t.rows);
      raised = helds_to (Has raised) (Has (rows ++ (raised ++ owed))) (λ h a. has_behind rows (raised ++ owed) h (has_longer raised owed h a)) raised (each_has raised);
      owed = helds_to (Has owed) (Has (rows ++ (raised ++ owed))) (λ h a. has_behind rows (raised ++ owed) h (has_behind raised owed h a)) owed (each_has owed);
    }

pub all_held_has : (ts : List Tally) (j : ℕ) (t : Tally) → get_elem? ts j ≡ some t → EachHeld (Has (all_held ts)) t
unfolding all_held
all_held_has [] j t at = absurd (some-ne-none t (sym at))
all_held_has (x ∷ ts) zero t at = subst (EachHeld (Has (edges_of x ++ all_held ts))) (some-injective x t at) (meets (Has (edges_of x)) (Has (edges_of x ++ all_held ts)) x (λ h lt a. has_longer (edges_of x) (all_held ts) h a) (own_has x))
all_held_has (x ∷ ts) (suc j) t at = meets (Has (all_held ts)) (Has (edges_of x ++ all_held ts)) t (λ h lt a. has_behind (edges_of x) (all_held ts) h a) (all_held_has ts j t at)

-- after a draw

module _ (P : Held → Type 0) where
  pub without_each : (name : Name) (rows : List Row) → Each (λ (row : Row). P row.held) rows → Each (λ (row : Row). P row.held) (without name rows)
  without_each name [] all = tt
  without_each name (x ∷ rows) all = by (same_name x.name name) (without_each name rows all.1)
    where
      by : (b : Bool) → Each (λ (row : Row). P row.held) (without name rows) → Each (λ (row : Row). P row.held) (cond b (without name rows) (x ∷ without name rows))
      by true rest = rest
      by false rest = (all.0, rest)

  named_each : (name : Name) (rows : List Row) → Each (λ (row : Row). P row.held) rows → Each P (named name rows)
  named_each name [] all = tt
  named_each name (x ∷ rows) all = by (same_name x.name name) (named_each name rows all.1)
    where
      by : (b : Bool) → Each P (named name rows) → Each P (cond b (x.held ∷ named name rows) (named name rows))
      by true rest = (all.0, rest)
      by false rest = rest

  -- of one that leaves the board
  pub draws_held : (cells : List (std.Option Held)) (t : Tally) (change : Change) → LeavesBoard change → HasRaised change cells t.counts → EachHeld P t → EachHeld P (tally_after change cells t)
  draws_held cells t change leaves up e = record { rows = rows change leaves (subst (Each P) up.0 e.raised); raised = tt; owed = owed change leaves }
    where
      rows : (change : Change) → LeavesBoard change → Each P (gained change) → Each (λ (row : Row). P row.held) (rows_after change t.rows)
      rows Nothing leaves have = e.rows
      rows (Posts i held) leaves have = absurd leaves
      rows (Adds row) leaves have = (have.0, e.rows)
      rows (Takes name) leaves have = without_each name t.rows e.rows

      owed : (change : Change) → LeavesBoard change → Each P (lost change cells t.rows)
      owed Nothing leaves = tt
      owed (Posts i held) leaves = absurd leaves
      owed (Adds row) leaves = tt
      owed (Takes name) leaves = named_each name t.rows e.rows

  -- after one was paid
  pub paid_each : (k : ℕ) (xs : List Held) → Each P xs → Each P (paid k xs)
  paid_each k [] all = tt
  paid_each k (x ∷ xs) all = by (x.edge.index == k) (paid_each k xs all.1)
    where
      by : (b : Bool) → Each P (paid k xs) → Each P (cond b xs (x ∷ paid k xs))
      by true rest = all.1
      by false rest = (all.0, rest)

-- a draw that leaves the board
pub cells_left : (change : Change) (cells : List (std.Option Held)) → LeavesBoard change → cells_after change cells ≡ cells
cells_left Nothing cells leaves = refl
cells_left (Adds row) cells leaves = refl
cells_left (Takes name) cells leaves = refl
cells_left (Posts i held) cells leaves = absurd leaves

pub lost_same : (change : Change) (cells other : List (std.Option Held)) (rows : List Row) → LeavesBoard change → lost change cells rows ≡ lost change other rows
lost_same Nothing cells other rows leaves = refl
lost_same (Adds row) cells other rows leaves = refl
lost_same (Takes name) cells other rows leaves = refl
lost_same (Posts i held) cells other rows leaves = absurd leaves
