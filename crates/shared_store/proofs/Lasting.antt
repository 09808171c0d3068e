-- What all sessions hold lasts through a growing operation, and when counts change.
use Rattle.std.proofs.Common.{◌≡◌, ◌⊎◌, inl, inr, ℕ, zero, suc, ◌+◌, ◌<◌, ◌≤◌, ◌==◌, List, [], ◌∷◌, map, Option, Some, None, refl, ap, ap₂, sym, subst, ◌∙◌, arith, eq-eqb}
use Rattle.edge_bits.specs.declared.edges.Kind.{Kind}
use Rattle.function_laws.specs.declared.history.Function.{Function}
use Rattle.function_laws.specs.SessionEntries.{Each}
use Rattle.function_laws.specs.Sizes.{Orders}
use Rattle.node_store.specs.Listed.{listed_at}
use Rattle.node_store.specs.Views.{View, Grown, values_at}
use Rattle.seat_guard.specs.declared.view.Held.{Held}
use Rattle.seat_guard.specs.declared.view.Row.{Row}
use Rattle.seat_guard.specs.declared.view.Draws.{Draws}
use Rattle.seat_guard.specs.declared.view.Counts.{Counts}
use Rattle.seat_guard.specs.Tallies.{times}
use Rattle.seat_guard.specs.Turn.{IsKeptCell, IsKeptOther, KeepsRows, one_if, row_count, held_count, cells_count}
use Rattle.shared_store.specs.declared.shared.Cell.{Cell}
use Rattle.shared_store.specs.declared.shared.Shared.{Shared}
use Rattle.shared_store.specs.Sharing.{Serving, board, count, counts, held_in, held_of, keeps, kind_of, orders, view_of}
use Rattle.shared_store.specs.Lasting.{IsRecounted, KeepsGenerations, Lasts}
use Rattle.seat_guard.specs.Known.{sizes_for}
use Rattle.function_laws.specs.Kinds.{Denoted, function_of}
use Rattle.node_store.specs.KindLaws.{flipped-some}
use Rattle.node_slots.specs.Stores.{IsStore}
use Rattle.shared_store.specs.Counted.{AreRead, IsFound, IsUncounted}
use Rattle.shared_store.proofs.Keeping.{IsHeldIn-same, IsSameAt-grown, kind-listed, listed-noted}

one_same : (k : ℕ) → one_if (k == k) ≡ 1
one_same k = ap one_if (eq-eqb k k refl)

-- what a growing operation keeps
pub keeps-grown : (x y : Shared) → Grown (view_of x) (view_of y) → (h : Held) → keeps x h → keeps y h
keeps-grown x y grown h held = IsHeldIn-same (view_of x) (view_of y) h (IsSameAt-grown (kind_of h.function) (view_of x) (view_of y) h.edge grown held.0) held

pub generations-grown : (x y : Shared) → Grown (view_of x) (view_of y) → KeepsGenerations x y
generations-grown x y grown k some = ap (λ (f : ℕ → ℕ). f k) grown.generations

-- and what a change of counts keeps
pub keeps-recounted : (x y : Shared) → IsRecounted x y → (h : Held) → keeps x h → keeps y h
keeps-recounted x y same h held = IsHeldIn-same (view_of x) (view_of y) h (record { vars = ap (λ (w : View). w.vars) same.view; elements = ap (λ (w : View). w.elements) same.view; content = ap (λ (w : View). w.content h.edge.index) same.view }) held

-- how often a seat with the turn knows that a slot is named: by what it holds itself, and by the cells
abbrev named : Draws → Counts → ℕ → ℕ
named d c k = row_count k d.rows + held_count k c.raised + held_count k c.owed + cells_count k d.cells

-- the seat holds it, or a cell does; or others may
abbrev IsOfSeat : Draws → Counts → Held → Type 0
IsOfSeat d c h = (0 < named d c h.edge.index) ⊎ (times h.edge.index c.zeros ≡ 0)

module _ (x y : Shared) (d : Draws) (c : Counts) (cells : y.cells.items ≡ x.cells.items) (counts_are : counts y ≡ counts x)
    (held : (h : Held) → IsOfSeat d c h → keeps x h → keeps y h) where
  rows-last : (rows : List Row) → ((k : ℕ) → row_count k rows ≤ named d c k) → KeepsRows keeps board counts orders x rows → KeepsRows keeps board counts orders y rows
  rows-last [] few kept = tt
  rows-last (row ∷ rows) few kept = (
    held row.held (inl (let f = few row.held.edge.index in let one = one_same row.held.edge.index in omega (arith, f, one))) kept.0,
    rows-last rows (λ k. let f = few k in omega (arith, f)) kept.1,
  )

  all-last : (hs : List Held) → ((k : ℕ) → held_count k hs ≤ named d c k) → Each (keeps x) hs → Each (keeps y) hs
  all-last [] few kept = tt
  all-last (h ∷ hs) few kept = (
    held h (inl (let f = few h.edge.index in let one = one_same h.edge.index in omega (arith, f, one))) kept.0,
    all-last hs (λ k. let f = few k in omega (arith, f)) kept.1,
  )

  others-last : (others : List Held) → Each (IsKeptOther keeps board counts orders x c) others → Each (IsKeptOther keeps board counts orders y c) others
  others-last [] kept = tt
  others-last (h ∷ others) kept = ((λ none. held h (inr none) (kept.0 none)), others-last others kept.1)

  cells-last : (hs : List (Option Held)) → ((k : ℕ) → cells_count k hs ≤ named d c k) → Each (IsKeptCell keeps board counts orders x) hs → Each (IsKeptCell keeps board counts orders y) hs
  cells-last [] few kept = tt
  cells-last (None ∷ hs) few kept = (tt, cells-last hs few kept.1)
  cells-last (Some h ∷ hs) few kept = (
    held h (inl (let f = few h.edge.index in let one = one_same h.edge.index in omega (arith, f, one))) kept.0,
    cells-last hs (λ k. let f = few k in omega (arith, f)) kept.1,
  )

  -- a cell's function stays
  cell-lasts : (cell : Cell) → 0 < named d c cell.edge.index → keeps x (held_of (view_of x) cell) → held_of (view_of y) cell ≡ held_of (view_of x) cell
  cell-lasts cell some kept =
      let k : Kind = cell.kind in
      let then = (held (held_of (view_of x) cell) (inl some) kept).1 in
      let noted = listed-noted k (view_of x) (values_at k (view_of x) cell.edge) (sizes_for (view_of y).vars (view_of y).elements) (ap (λ (p : ℕ × ℕ × ℕ). p.0) counts_are) (ap (λ (p : ℕ × ℕ × ℕ). p.1) counts_are) in
      ap (λ (f : Function). record { edge = cell.edge; function = f })
      (subst (λ (j : Kind). listed_at j (view_of y) cell.edge ≡ listed_at k (view_of x) cell.edge) (kind-listed k (view_of x) (values_at k (view_of x) cell.edge)) (then ∙ noted))

  board-lasts : (cs : List (Option Cell)) → ((k : ℕ) → cells_count k (map (held_in (view_of x)) cs) ≤ named d c k)
      → Each (IsKeptCell keeps board counts orders x) (map (held_in (view_of x)) cs) → map (held_in (view_of y)) cs ≡ map (held_in (view_of x)) cs
  board-lasts [] few kept = refl
  board-lasts (None ∷ cs) few kept = ap (λ l. None ∷ l) (board-lasts cs few kept.1)
  board-lasts (Some cell ∷ cs) few kept = ap₂ (λ (h : Held) (l : List (Option Held)). Some h ∷ l)
      (cell-lasts cell (let f = few cell.edge.index in let one = one_same cell.edge.index in omega (arith, f, one)) kept.0)
      (board-lasts cs (λ k. let f = few k in omega (arith, f)) kept.1)

  -- what serves the seat still does, under the orders that there are then
  serves-kept : Serving x d c → Serving y (record d { variable_order = (orders y).variables; element_order = (orders y).elements }) c
  serves-kept serves = record {
    rows_kept = rows-last d.rows (λ k. omega arith) serves.rows_kept;
    raised_kept = all-last c.raised (λ k. omega arith) serves.raised_kept;
    owed_kept = all-last c.owed (λ k. omega arith) serves.owed_kept;
    others_kept = others-last d.others serves.others_kept;
    cells_kept = cells-last d.cells (λ k. omega arith) serves.cells_kept;
    board_is = ap (map (held_in (view_of y))) cells
        ∙ board-lasts x.cells.items (λ k. let b : cells_count k (board x) ≡ cells_count k d.cells = ap (cells_count k) serves.board_is in omega (arith, b))
        (subst (λ (l : List (Option Held)). Each (IsKeptCell keeps board counts orders x) l) (sym serves.board_is) serves.cells_kept)
        ∙ serves.board_is;
    counts_are = counts_are ∙ serves.counts_are;
    orders_are = refl;
  }

-- the same where the orders are those of before
same-orders : (x y : Shared) (d : Draws) (c : Counts) → orders y ≡ orders x → Serving x d c → Serving y (record d { variable_order = (orders y).variables; element_order = (orders y).elements }) c → Serving y d c
same-orders x y d c same serves then = subst (λ (o : Orders). Serving y (record d { variable_order = o.variables; element_order = o.elements }) c) (same ∙ serves.orders_are) then

-- a growing operation keeps what all sessions hold
pub serves-grown : (x y : Shared) (d : Draws) (c : Counts) → Grown (view_of x) (view_of y) → y.cells.items ≡ x.cells.items → orders y ≡ orders x → Serving x d c → Serving y d c
serves-grown x y d c grown cells same serves =
    same-orders x y d c same serves (serves-kept x y d c cells (λ i. (grown.vars i, grown.elements i, grown.slots i)) (λ h of. keeps-grown x y grown h) serves)

-- and so does a change of counts
pub serves-recounted : (x y : Shared) (d : Draws) (c : Counts) → IsRecounted x y → Serving x d c → Serving y d c
serves-recounted x y d c is serves =
    same-orders x y d c is.orders_are serves (serves-kept x y d c is.cells (ap (λ (w : View). (w.vars, w.elements, w.slots)) is.view) (λ h of. keeps-recounted x y is h) serves)

module _ (x y : Shared) (of : IsStore x.store) (lasts : Lasts x y) (d : Draws) (c : Counts) (read : AreRead x d c) where
  -- what the seat holds, or others may, is counted
  is-counted : (h : Held) → IsOfSeat d c h → keeps x h → 0 < count x h.edge.index
  is-counted h is kept = by (count x h.edge.index) refl
    where
      there : (f : Denoted) × ((view_of x).content h.edge.index ≡ Some f)
      there = flipped-some h.edge.complement ((view_of x).content h.edge.index) (function_of (kind_of h.function) (values_at (kind_of h.function) (view_of x) h.edge)) kept.0.is

      apart : IsUncounted h.edge.index d c → IsOfSeat d c h → ⊥
      apart u (inl some) = let a = u.rows in let b = u.raised in let e = u.owed in let f = u.cells in omega (arith, a, b, e, f, some)
      apart u (inr none) = let z = u.zero in omega (arith, z, none)

      by : (n : ℕ) → count x h.edge.index ≡ n → 0 < count x h.edge.index
      by zero e = absurd (apart ((read h.edge.index there.0 there.1).none e) is)
      by (suc n) e = omega (arith, e)

  -- What is counted lasts: what serves a seat that read the counts still does, under the orders that there are then.
  pub serves-under : Serving x d c → Serving y (record d { variable_order = (orders y).variables; element_order = (orders y).elements }) c
  serves-under serves = serves-kept x y d c lasts.cells lasts.counts_are (λ h is kept. lasts.held h (is-counted h is kept) kept) serves

  -- which are those of before where they are the same
  pub serves-lasts : orders y ≡ orders x → Serving x d c → Serving y d c
  serves-lasts same serves = same-orders x y d c same serves (serves-under serves)

-- What serves a seat still does once it found more counts.
pub serves-more : (x : Shared) (d : Draws) (c c' : Counts) → IsFound c c' → ((k : ℕ) → times k c.zeros ≤ times k c'.zeros) → Serving x d c → Serving x d c'
serves-more x d c c' found more serves = record {
  rows_kept = serves.rows_kept;
  raised_kept = subst (λ (l : List Held). Each (keeps x) l) (sym found.raised) serves.raised_kept;
  owed_kept = subst (λ (l : List Held). Each (keeps x) l) (sym found.owed) serves.owed_kept;
  others_kept = each (IsKeptOther keeps board counts orders x c) (IsKeptOther keeps board counts orders x c') (λ h kept none. kept (let m = more h.edge.index in omega (arith, m, none))) d.others serves.others_kept;
  cells_kept = serves.cells_kept;
  board_is = serves.board_is;
  counts_are = serves.counts_are;
  orders_are = serves.orders_are;
}
  where
    each : (P Q : Held → Type 0) → ((h : Held) → P h → Q h) → (hs : List Held) → Each P hs → Each Q hs
    each P Q f [] all = tt
    each P Q f (h ∷ hs) all = (f h all.0, each P Q f hs all.1)
