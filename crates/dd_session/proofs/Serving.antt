-- What serves the seat with the turn still does after a told change.
use Rattle.std.proofs.Common.{◌≡◌, ℕ, zero, suc, Bool, true, false, cond, List, [], ◌∷◌, map, set, Option, Some, None, refl, ap, sym, subst, ◌∙◌}
use Rattle.std.specs.Prelude.{slice_get}
use Rattle.function_laws.specs.declared.history.Name.{Name}
use Rattle.function_laws.specs.SessionEntries.{Each}
use Rattle.function_laws.specs.Tables.{same_name}
use Rattle.node_store.specs.Views.{View}
use Rattle.seat_guard.specs.declared.view.Draws.{Draws}
use Rattle.seat_guard.specs.declared.view.Held.{Held}
use Rattle.seat_guard.specs.declared.view.Row.{Row}
use Rattle.seat_guard.specs.Turn.{IsKeptCell, IsKeptOther, KeepsRows}
use Rattle.seat_guard.specs.Views.{orders_of, without}
use Rattle.seat_guard.proofs.Lists.{each_map}
use Rattle.seat_guard.specs.declared.view.Counts.{Counts}
use Rattle.seat_guard.specs.Tallies.{in_cell, times}
use Rattle.node_slots.specs.Stores.{Plain, plain_view}
use Rattle.shared_store.specs.declared.shared.Cell.{Cell}
use Rattle.shared_store.specs.declared.shared.Shared.{Shared}
use Rattle.shared_store.specs.Sharing.{IsHeldIn, Serving, board, counts, held_in, held_of, keeps, orders, view_of}

-- a seat that knows the same, but for its rows, its cells and its calls
pub record KnowsAs (d e : Draws) (rows : List Row) (cells : List (Option Held)) : Type 0 where
  pub rows_are : e.rows ≡ rows
  pub cells_are : e.cells ≡ cells
  pub others_are : e.others ≡ d.others
  pub counts_are : (e.vars ≡ d.vars) × (e.elements ≡ d.elements) × (e.slots ≡ d.slots)
  pub orders_are : orders_of e ≡ orders_of d

keeps-on : (x y : Shared) → y.store ≡ x.store → (h : Held) → keeps x h → keeps y h
keeps-on x y same h kept = subst (λ (p : Plain). IsHeldIn (plain_view p) h) (sym same) kept

each-without : (P : Row → Type 0) (name : Name) (rows : List Row) → Each P rows → Each P (without name rows)
each-without P name [] all = tt
each-without P name (row ∷ rows) all = by (same_name row.name name) (each-without P name rows all.1)
  where
    by : (b : Bool) → Each P (without name rows) → Each P (cond b (without name rows) (row ∷ without name rows))
    by true rest = rest
    by false rest = (all.0, rest)

module _ (x y : Shared) (store : y.store ≡ x.store) where
  cell-on : (cell : Option Held) → IsKeptCell keeps board counts orders x cell → IsKeptCell keeps board counts orders y cell
  cell-on None kept = tt
  cell-on (Some held) kept = keeps-on x y store held kept

  -- by what it keeps and shows
  pub serves-changed : (d e : Draws) (c c' : Counts) (rows : List Row) (cells : List (Option Held)) → Serving x d c → KnowsAs d e rows cells → KeepsRows keeps board counts orders x rows → Each (IsKeptCell keeps board counts orders x) cells → board y ≡ cells
      → c'.raised ≡ [] → Each (keeps x) c'.owed → c'.zeros ≡ c.zeros → Serving y e c'
  serves-changed d e c c' rows cells serves same rows_kept cells_kept shows raised owed zeros = record {
    rows_kept = subst (KeepsRows keeps board counts orders y) (sym same.rows_are) (each_map (λ (row : Row). keeps x row.held) (λ (row : Row). keeps y row.held) (λ row. keeps-on x y store row.held) rows rows_kept);
    raised_kept = subst (Each (keeps y)) (sym raised) tt;
    owed_kept = each_map (keeps x) (keeps y) (keeps-on x y store) c'.owed owed;
    others_kept = subst (Each (IsKeptOther keeps board counts orders y c')) (sym same.others_are) (each_map (IsKeptOther keeps board counts orders x c) (IsKeptOther keeps board counts orders y c') (λ h kept none. keeps-on x y store h (kept (ap (times h.edge.index) (sym zeros) ∙ none))) d.others serves.others_kept);
    cells_kept = subst (Each (IsKeptCell keeps board counts orders y)) (sym same.cells_are) (each_map (IsKeptCell keeps board counts orders x) (IsKeptCell keeps board counts orders y) cell-on cells cells_kept);
    board_is = shows ∙ sym same.cells_are;
    counts_are = ap (λ (p : Plain). ((plain_view p).vars, (plain_view p).elements, (plain_view p).slots)) store ∙ serves.counts_are ∙ (λ i. (sym same.counts_are.0 i, sym same.counts_are.1 i, sym same.counts_are.2 i));
    orders_are = ap (λ (p : Plain). record { variables = p.variables_at; elements = p.elements_at }) store ∙ serves.orders_are ∙ sym same.orders_are;
  }

  -- another cell
  map-set : (w : View) (cells : List (Option Cell)) (i : ℕ) (new : Cell) → map (held_in w) (set cells i (Some new)) ≡ set (map (held_in w) cells) i (Some (held_of w new))
  map-set w [] i new = refl
  map-set w (c ∷ cells) zero new = refl
  map-set w (c ∷ cells) (suc i) new = ap (λ l. held_in w c ∷ l) (map-set w cells i new)

  each-set : (cells : List (Option Held)) (i : ℕ) (held : Held) → Each (IsKeptCell keeps board counts orders x) cells → keeps x held → Each (IsKeptCell keeps board counts orders x) (set cells i (Some held))
  each-set [] i held all kept = tt
  each-set (c ∷ cells) zero held all kept = (kept, all.1)
  each-set (c ∷ cells) (suc i) held all kept = (all.0, each-set cells i held all.1 kept)

  -- what stood in it is kept
  in-cell-kept : (cells : List (Option Held)) (i : ℕ) → Each (IsKeptCell keeps board counts orders x) cells → Each (keeps x) (in_cell (slice_get cells i))
  in-cell-kept [] i all = tt
  in-cell-kept (None ∷ cells) zero all = tt
  in-cell-kept (Some held ∷ cells) zero all = (all.0, tt)
  in-cell-kept (c ∷ cells) (suc i) all = in-cell-kept cells i all.1

  pub serves-posted : (d e : Draws) (c c' : Counts) (i : ℕ) (new : Cell) → Serving x d c → KnowsAs d e d.rows (set d.cells i (Some (held_of (view_of y) new))) → keeps x (held_of (view_of x) new) → y.cells.items ≡ set x.cells.items i (Some new)
      → c'.raised ≡ [] → c'.owed ≡ in_cell (slice_get d.cells i) → c'.zeros ≡ c.zeros → Serving y e c'
  serves-posted d e c c' i new serves same kept cells raised owed zeros =
      let held : held_of (view_of y) new ≡ held_of (view_of x) new = ap (λ (p : Plain). held_of (plain_view p) new) store in
      serves-changed d e c c' d.rows (set d.cells i (Some (held_of (view_of y) new))) serves same serves.rows_kept
      (subst (λ (h : Held). Each (IsKeptCell keeps board counts orders x) (set d.cells i (Some h))) (sym held) (each-set d.cells i (held_of (view_of x) new) serves.cells_kept kept))
      (ap (map (held_in (view_of y))) cells ∙ map-set (view_of y) x.cells.items i new ∙ ap (λ (l : List (Option Held)). set l i (Some (held_of (view_of y) new))) (ap (λ (p : Plain). map (held_in (plain_view p)) x.cells.items) store ∙ serves.board_is))
      raised (subst (Each (keeps x)) (sym owed) (in-cell-kept d.cells i serves.cells_kept)) zeros

-- a row more
pub serves-added : (x : Shared) (d e : Draws) (c c' : Counts) (row : Row) → Serving x d c → KnowsAs d e (row ∷ d.rows) d.cells → keeps x row.held → c'.raised ≡ [] → c'.owed ≡ [] → c'.zeros ≡ c.zeros → Serving x e c'
serves-added x d e c c' row serves same kept raised owed zeros = serves-changed x x refl d e c c' (row ∷ d.rows) d.cells serves same (kept, serves.rows_kept) serves.cells_kept serves.board_is raised (subst (Each (keeps x)) (sym owed) tt) zeros

-- nothing changes but the calls
pub serves-same : (x : Shared) (d e : Draws) (c c' : Counts) → Serving x d c → KnowsAs d e d.rows d.cells → c'.raised ≡ [] → c'.owed ≡ [] → c'.zeros ≡ c.zeros → Serving x e c'
serves-same x d e c c' serves same raised owed zeros = serves-changed x x refl d e c c' d.rows d.cells serves same serves.rows_kept serves.cells_kept serves.board_is raised (subst (Each (keeps x)) (sym owed) tt) zeros
