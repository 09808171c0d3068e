-- Turns in which a place was drawn, and what they leave.
use Rattle.std.proofs.Common.{◌≡◌, inl, ℕ, zero, suc, List, [], ◌∷◌, ◌++◌, Contains, length, map, Option, Some, None, refl, ap, sym, subst, ◌∙◌, arith, ap₂}
use Rattle.std.specs.Prelude.{slice_get}
use Rattle.edge_bits.specs.declared.edges.Edge.{Edge}
use Rattle.edge_bits.specs.declared.edges.Kind.{Kind}
use Rattle.function_laws.specs.SessionEntries.{Each}
use Rattle.function_laws.specs.declared.history.Function.{Function}
use Rattle.handle_count.specs.RowMaps.{RowMap}
use Rattle.node_store.specs.Views.{Is, values_at, View}
use Rattle.seat_guard.specs.declared.view.Draws.{Draws}
use Rattle.seat_guard.specs.declared.view.Held.{Held}
use Rattle.seat_guard.specs.declared.view.Leaving.{Leaving}
use Rattle.seat_guard.specs.declared.view.Telling.{Telling}
use Rattle.seat_guard.specs.Turn.{IsKeptCell}
use Rattle.seat_guard.specs.Views.{adds_after, cell_in, rows_after, holding}
use Rattle.shared_store.specs.declared.shared.Cell.{Cell}
use Rattle.shared_store.specs.declared.shared.Shared.{Shared}
use Rattle.shared_store.specs.Sharing.{board, counts, functions, held_in, keeps, orders, view_of, Serving, held_of}
use Rattle.shared_store.proofs.Keeping.{kind-listed}
use Rattle.shared_store.specs.Storing.{IsLeaving, StoresOnly}
use Rattle.shared_store.proofs.Storing.{stored-only}
use Rattle.dd_session.specs.declared.book.Book.{Book}
use Rattle.dd_session.specs.Sessions.{fulls_in}
use Rattle.dd_session.specs.Turns.{Drew, Keeps, Notes, Tied, Took, function_of, IsSettled, OwesCell}
use Rattle.dd_session.proofs.Soundness.{sound_same, sizes_of}
use Rattle.dd_session.proofs.Tying.{longer_by, tied_same}
use Rattle.node_store.specs.Listed.{listed_at}
use Rattle.edge_bits.specs.declared.edges.Kind.TheVariants as kinds
use Rattle.seat_guard.specs.declared.view.Counts.{Counts}
use Rattle.shared_store.specs.Counted.{IsFound}
use Rattle.shared_store.specs.Lasting.{IsRecounted}
use Rattle.shared_store.proofs.Stored.{functions-recounted}
use Rattle.seat_guard.specs.Tallies.{in_cell}

pub stores_same : (x : Shared) → StoresOnly (λ _. ⊥) x x
stores_same x f c = inl c

module _ (old held : Draws) (x : Shared) (took : Took old held x) where
  -- there was one turn
  pub had_turn : (new : Draws) (l : Leaving) → new.stored ≡ l.stored → new.turns ≡ held.turns ++ l.stored ∷ [] → new.turns ≡ old.turns ++ new.stored ∷ []
  had_turn new l stored turns = turns ∙ ap (λ (z : Draws). z.turns ++ l.stored ∷ []) took.is ∙ ap (λ (s : List Function). old.turns ++ s ∷ []) (sym stored)

  -- in which nothing was stored
  pub stored_nothing : (new : Draws) (y : Shared) (l : Leaving) → StoresOnly (λ _. ⊥) x y → new.stored ≡ l.stored → IsLeaving held y l → new.turns ≡ held.turns ++ l.stored ∷ []
      → (new.turns ≡ old.turns ++ new.stored ∷ []) × ((f : Function) → Contains new.stored f → ⊥)
  stored_nothing new y l none stored is turns = (
    had_turn new l stored turns,
    λ f c. stored-only (λ _. ⊥) x y held l (ap (λ (z : Draws). z.functions) took.is) none is f (subst (λ (fs : List Function). Contains fs f) stored c),
  )

  pub drew_nothing : (new : Draws) (y : Shared) (t : Telling) (place : ℕ) → StoresOnly (λ _. ⊥) x y → Drew held new y t place → (new.turns ≡ old.turns ++ new.stored ∷ []) × ((f : Function) → Contains new.stored f → ⊥)
  drew_nothing new y t place none drew = stored_nothing new y drew.leaving none (ap (λ (z : Draws). z.stored) drew.left) drew.is_leaving (ap (λ (z : Draws). z.turns) drew.left)

  pub notes_nothing : (new : Draws) → Notes held new x → (new.turns ≡ old.turns ++ new.stored ∷ []) × ((f : Function) → Contains new.stored f → ⊥)
  notes_nothing new notes = stored_nothing new x notes.0 (stores_same x) notes.1 notes.3 notes.4

  -- the same rows
  pub kept_rows : (new : Draws) (y : Shared) (t : Telling) (place : ℕ) (rows : RowMap) → Tied old rows → Drew held new y t place → rows_after t.change held.rows ≡ held.rows → adds_after t.change held.adds ≡ held.adds → Tied new rows
  kept_rows new y t place rows tied drew same_rows same_adds =
      let left = drew.left in
      tied_same old new rows tied (ap (λ (z : Draws). z.rows) left ∙ same_rows ∙ ap (λ (z : Draws). z.rows) took.is) (ap (λ (z : Draws). z.adds) left ∙ same_adds ∙ ap (λ (z : Draws). z.adds) took.is)
      (let a = longer_by held new _ (ap (λ (z : Draws). z.entries) left) in let b = ap (λ (z : Draws). length z.entries) took.is in omega (arith, a, b))

  pub kept_book : (new : Draws) (y : Shared) (t : Telling) (place : ℕ) (book book' : Book) → Keeps old book → Drew held new y t place → rows_after t.change held.rows ≡ held.rows → adds_after t.change held.adds ≡ held.adds → book'.rows ≡ book.rows
      → (book'.calls ≡ length new.entries) × (book'.fulls ≡ fulls_in new.entries) → Keeps new book'
  kept_book new y t place book book' keeps drew same_rows same_adds rows counts = record {
    rows = subst (Tied new) (sym rows) (kept_rows new y t place book.rows keeps.rows drew same_rows same_adds);
    sound = sound_same old new (ap (λ (z : Draws). z.rows) drew.left ∙ same_rows ∙ ap (λ (z : Draws). z.rows) took.is) (ap sizes_of drew.left ∙ ap sizes_of took.is) keeps.sound;
    calls = counts.0;
    fulls = counts.1;
  }

-- counts that change store nothing
pub stores_recounted : (x y : Shared) → functions y ≡ functions x → StoresOnly (λ _. ⊥) x y
stores_recounted x y same f c = inl (subst (λ (fs : List Function). Contains fs f) same c)

-- what stands in a cell
module _ (x : Shared) (d : Draws) (shows : board x ≡ d.cells) (kept : Each (IsKeptCell keeps board counts orders x) d.cells) where
  cell-board-in : (cells : List (Option Cell)) (i : ℕ) (found : Option Cell) → slice_get cells i ≡ Some found → cell_in (map (held_in (view_of x)) cells) i ≡ function_of (view_of x) found
  cell-board-in [] i found is = absurd (let z : None ≡ Some found = is in cc)
  cell-board-in (None ∷ cells) zero found is = ap (function_of (view_of x)) (some_same None found is)
    where
      some_same : (a b : Option Cell) → Some a ≡ Some b → a ≡ b
      some_same a b e = cc
  cell-board-in (Some c ∷ cells) zero found is = ap (function_of (view_of x)) (some_same (Some c) found is)
    where
      some_same : (a b : Option Cell) → Some a ≡ Some b → a ≡ b
      some_same a b e = cc
  cell-board-in (c ∷ cells) (suc i) found is = cell-board-in cells i found is

  pub cell-board : (i : ℕ) (found : Option Cell) → slice_get x.cells.items i ≡ Some found → cell_in d.cells i ≡ function_of (view_of x) found
  cell-board i found is = ap (λ (l : List (Option Held)). cell_in l i) (sym shows) ∙ cell-board-in x.cells.items i found is

  cell-kept-in : (cells : List (Option Cell)) (i : ℕ) (c : Cell) → Each (IsKeptCell keeps board counts orders x) (map (held_in (view_of x)) cells) → slice_get cells i ≡ Some (Some c) → Is c.kind (view_of x) c.edge
  cell-kept-in [] i c all is = absurd (let z : None ≡ Some (Some c) = is in cc)
  cell-kept-in (None ∷ cells) zero c all is = absurd (let z : Some None ≡ Some (Some c) = is in cc)
  cell-kept-in (Some b ∷ cells) zero c all is =
      subst (λ (y : Cell). Is y.kind (view_of x) y.edge) (some_same b c is) (subst (λ (k : Kind). Is k (view_of x) b.edge) (kind-listed b.kind (view_of x) (values_at b.kind (view_of x) b.edge)) all.0.0)
    where
      some_same : (a b : Cell) → Some (Some a) ≡ Some (Some b) → a ≡ b
      some_same a b e = cc
  cell-kept-in (b ∷ cells) (suc i) c all is = cell-kept-in cells i c all.1 is

  pub cell-kept : (i : ℕ) (c : Cell) → slice_get x.cells.items i ≡ Some (Some c) → Is c.kind (view_of x) c.edge
  cell-kept i c is = cell-kept-in x.cells.items i c (subst (Each (IsKeptCell keeps board counts orders x)) (sym shows) kept) is

-- the counts were read meanwhile
listed-on : (k : Kind) (w : View) (n : ℕ → ℕ) (e : Edge) → listed_at k (record w { count = n }) e ≡ listed_at k w e
listed-on kinds.Bdd w n e = refl
listed-on kinds.Add w n e = refl
listed-on kinds.Zdd w n e = refl

held-on : (w : View) (n : ℕ → ℕ) (cells : List (Option Cell)) → map (held_in (record w { count = n })) cells ≡ map (held_in w) cells
held-on w n [] = refl
held-on w n (None ∷ cells) = ap (λ l. None ∷ l) (held-on w n cells)
held-on w n (Some c ∷ cells) = ap₂ (λ (f : Function) (l : List (Option Held)). Some (record { edge = c.edge; function = f }) ∷ l) (listed-on c.kind w n c.edge) (held-on w n cells)

pub took_read : (d e e' : Draws) (x y : Shared) (c : Counts) → Took d e x → IsRecounted x y → e' ≡ e → Serving y e' c → Took d e' y
took_read d e e' x y c took same is serves = record {
  others = took.others;
  is = is ∙ took.is ∙ (λ i. holding d (sym board_is i) took.others (sym same.orders_are i) (sym (functions-recounted x y same) i));
  counts = c;
  serves = serves;
  many = ap (λ (l : List (Option Held)). length l) board_is ∙ took.many;
}
  where
    board_is : board y ≡ board x
    board_is = ap₂ (λ (w : View) (l : List (Option Cell)). map (held_in w) l) same.view same.cells ∙ held-on (view_of x) _ x.cells.items

pub found_settled : (c c' : Counts) → IsFound c c' → IsSettled c → IsSettled c'
found_settled c c' found settled = record { raised = found.raised ∙ settled.raised; owed = found.owed ∙ settled.owed; pins = found.pins ∙ settled.pins }

-- what stood in a cell is owed as another comes
pub owes_cell : (w : View) (cells : List (Option Cell)) (i : ℕ) (old : Option Cell) → slice_get cells i ≡ Some old → OwesCell old (in_cell (slice_get (map (held_in w) cells) i))
owes_cell w [] i old is = absurd (let z : None ≡ Some old = is in cc)
owes_cell w (c ∷ cells) zero old is = subst (λ (o : Option Cell). OwesCell o (in_cell (Some (held_in w c)))) (some_same c old is) (by c)
  where
    some_same : (a b : Option Cell) → Some a ≡ Some b → a ≡ b
    some_same a b e = cc

    by : (o : Option Cell) → OwesCell o (in_cell (Some (held_in w o)))
    by None = refl
    by (Some cell) = (held_of w cell, refl, refl)
owes_cell w (c ∷ cells) (suc i) old is = owes_cell w cells i old is
