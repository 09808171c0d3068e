-- A draw keeps what rows, cells and counts name, the board, and the orders.
use Rattle.std.proofs.Common.{◌≡◌, ◌≢◌, ◌⊎◌, ℕ, ◌+◌, zero, suc, Bool, true, false, cond, List, [], ◌∷◌, set, refl, ap, sym, subst, ◌∙◌, inl, inr, true≢false}
use Rattle.std.specs.Prelude as std
use Rattle.std.specs.Prelude.{slice_get, slice_set, Some, None}
use mathlib.Core.Logic.{dite}
use mathlib.Core.Option.{Option, some, some-injective, some-ne-none}
use native.Mathlib.Decide.{ℕ_discrete}
use Rattle.atomic_table.proofs.Lists.{set_else}
use lib.ListN.{get_elem?}
use Rattle.function_laws.specs.declared.history.Name.{Name}
use Rattle.function_laws.specs.declared.history.Call.{Call}
use Rattle.function_laws.specs.declared.history.Call.TheVariants as calls
use Rattle.function_laws.specs.declared.history.Reply.{Reply}
use Rattle.function_laws.specs.declared.history.Reply.TheVariants.{Made, Chose, Fetched, Numbered, Done, Truth, Value, Overflow, Apart, Most, Full}
use Rattle.function_laws.specs.Kinds.{Denoted, BddFunction, flipped}
use Rattle.function_laws.specs.Values.{projection}
use Rattle.function_laws.specs.Handovers.{is_numbered}
use Rattle.function_laws.specs.Sizes.{Orders}
use Rattle.function_laws.specs.EntryOrders.{orders_after}
use Rattle.function_laws.specs.SessionEntries.{Each}
use Rattle.function_laws.specs.Tables.{Table, same_name}
use Rattle.words_rule.specs.declared.cell.Cell.{Cell}
use Rattle.words_rule.specs.declared.view.Held.{Held}
use Rattle.words_rule.specs.declared.view.Row.{Row}
use Rattle.words_rule.specs.declared.view.Change.{Change}
use Rattle.words_rule.specs.declared.view.Change.TheVariants.{Nothing, Adds, Takes, Posts}
use Rattle.words_rule.specs.declared.view.Telling.{Telling}
use Rattle.words_rule.specs.declared.view.Draws.{Draws}
use Rattle.words_rule.specs.declared.view.Hold.TheVariants.{Holding}
use Rattle.words_rule.specs.declared.view.View.{View}
use Rattle.words_rule.specs.Views.{known_after, without, rows_after, cells_after, cell_in, orders_of, told_orders}
use Rattle.words_rule.specs.Layout.{Shape}
use Rattle.words_rule.specs.Tallies.{Tally, HasRaised, gained, lost, named, in_cell, tally_after}
use Rattle.words_rule.specs.Kept.{IsHeldBy, IsKeptCell, KeepsTally, Kept, Board}
use Rattle.words_rule.specs.Ordered.{KnowsOrders, Ordered, is_ordering}
use Rattle.words_rule.specs.Moves.{LeavesBoard}
use Rattle.words_rule.proofs.Lists.{each_set, each_map}

-- functions that stay as slots are added
pub still_held : (z : Shape) (function new : ℕ → std.Option Denoted) → ((s : ℕ) (f : Denoted) → function s ≡ Some f → new s ≡ Some f) → (held : Held) → IsHeldBy z function held → IsHeldBy z new held
still_held z function new grows held is = (is.0, by held.edge.complement (function held.edge.index) (new held.edge.index) (grows held.edge.index) is.1, is.2)
  where
    by : (c : Bool) (o p : std.Option Denoted) → ((f : Denoted) → o ≡ Some f → p ≡ Some f) → flipped c o ≡ Some is.0 → flipped c p ≡ Some is.0
    by true None p more e = cc
    by false None p more e = cc
    by c (Some g) p more e = ap (flipped c) (more g refl) ∙ e

pub kept_grows : (z : Shape) (function new : ℕ → std.Option Denoted) (cells : List (std.Option Held)) (ts : List Tally) → ((s : ℕ) (f : Denoted) → function s ≡ Some f → new s ≡ Some f) → Kept z function cells ts → Kept z new cells ts
kept_grows z function new cells ts grows k = record {
  each = λ id t at. let e = k.each id t at in record {
    rows = each_map (λ (row : Row). IsHeldBy z function row.held) (λ (row : Row). IsHeldBy z new row.held) (λ row. still_held z function new grows row.held) t.rows e.rows;
    raised = each_map (IsHeldBy z function) (IsHeldBy z new) (still_held z function new grows) t.counts.raised e.raised;
    owed = each_map (IsHeldBy z function) (IsHeldBy z new) (still_held z function new grows) t.counts.owed e.owed;
  };
  fixed = λ u lt. grows (5 + u) (BddFunction (projection u)) (k.fixed u lt);
  cells_kept = each_map (IsKeptCell z function) (IsKeptCell z new) by_cell cells k.cells_kept;
}
  where
    by_cell : (cell : std.Option Held) → IsKeptCell z function cell → IsKeptCell z new cell
    by_cell None is = tt
    by_cell (Some held) is = still_held z function new grows held is

module _ (P : Held → Type 0) where
  without_each : (name : Name) (rows : List Row) → Each (λ (row : Row). P row.held) rows → Each (λ (row : Row). P row.held) (without name rows)
  without_each name [] all = tt
  without_each name (x ∷ rows) all = by (same_name x.name name) (without_each name rows all.1)
    where
      by : (b : Bool) → Each (λ (row : Row). P row.held) (without name rows) → Each (λ (row : Row). P row.held) (cond b (without name rows) (x ∷ without name rows))
      by true rest = rest
      by false rest = (all.0, rest)

  named_each : (name : Name) (rows : List Row) → Each (λ (row : Row). P row.held) rows → Each P (named name rows)
  named_each name [] all = tt
  named_each name (x ∷ rows) all = by (same_name x.name name) (named_each name rows all.1)
    where
      by : (b : Bool) → Each P (named name rows) → Each P (cond b (x.held ∷ named name rows) (named name rows))
      by true rest = (all.0, rest)
      by false rest = rest

module _ (z : Shape) (function : ℕ → std.Option Denoted) where
  cells_each : (cells : List (std.Option Held)) (i : ℕ) (held : Held) → IsHeldBy z function held → Each (IsKeptCell z function) cells → Each (IsKeptCell z function) (slice_set cells i (Some held))
  cells_each [] i held is all = tt
  cells_each (x ∷ cells) zero held is all = (is, all.1)
  cells_each (x ∷ cells) (suc i) held is all = (all.0, cells_each cells i held is all.1)

  cell_each : (cells : List (std.Option Held)) (i : ℕ) → Each (IsKeptCell z function) cells → Each (IsHeldBy z function) (in_cell (slice_get cells i))
  cell_each [] i all = tt
  cell_each (None ∷ cells) zero all = tt
  cell_each (Some held ∷ cells) zero all = (all.0, tt)
  cell_each (x ∷ cells) (suc i) all = cell_each cells i all.1

  pub kept_draws : (cells : List (std.Option Held)) (ts : List Tally) (id : ℕ) (t : Tally) (change : Change) → Kept z function cells ts → get_elem? ts id ≡ some t → HasRaised change cells t.counts
      → Kept z function (cells_after change cells) (set ts id (tally_after change cells t))
  kept_draws cells ts id t change k at up =
      let mine = k.each id t at in
      let have : Each (IsHeldBy z function) (gained change) = subst (λ (l : List Held). Each (IsHeldBy z function) l) up.0 mine.raised in record {
        each = each_set (λ i (u : Tally). KeepsTally z function u) ts id (tally_after change cells t) (λ i u apart there. k.each i u there)
            (record { rows = rows change have mine.rows; raised = tt; owed = owed change mine.rows });
        fixed = k.fixed;
        cells_kept = cells_kept change have;
      }
    where
      rows : (change : Change) → Each (IsHeldBy z function) (gained change) → Each (λ (row : Row). IsHeldBy z function row.held) t.rows → Each (λ (row : Row). IsHeldBy z function row.held) (rows_after change t.rows)
      rows Nothing have all = all
      rows (Posts i held) have all = all
      rows (Adds row) have all = (have.0, all)
      rows (Takes name) have all = without_each (IsHeldBy z function) name t.rows all

      owed : (change : Change) → Each (λ (row : Row). IsHeldBy z function row.held) t.rows → Each (IsHeldBy z function) (lost change cells t.rows)
      owed Nothing all = tt
      owed (Adds row) all = tt
      owed (Takes name) all = named_each (IsHeldBy z function) name t.rows all
      owed (Posts i held) all = cell_each cells i k.cells_kept

      cells_kept : (change : Change) → Each (IsHeldBy z function) (gained change) → Each (IsKeptCell z function) (cells_after change cells)
      cells_kept Nothing have = k.cells_kept
      cells_kept (Adds row) have = k.cells_kept
      cells_kept (Takes name) have = k.cells_kept
      cells_kept (Posts i held) have = cells_each cells i held have.0 k.cells_kept

-- a draw by who has not the board leaves the cells
pub cells_left : (change : Change) (cells : List (std.Option Held)) → LeavesBoard change → cells_after change cells ≡ cells
cells_left Nothing cells leaves = refl
cells_left (Adds row) cells leaves = refl
cells_left (Takes name) cells leaves = refl
cells_left (Posts i held) cells leaves = absurd leaves

pub lost_same : (change : Change) (cells other : List (std.Option Held)) (rows : List Row) → LeavesBoard change → lost change cells rows ≡ lost change other rows
lost_same Nothing cells other rows leaves = refl
lost_same (Adds row) cells other rows leaves = refl
lost_same (Takes name) cells other rows leaves = refl
lost_same (Posts i held) cells other rows leaves = absurd leaves

-- what a call that orders nothing leaves of the orders
pub orders_stay : (orders : Orders) (call : Call) (reply : Reply) → is_numbered reply ≡ false → is_ordering call ≡ false → orders_after orders call reply ≡ orders
orders_stay orders call (Made r) plain no_order = refl
orders_stay orders call (Chose r g) plain no_order = refl
orders_stay orders call (Fetched r posted) plain no_order = refl
orders_stay orders call (Numbered r m) plain no_order = absurd (true≢false plain)
orders_stay orders call Done plain no_order = by call no_order
  where
    by : (call : Call) → is_ordering call ≡ false → orders_after orders call Done ≡ orders
    by (calls.Swap level) e = absurd (true≢false e)
    by (calls.SwapElements level) e = absurd (true≢false e)
    by (calls.Sift told) e = absurd (true≢false e)
    by (calls.SiftElements told) e = absurd (true≢false e)
    by _ e = refl
orders_stay orders call (Truth told) plain no_order = refl
orders_stay orders call (Value x) plain no_order = refl
orders_stay orders call Overflow plain no_order = refl
orders_stay orders call Most plain no_order = refl
orders_stay orders call Apart plain no_order = refl
orders_stay orders call (Full a b) plain no_order = refl

-- A draw tells an order by who holds it alone, and then one that the words have.
pub ordered_draws : (now told : Orders) (vs : List View) (id : ℕ) (v w : View) (x : Telling) → Ordered now told vs → get_elem? vs id ≡ some v → w.shares ≡ v.shares → w.known ≡ known_after v.known x
    → is_numbered x.reply ≡ false → ((v.shares.order ≡ Holding → ⊥) → is_ordering x.call ≡ false) → (at_end : (v.shares.order ≡ Holding) ⊎ (v.shares.order ≡ Holding → ⊥))
    → ((i : ℕ) (u : View) → i ≢ id → get_elem? vs i ≡ some u → u.shares.order ≡ Holding → v.shares.order ≡ Holding → ⊥)
    → Ordered now (orders_after told x.call x.reply) (set vs id w)
ordered_draws now told vs id v w x o at shares draws plain orders either one = record {
  settled = λ nobody. by_either nobody either;
  shared = each_set (λ _ (u : View). KnowsOrders now u) vs id w (λ i u apart there. o.shared i u there) (λ has. ap orders_of draws ∙ o.shared id v at (ap (λ s. s.op) (sym shares) ∙ has));
  held = each_set (λ i (u : View). u.shares.order ≡ Holding → (orders_of u.known ≡ now) × (told_orders u.known ≡ orders_after told x.call x.reply)) vs id w
      (λ i u apart there holding. let h = o.held i u there holding in (h.0, h.1 ∙ sym (by_other i u apart there holding either)))
      (λ holding. let h = o.held id v at (ap (λ s. s.order) (sym shares) ∙ holding) in (
        ap orders_of draws ∙ h.0,
        ap told_orders draws ∙ ap (λ (y : Orders). orders_after y x.call x.reply) h.1,
      ));
}
  where
    put_in : (l : List View) (i : ℕ) → get_elem? l i ≡ some v → get_elem? (set l i w) i ≡ some w
    put_in [] i e = absurd (some-ne-none v (sym e))
    put_in (y ∷ l) zero e = refl
    put_in (y ∷ l) (suc i) e = put_in l i e

    by_other : (i : ℕ) (u : View) → i ≢ id → get_elem? vs i ≡ some u → u.shares.order ≡ Holding → (v.shares.order ≡ Holding) ⊎ (v.shares.order ≡ Holding → ⊥) → orders_after told x.call x.reply ≡ told
    by_other i u apart there holding (inl mine) = absurd (one i u apart there holding mine)
    by_other i u apart there holding (inr not_mine) = orders_stay told x.call x.reply plain (orders not_mine)

    by_either : ((i : ℕ) (u : View) → get_elem? (set vs id w) i ≡ some u → u.shares.order ≡ Holding → ⊥) → (v.shares.order ≡ Holding) ⊎ (v.shares.order ≡ Holding → ⊥) → now ≡ orders_after told x.call x.reply
    by_either nobody (inl mine) = absurd (nobody id w (put_in vs id at) (ap (λ s. s.order) shares ∙ mine))
    by_either nobody (inr not_mine) = o.settled (each_set_back nobody) ∙ sym (orders_stay told x.call x.reply plain (orders not_mine))
      where
        each_set_back : ((i : ℕ) (u : View) → get_elem? (set vs id w) i ≡ some u → u.shares.order ≡ Holding → ⊥) → (i : ℕ) (u : View) → get_elem? vs i ≡ some u → u.shares.order ≡ Holding → ⊥
        each_set_back nobody i u there holding = dite (ℕ_discrete i id)
            (λ same. not_mine (ap (λ (y : View). y.shares.order) (some-injective v u (sym at ∙ (ap (λ j. get_elem? vs j) (sym same) ∙ there))) ∙ holding))
            (λ apart. nobody i u (set_else vs id i w apart ∙ there) holding)

-- the board after a draw
pub board_draws : {S : Type 0} (board : S → List (std.Option Cell)) (turn : ℕ) (home : Option (Option (std.Option S))) (ds : List Draws) (t u : Table) (cells : List (std.Option Held)) (id : ℕ) (d w : Draws) (change : Change)
    → Board board turn home ds t cells → get_elem? ds id ≡ some d → w.holds ≡ d.holds → w.cells ≡ cells_after change d.cells
    → (d.holds ≡ false → LeavesBoard change × (u.cells ≡ t.cells)) → (d.holds ≡ true → (u.cells ≡ cell_in w.cells) × (turn ≢ 0))
    → ((i : ℕ) (e : Draws) → get_elem? ds i ≡ some e → e.holds ≡ true → d.holds ≡ true → i ≡ id)
    → Board board turn home (set ds id w) u (cells_after change cells)
board_draws board turn home ds t u cells id d w change b at holds now without_it with_it alone = by d.holds refl
  where
    by : (h : Bool) → d.holds ≡ h → Board board turn home (set ds id w) u (cells_after change cells)
    by true is =
        let mine : d.cells ≡ cells = b.held id d at is in
        let w_cells : w.cells ≡ cells_after change cells = now ∙ ap (cells_after change) mine in record {
          are = (with_it is).0 ∙ ap cell_in w_cells;
          home_is = λ zero_turn. absurd ((with_it is).1 zero_turn);
          held = each_set (λ i (e : Draws). e.holds ≡ true → e.cells ≡ cells_after change cells) ds id w (λ i e apart there h. absurd (apart (alone i e there h is))) (λ h. w_cells);
        }
    by false is =
        let l = without_it is in
        let same : cells_after change cells ≡ cells = cells_left change cells l.0 in
        subst (λ (c : List (std.Option Held)). Board board turn home (set ds id w) u c) (sym same) (record {
          are = l.1 ∙ b.are;
          home_is = b.home_is;
          held = each_set (λ i (e : Draws). e.holds ≡ true → e.cells ≡ cells) ds id w (λ i e apart there. b.held i e there) (λ h. absurd (true≢false (sym h ∙ holds ∙ is)));
        })
