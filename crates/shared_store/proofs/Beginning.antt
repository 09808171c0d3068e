-- What all share as it opens.
use Rattle.std.proofs.Common.{◌≡◌, ℕ, zero, suc, ◌==◌, Bool, false, ◌||◌, List, map, length, replicate, Option, None, refl, ap, ap₂, sym, subst, ◌∙◌}
use Rattle.std.specs.List.{list_any}
use Rattle.std.proofs.lemmas.List.{length-map, length-replicate}
use Rattle.std.proofs.lemmas.List.FromFn.{length-range_with_len}
use Rattle.edge_bits.specs.declared.limits.TheConstants.{CELLS}
use Rattle.function_laws.specs.SessionEntries.{Each}
use Rattle.node_store.specs.Views.{View}
use Rattle.node_slots.specs.Stores.{IsOpening, Plain, is_held}
use Rattle.seat_guard.specs.Views.{cell_in}
use Rattle.seat_guard.specs.Turn.{IsKeptCell}
use Rattle.shared_store.specs.declared.shared.Cell.{Cell}
use Rattle.shared_store.specs.declared.shared.Shared.{Shared}
use Rattle.shared_store.specs.Sharing.{IsNew, board, counts, held_in, keeps, orders, view_of}

abbrev pub no_cell : Option Cell
no_cell = None

cells_none : (w : View) (n i : ℕ) → cell_in (map (held_in w) (replicate n None)) i ≡ None
cells_none w zero i = refl
cells_none w (suc n) zero = refl
cells_none w (suc n) (suc i) = cells_none w n i

cells_kept : (x : Shared) (w : View) (n : ℕ) → Each (IsKeptCell keeps board counts orders x) (map (held_in w) (replicate n None))
cells_kept x w zero = tt
cells_kept x w (suc n) = (tt, cells_kept x w n)

none_set : (n : ℕ) → list_any (λ bits. bits == 1) (replicate n 0) ≡ false
none_set zero = refl
none_set (suc n) = none_set n

pub opening_idle : (vars elements limit : ℕ) (p : Plain) → IsOpening vars elements limit p → is_held p ≡ false
opening_idle vars elements limit p o = ap₂ (λ (b : Bool) (pins : List ℕ). b || list_any (λ bits. bits == 1) pins) o.sweeping o.pins ∙ none_set limit

pub cells_many : length (replicate CELLS no_cell) ≡ CELLS
cells_many = length-replicate CELLS no_cell

pub new_shared : (vars elements limit : ℕ) (x : Shared) → IsOpening vars elements limit x.store → x.cells.items ≡ replicate CELLS None → IsNew vars elements limit x
new_shared vars elements limit x o cells = record {
  store = o;
  counts_are = λ i. (opened_variables i, opened_elements i, o.slots_are i);
  orders_are = λ i. record { variables = o.variables_at i; elements = o.elements_at i };
  as_many = length-map x.cells.items (held_in (view_of x)) ∙ ap (λ (l : List (Option Cell)). length l) cells ∙ cells_many;
  empty = ap (λ (l : List (Option Cell)). cell_in (map (held_in (view_of x)) l)) cells ∙ (λ k i. cells_none (view_of x) CELLS i k);
  kept = subst (λ (l : List (Option Cell)). Each (IsKeptCell keeps board counts orders x) (map (held_in (view_of x)) l)) (sym cells) (cells_kept x (view_of x) CELLS);
}
  where
    opened_variables : (view_of x).vars ≡ vars
    opened_variables = ap (λ l. length l) o.variable_levels ∙ length-range_with_len 0 vars

    opened_elements : (view_of x).elements ≡ elements
    opened_elements = ap (λ l. length l) o.element_levels ∙ length-range_with_len 0 elements
