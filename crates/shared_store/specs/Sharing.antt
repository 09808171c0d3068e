-- What all sessions share, as the rule of their seats sees it.
use Rattle.std.specs.Prelude.{◌≡◌, ◌^◌, ℕ, suc, zero, List, [], ◌∷◌, length, map, Option, Some, None, option_map}
use Rattle.edge_bits.specs.declared.edges.Kind.{Kind}
use Rattle.edge_bits.specs.declared.edges.Kind.TheVariants as kinds
use Rattle.edge_bits.specs.declared.limits.TheConstants.{CELLS}
use Rattle.function_laws.specs.declared.history.Function.{Function}
use Rattle.function_laws.specs.declared.history.Function.TheVariants.{Bdd, Add, Zdd}
use Rattle.function_laws.specs.EntryOrders.{opening_orders}
use Rattle.function_laws.specs.SessionEntries.{Each}
use Rattle.function_laws.specs.Kinds.{Denoted, BddFunction, AddFunction, ZddFamily}
use Rattle.function_laws.specs.Lists.{list_of}
use Rattle.function_laws.specs.Sizes.{Orders}
use Rattle.function_laws.specs.Widening.{at_sizes}
use Rattle.node_store.specs.Listed.{listed_at}
use Rattle.node_store.specs.Views.{View, Is}
use Rattle.node_slots.specs.Stores.{IsOpening, plain_view, count_at, generation_at}
use Rattle.seat_guard.specs.declared.view.Held.{Held}
use Rattle.seat_guard.specs.declared.view.Counts.{Counts}
use Rattle.seat_guard.specs.declared.view.Draws.{Draws}
use Rattle.seat_guard.specs.Views.{cell_in, sizes_for}
use Rattle.seat_guard.specs.Turn.{IsKeptCell, Serves}
use Rattle.shared_store.specs.declared.shared.Cell.{Cell}
use Rattle.shared_store.specs.declared.shared.Shared.{Shared}

abbrev pub kind_of : Function → Kind
kind_of (Bdd f) = kinds.Bdd
kind_of (Add f) = kinds.Add
kind_of (Zdd p) = kinds.Zdd

-- a noted function, with the variables and elements that the view has
abbrev pub noted_in : View → Function → Function
noted_in w f = at_sizes (sizes_for w.vars w.elements) f

-- the edge denotes the function, with as many variables and elements
abbrev pub IsHeldIn : View → Held → Type 0
IsHeldIn w held = Is (kind_of held.function) w held.edge × (listed_at (kind_of held.function) w held.edge ≡ noted_in w held.function)

-- a cell with what its edge denotes
abbrev pub held_of : View → Cell → Held
held_of w cell = record { edge = cell.edge; function = listed_at cell.kind w cell.edge }

abbrev pub held_in : View → Option Cell → Option Held
held_in w None = None
held_in w (Some cell) = Some (held_of w cell)

abbrev pub view_of : Shared → View
view_of x = plain_view x.store

-- what the rule of the seats sees

abbrev pub keeps : Shared → Held → Type 0
keeps x held = IsHeldIn (view_of x) held

abbrev pub board : Shared → List (Option Held)
board x = map (held_in (view_of x)) x.cells.items

abbrev pub counts : Shared → ℕ × ℕ × ℕ
counts x = ((view_of x).vars, (view_of x).elements, (view_of x).slots)

-- how often a slot is counted as the store has it, which is told by the count words before a sweep
abbrev pub count : Shared → ℕ → ℕ
count x k = count_at x.store k

abbrev pub orders : Shared → Orders
orders x = record { variables = x.store.variables_at; elements = x.store.elements_at }

abbrev pub generation : Shared → ℕ → ℕ
generation x k = generation_at x.store k

-- what a slot denotes in a store of n variables and m elements, as a whole list
abbrev pub whole_in : ℕ → ℕ → Denoted → Function
whole_in n m (BddFunction f) = Bdd (list_of (2 ^ n) f)
whole_in n m (AddFunction f) = Add (list_of (2 ^ n) f)
whole_in n m (ZddFamily p) = Zdd (list_of (2 ^ m) p)

abbrev pub whole_of : View → Denoted → Function
whole_of w o = whole_in w.vars w.elements o

abbrev pub with_whole : (Denoted → Function) → Option Denoted → List Function → List Function
with_whole whole None rest = rest
with_whole whole (Some o) rest = whole o ∷ rest

-- what those of the first slots denote that are in use
unfoldable pub functions_below : (Denoted → Function) → (ℕ → Option Denoted) → ℕ → List Function
functions_below whole content zero = []
functions_below whole content (suc s) = with_whole whole (content s) (functions_below whole content s)

-- what all nodes denote
abbrev pub functions : Shared → List Function
functions x = functions_below (whole_of (view_of x)) (view_of x).content (view_of x).slots

-- what was due at the last Full
abbrev pub due : Shared → Option Function
due x = option_map (whole_of (view_of x)) (view_of x).due

-- it keeps all that the seat which has the turn knows
abbrev pub Serving : Shared → Draws → Counts → Type 0
Serving x d c = Serves keeps board counts orders x d c

-- A new one, with all that the opening of a table of seats asks for.
pub record IsNew (vars elements limit : ℕ) (x : Shared) : Type 0 where
  pub store : IsOpening vars elements limit x.store
  pub counts_are : counts x ≡ (vars, elements, limit)
  pub orders_are : orders x ≡ opening_orders (sizes_for vars elements)
  pub as_many : length (board x) ≡ CELLS
  pub empty : cell_in (board x) ≡ (λ (i : ℕ). None)
  pub kept : Each (IsKeptCell keeps board counts orders x) (board x)
