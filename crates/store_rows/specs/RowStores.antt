-- A store with rows that hold its functions.
use Rattle.std.specs.Prelude.{◌≡◌, ◌+◌, ◌==◌, ℕ, false, if◌then◌else◌, List, [], ◌∷◌, Option, Some, None}
use Rattle.edge_bits.specs.declared.edges.Edge.{Edge}
use Rattle.edge_bits.specs.declared.edges.Kind.{Kind}
use Rattle.function_laws.specs.declared.history.Name.{Name}
use Rattle.function_laws.specs.Kinds.{ValueOf}
use Rattle.function_laws.specs.Tables.{same_name}
use Rattle.handle_count.specs.declared.rows.Held.{Held}
use Rattle.handle_count.specs.RowMaps.{RowMap, find_row}
use Rattle.node_store.specs.Views.{View, Denotes, Is}
use Rattle.node_slots.specs.Stores.{Plain, count_at, is_held, plain_view}
use Rattle.store_upkeep.specs.Lasting.{one_if}

-- each row's edge denotes a function of the row's kind
abbrev pub HoldsAll : View → List Held → Type 0
HoldsAll w [] = Unit {0}
HoldsAll w (held ∷ rest) = Is held.kind w held.edge × HoldsAll w rest

-- how many rows hold the slot k
abbrev pub rows_at : ℕ → List Held → ℕ
rows_at k [] = 0
rows_at k (held ∷ rest) = one_if (held.edge.index == k) + rows_at k rest

-- the store, the live rows, and how many were made so far
pub record RowStoreView : Type 0 where
  pub store : Plain
  pub rows : RowMap
  pub made : ℕ

abbrev pub view_of : RowStoreView → View
view_of d = plain_view d.store

-- No sweep is on and no slot is pinned; each row's edge denotes a function of the row's kind; each slot is counted as often as rows hold it.
pub record IsRowStore (d : RowStoreView) : Type 0 where
  pub rest : is_held d.store ≡ false
  pub adds : d.rows.adds ≡ d.made
  pub held : HoldsAll (view_of d) d.rows.live
  pub counted : (k : ℕ) → count_at d.store k ≡ rows_at k d.rows.live

-- the name is that of a live row of this kind
abbrev pub IsLiveAs : Kind → List Held → Name → Type 0
IsLiveAs k live h = (held : Held) × (find_row live h ≡ Some held) × (held.kind ≡ k)

abbrev pub IsLive : List Held → Name → Type 0
IsLive live h = (k : Kind) × IsLiveAs k live h

abbrev pub edge_or : Option Held → Edge
edge_or None = record { index = 0; complement = false }
edge_or (Some held) = held.edge

-- the edge of a live row
abbrev pub edge_in : List Held → Name → Edge
edge_in live h = edge_or (find_row live h)

-- the name's row has this kind and this function
abbrev pub Names : RowStoreView → (k : Kind) → Name → (ℕ → ValueOf k) → Type 0
Names d k h f = IsLiveAs k d.rows.live h × Denotes k (view_of d) (edge_in d.rows.live h) f

-- In this view the edges of the rows denote the functions that the rows have.
pub record HasRows (d : RowStoreView) (w : View) : Type 0 where
  pub vars : w.vars ≡ (view_of d).vars
  pub elements : w.elements ≡ (view_of d).elements
  pub slots : w.slots ≡ (view_of d).slots
  pub functions : (k : Kind) (h : Name) (f : ℕ → ValueOf k) → Names d k h f → Denotes k w (edge_in d.rows.live h) f

-- no row came or went, and each has its function
pub record Same (old new : RowStoreView) : Type 0 where
  pub live : new.rows.live ≡ old.rows.live
  pub has : HasRows old (view_of new)

-- the row that a name has then
abbrev pub with_row : Name → Option Held → List Held → Name → Option Held
with_row h row live name = if same_name name h then row else find_row live name

-- A row of this kind and this edge came, under a name that was not live. All others stay, and have their functions.
pub record Gains (old new : RowStoreView) (h : Name) (k : Kind) (e : Edge) : Type 0 where
  pub found : (name : Name) → find_row new.rows.live name ≡ with_row h (Some (record { name = h; kind = k; edge = e })) old.rows.live name
  pub unused : find_row old.rows.live h ≡ None
  pub has : HasRows old (view_of new)
  pub is : Is k (view_of new) e

-- A row went. All others stay, and have their functions.
pub record Loses (old new : RowStoreView) (h : Name) : Type 0 where
  pub found : (name : Name) → find_row new.rows.live name ≡ with_row h None old.rows.live name
  pub has : HasRows old (view_of new)

-- slots may be counted otherwise, and nothing else is another
abbrev pub differs_in_counts : View → View → Type 0
differs_in_counts v w = w ≡ record v { count = w.count }
