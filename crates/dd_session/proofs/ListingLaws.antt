-- What a listing of rows tells, and leaves.
use Rattle.std.proofs.Common.{◌≡◌, ℕ, ◌^◌, ◌<◌, Bool, List, [], ◌∷◌, ◌++◌, All, length, map, Option, Some, option_map, Result, Ok, Err, IfOk, refl, ap, ap₂, sym, subst, ◌∙◌, arith}
use Rattle.std.proofs.lemmas.List.Elements.{All-cons, All-head, All-nil, All-tail}
use Rattle.atomic_table.specs.Seated.{TableId}
use Rattle.diagram_dumps.specs.declared.listings.Listing.{Listing}
use Rattle.diagram_dumps.specs.Listings.{IsListing}
use Rattle.edge_bits.specs.declared.edges.Edge.{Edge}
use Rattle.edge_bits.specs.declared.lists.Memory.{Memory}
use Rattle.edge_bits.specs.declared.edges.Kind.TheVariants as kinds
use Rattle.function_laws.specs.declared.history.Entry.{Entry}
use Rattle.function_laws.specs.declared.history.Function.{Function}
use Rattle.function_laws.specs.declared.history.Function.TheVariants.{Bdd}
use Rattle.function_laws.specs.declared.history.Name.{Name}
use Rattle.function_laws.specs.Lists.{list_of}
use Rattle.function_laws.specs.Sizes.{Orders}
use Rattle.node_slots.specs.Stores.{IsStore}
use Rattle.node_store.specs.Views.{Is, bdd_at}
use Rattle.seat_guard.specs.declared.view.Counts.{Counts}
use Rattle.seat_guard.specs.declared.view.Draws.{Draws}
use Rattle.seat_guard.specs.declared.view.Leaving.{Leaving}
use Rattle.function_laws.specs.Widening.{at_sizes}
use Rattle.seat_guard.specs.Views.{known_as, letting_go, note_of, noting, sizes_for, stands_for}
use Rattle.shared_store.specs.declared.shared.Shared.{Shared}
use Rattle.shared_store.specs.Sharing.{Serving, view_of}
use Rattle.shared_store.specs.Storing.{IsLeaving}
use Rattle.dd_session.specs.declared.book.Book.{Book}
use Rattle.dd_session.specs.Listings.{IsListed, ListsRows}
use Rattle.dd_session.specs.Sessions.{IsNamed, edge_in, fulls_in}
use Rattle.dd_session.specs.Turns.{Keeps, Stands, Took, seen_by}
use Rattle.std.proofs.Math.Nat.{zero-add}
use Rattle.dd_session.proofs.Calls.{seen_sizes}
use Rattle.dd_session.proofs.Naming.{own_edge}
use Rattle.dd_session.proofs.Soundness.{sound_same, sizes_of}
use Rattle.dd_session.proofs.Tying.{tied_same}

-- a store that serves keeps the rows
pub serving_stands : (d : Draws) (c : Counts) (x : Shared) → Serving x d c → Stands (view_of x) d
serving_stands d c x serves = record { rows_kept = serves.rows_kept; counts_are = serves.counts_are }

module _ (d : Draws) (x : Shared) (stands : Stands (view_of x) d) where
  -- the edges of BDDs' rows are BDDs of the store
  pub edges_are : (names : List Name) → All (IsNamed kinds.Bdd d.rows) names → All (Is kinds.Bdd (view_of x)) (map (edge_in d.rows) names)
  edges_are [] all = All-nil (Is kinds.Bdd (view_of x))
  edges_are (name ∷ names) all = All-cons (Is kinds.Bdd (view_of x)) (edge_in d.rows name) (map (edge_in d.rows) names)
      (own_edge d name kinds.Bdd (All-head (IsNamed kinds.Bdd d.rows) name names all) (view_of x) stands).0
      (edges_are names (All-tail (IsNamed kinds.Bdd d.rows) name names all))

  -- and the names stand for what they denote
  stand_all : (names : List Name) → All (IsNamed kinds.Bdd d.rows) names
      → map (known_as d) names ≡ map (λ (f : ℕ → Bool). Some (Bdd (list_of (2 ^ d.vars) f))) (map (bdd_at (view_of x)) (map (edge_in d.rows) names))
  stand_all [] all = refl
  stand_all (name ∷ names) all = ap₂ (λ (o : Option Function) (os : List (Option Function)). o ∷ os)
      (ap (λ (p : ℕ × ℕ × ℕ). option_map (at_sizes (sizes_for p.0 p.1)) (stands_for d.rows name)) (sym stands.counts_are)
      ∙ (own_edge d name kinds.Bdd (All-head (IsNamed kinds.Bdd d.rows) name names all) (view_of x) stands).1
      ∙ ap (λ (z : ℕ × ℕ × ℕ). Some (Bdd (list_of (2 ^ z.0) (bdd_at (view_of x) (edge_in d.rows name))))) stands.counts_are)
      (stand_all names (All-tail (IsNamed kinds.Bdd d.rows) name names all))

  pub lists_rows : (names : List Name) (edges : List Edge) (listing : Listing) (c : Counts) → Serving x d c → IsStore x.store → All (IsNamed kinds.Bdd d.rows) names → edges ≡ map (edge_in d.rows) names
      → IsListing x.store.variables_at (map (bdd_at (view_of x)) edges) listing → (listing.order ≡ d.variable_order) × ListsRows d.vars (known_as d) names listing
  lists_rows names edges listing c serves store all is told = (
    told.order_is ∙ ap (λ (o : Orders). o.variables) serves.orders_are,
    record {
      functions = map (bdd_at (view_of x)) edges;
      stand = stand_all names all ∙ ap (λ (l : List Edge). map (λ (f : ℕ → Bool). Some (Bdd (list_of (2 ^ d.vars) f))) (map (bdd_at (view_of x)) l)) (sym is);
      wide = ap (λ (l : List ℕ). length l) told.order_is ∙ store.variables_stand.as_many ∙ ap (λ (z : ℕ × ℕ × ℕ). z.0) stands.counts_are;
      is_listing = subst (λ (order : List ℕ). IsListing order (map (bdd_at (view_of x)) edges) listing) (sym told.order_is) told;
    },
  )

pub list_told : (d : Draws) (c : Counts) (x : Shared) (names : List Name) (edges : List Edge) → Serving x d c → IsStore x.store → All (IsNamed kinds.Bdd d.rows) names → edges ≡ map (edge_in d.rows) names
    → (r : Result Listing Memory) → IfOk r (IsListing x.store.variables_at (map (bdd_at (view_of x)) edges)) → IfOk r (λ listing. (listing.order ≡ d.variable_order) × ListsRows d.vars (known_as d) names listing)
list_told d c x names edges serves store all is (Ok listing) told = lists_rows d x (serving_stands d c x serves) names edges listing c serves store all is told
list_told d c x names edges serves store all is (Err e) told = tt

-- a store that serves still does once the orders are noted
pub serves_noting : (d : Draws) (c : Counts) (x : Shared) (place : ℕ) → Serving x d c → Serving x (noting d place) c
serves_noting d c x place serves = record { rows_kept = serves.rows_kept; raised_kept = serves.raised_kept; owed_kept = serves.owed_kept; others_kept = serves.others_kept; cells_kept = serves.cells_kept; board_is = serves.board_is; counts_are = serves.counts_are; orders_are = serves.orders_are }

-- what a listing is for its caller
pub is_listed : (old held new : Draws) (x : Shared) (table table' : TableId) (spare place : ℕ) (l : Leaving) (names : List Name) (listing : Listing) → table' ≡ table → Took old held x → new ≡ letting_go (noting held place) l
    → All (λ (e : Entry). e.place < place) held.entries → (listing.order ≡ held.variable_order) × ListsRows held.vars (known_as held) names listing → IsListed (seen_by table old spare) (seen_by table' new spare) names listing
is_listed old held new x table table' spare place l names listing same took left later lists = record {
  note = note_of held place;
  new_is = subst (λ (i : TableId). seen_by i new spare ≡ record (seen_by table old spare) { noted = old.noted ++ note_of held place ∷ []; found = new.functions; stored = new.stored; turns = new.turns; due = new.due }) (sym same)
      (subst (λ (d : Draws). seen_by table d spare ≡ record (seen_by table old spare) { noted = old.noted ++ note_of held place ∷ []; found = d.functions; stored = d.stored; turns = d.turns; due = d.due }) (sym left)
      (subst (λ (d : Draws). seen_by table (letting_go (noting d place) l) spare ≡ record (seen_by table old spare) { noted = old.noted ++ note_of d place ∷ []; found = d.functions; stored = l.stored; turns = d.turns ++ l.stored ∷ []; due = l.due }) (sym took.is) refl));
  later = subst (λ (es : List Entry). All (λ (e : Entry). e.place < place) es) (ap (λ (d : Draws). d.entries) took.is) later;
  order_is = lists.0;
  rows_noted = ap (λ (d : Draws). d.rows) took.is;
  sizes_are = ap (λ (d : Draws). sizes_for d.vars d.elements) took.is ∙ sym (seen_sizes table old spare);
  lists = subst (λ (p : ℕ × ℕ). ListsRows p.0 (λ name. option_map (at_sizes (sizes_for p.0 p.1)) (stands_for old.rows name)) names listing) (λ i. (sym (zero-add old.vars) i, sym (zero-add old.elements) i))
      (subst (λ (d : Draws). ListsRows d.vars (known_as d) names listing) took.is lists.1);
}

pub leaves_noting : (d : Draws) (y : Shared) (place : ℕ) (l : Leaving) → IsLeaving (noting d place) y l → IsLeaving d y l
leaves_noting d y place l is = record { told = is.told; new = is.new; due_is = is.due_is }

-- the book of a seat that has made no call
pub keeps_uncalled : (d e : Draws) (book : Book) → Keeps d book → sizes_of e ≡ sizes_of d → e.rows ≡ d.rows → e.adds ≡ d.adds → e.entries ≡ d.entries → Keeps e book
keeps_uncalled d e book keeps sizes rows adds entries = record {
  sound = sound_same d e rows sizes keeps.sound;
  rows = tied_same d e book.rows keeps.rows rows adds (let a = ap (λ (l : List Entry). length l) entries in omega (arith, a));
  calls = keeps.calls ∙ sym (ap (λ (l : List Entry). length l) entries);
  fulls = keeps.fulls ∙ sym (ap fulls_in entries);
}
