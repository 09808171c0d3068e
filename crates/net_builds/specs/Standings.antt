-- What is seen of a session that builds functions, and what its calls leave.
use Rattle.std.specs.Prelude.{◌≡◌, ℕ, ◌+◌, ◌<◌, ◌≤◌, ◌^◌, Bool, false, List, [], ◌∷◌, ◌++◌, All, Contains, Option, Some, length, map}
use Rattle.diagram_dumps.specs.declared.listings.Listing.{Listing}
use Rattle.diagram_dumps.specs.Listings.{IsListing}
use Rattle.edge_bits.specs.declared.limits.TheConstants.{MOST_ROWS}
use Rattle.function_laws.specs.declared.history.Call.TheVariants as calls
use Rattle.function_laws.specs.declared.history.Entry.{Entry}
use Rattle.function_laws.specs.declared.history.Function.{Function}
use Rattle.function_laws.specs.declared.history.Function.TheVariants.{Add, Bdd, Zdd}
use Rattle.function_laws.specs.declared.history.Name.{Name}
use Rattle.function_laws.specs.declared.history.Reply.TheVariants as replies
use Rattle.function_laws.specs.declared.history.Sifting.{Sifting}
use Rattle.function_laws.specs.declared.orders.Order.TheVariants.{Variables}
use Rattle.function_laws.specs.EntryOrders.{orders_after}
use Rattle.function_laws.specs.Handovers.{posts_to}
use Rattle.function_laws.specs.Kinds.{AddFunction, BddFunction, Denoted, ZddFamily}
use Rattle.function_laws.specs.Lists.{list_of}
use Rattle.function_laws.specs.SessionEntries.{entry}
use Rattle.function_laws.specs.SiftedOrders.{sifted}
use Rattle.function_laws.specs.Sizes.{Orders}
use Rattle.sift_laws.specs.Alike.{whole_block}
use Rattle.net_builds.specs.Handed.{IsPlain}
use Rattle.net_builds.specs.declared.host.HostRefusal.{HostRefusal}
use Rattle.net_builds.specs.declared.host.HostRefusal.TheVariants as stops

-- what a session noted, and the place in the history at which it did: the order of the variables, and what its names stood for
pub record Note : Type 0 where
  pub place : ℕ
  pub order : List ℕ
  pub stands : Name → Option Function

-- What is seen of a session.
pub record Standing : Type 0 where
  -- how many variables its functions have
  pub vars : ℕ
  -- which session of the history it is
  pub number : ℕ
  -- how many names it has given: each has a generation below that
  pub adds : ℕ
  -- how many rows are live
  pub rows : ℕ
  -- what a name stands for
  pub stands : Name → Option Function
  -- its calls, in its order
  pub entries : List Entry
  -- what it noted at its listings, the oldest first
  pub notes : List Note
  -- what there was at the places of its calls, the oldest first
  pub placed : List Note

-- the list of the values of a function of so many variables, as a row stands for it
abbrev pub values_of : ℕ → (ℕ → Bool) → Option Function
values_of vars f = Some (Bdd (list_of (2 ^ vars) f))

-- the name stands for this function of the variables
pub record Holds (s : Standing) (name : Name) (f : ℕ → Bool) : Type 0 where
  pub stands : s.stands name ≡ values_of s.vars f
  pub given : name.generation < s.adds

-- the name stands for some function of the variables
abbrev pub IsHeld : Standing → Name → Type 0
IsHeld s name = (f : ℕ → Bool) × Holds s name f

-- the name stands for a list of truth values, of whatever length
abbrev pub IsLive : Standing → Name → Type 0
IsLive s name = (f : List Bool) × (s.stands name ≡ Some (Bdd f)) × (name.generation < s.adds)

-- the session may make one more row
abbrev pub HasRoom : Standing → Type 0
HasRoom s = s.rows < MOST_ROWS

-- the entry leaves both orders as they are: it swaps no levels and sifts nothing
abbrev pub KeepsOrders : Entry → Type 0
KeepsOrders e = (orders : Orders) → orders_after orders e.call e.reply ≡ orders

-- the entry adds no variable and no element, posts to no cell, and leaves both orders as they are
pub record IsQuiet (e : Entry) : Type 0 where
  pub plain : IsPlain e
  pub posts : (cell : ℕ) → posts_to cell e.call ≡ false
  pub keeps : KeepsOrders e

-- Some calls were made, each of which is such an entry. The session gave no name twice, and noted nothing.
pub record Gains (P : Entry → Type 0) (old new : Standing) : Type 0 where
  pub vars_are : new.vars ≡ old.vars
  pub number_is : new.number ≡ old.number
  pub notes_are : new.notes ≡ old.notes
  pub gained : List Entry
  pub entries_are : new.entries ≡ old.entries ++ gained
  pub each : All P gained
  pub more : old.adds ≤ new.adds
  -- and it has what there was at their places
  pub behind : List Note
  pub placed_are : new.placed ≡ old.placed ++ behind

-- calls were made that add no variable and no element and post to no cell
abbrev pub Works : Standing → Standing → Type 0
Works = Gains IsQuiet

-- each name that was given before stands for what it stood for
abbrev pub KeepsAll : Standing → Standing → Type 0
KeepsAll old new = (other : Name) → other.generation < old.adds → new.stands other ≡ old.stands other

-- and but for one name
abbrev pub KeepsOthers : Standing → Standing → Name → Type 0
KeepsOthers old new gone = (other : Name) → other.generation < old.adds → (other.generation ≡ gone.generation → ⊥) → new.stands other ≡ old.stands other

-- the name is new, and stands for the function
pub record Makes (old new : Standing) (name : Name) (f : ℕ → Bool) : Type 0 where
  pub works : Works old new
  pub holds : Holds new name f
  pub newer : old.adds ≤ name.generation
  pub kept : KeepsAll old new
  pub rows : new.rows ≤ old.rows + 1

-- the name was let go, by calls that were answered Done, and each other one stands for what it stood for
pub record LetsGo (old new : Standing) (gone : Name) : Type 0 where
  pub works : Works old new
  pub done : All (λ (e : Entry). e.reply ≡ replies.Done) works.gained
  pub kept : (other : Name) → (other.generation ≡ gone.generation → ⊥) → new.stands other ≡ old.stands other
  pub rows : new.rows + 1 ≡ old.rows

-- a call told something, and changed no row
pub record Asks (old new : Standing) : Type 0 where
  pub works : Works old new
  pub kept : (other : Name) → new.stands other ≡ old.stands other
  pub rows : new.rows ≤ old.rows

-- one of the entries tells of the refusal, or it is want of memory
abbrev pub IsCaused : {F : Type 0} → (F → Entry → Type 0) → List Entry → HostRefusal F → Type 0
IsCaused tells entries stops.Memory = Unit {0}
IsCaused tells entries (stops.Full full) = (e : Entry) × Contains entries e × tells full e

-- the name was posted to the cell, at this place, above all calls so far, where each name stood for what it did before; that changed no row
pub record Posts (cell : ℕ) (old new : Standing) (from : Name) (place : ℕ) : Type 0 where
  pub vars_are : new.vars ≡ old.vars
  pub number_is : new.number ≡ old.number
  pub notes_are : new.notes ≡ old.notes
  pub adds_are : new.adds ≡ old.adds
  pub rows : new.rows ≤ old.rows
  pub entries_are : new.entries ≡ old.entries ++ entry place old.number (calls.Post cell from) replies.Done ∷ []
  pub later : All (λ (e : Entry). e.place < place) old.entries
  pub note : Note
  pub place_is : note.place ≡ place
  pub stood : (other : Name) → note.stands other ≡ old.stands other
  pub placed_are : new.placed ≡ old.placed ++ note ∷ []
  pub kept : (other : Name) → new.stands other ≡ old.stands other

-- a name was fetched from the cell, which had a function of truth values posted or not
pub record Fetches (cell : ℕ) (old new : Standing) (kind to : Name) (posted : Bool) (place : ℕ) : Type 0 where
  pub vars_are : new.vars ≡ old.vars
  pub number_is : new.number ≡ old.number
  pub notes_are : new.notes ≡ old.notes
  pub more : old.adds ≤ new.adds
  pub entries_are : new.entries ≡ old.entries ++ entry place old.number (calls.Fetch cell kind) (replies.Fetched to posted) ∷ []
  pub behind : List Note
  pub placed_are : new.placed ≡ old.placed ++ behind
  pub newer : old.adds ≤ to.generation
  pub held : IsLive new to
  pub kept : KeepsAll old new
  pub rows : new.rows ≤ old.rows + 1

-- what a slot denotes, of n variables and m elements, as a whole list
abbrev pub whole_in : ℕ → ℕ → Denoted → Function
whole_in n m (BddFunction f) = Bdd (list_of (2 ^ n) f)
whole_in n m (AddFunction f) = Add (list_of (2 ^ n) f)
whole_in n m (ZddFamily p) = Zdd (list_of (2 ^ m) p)

-- What a sift told of n variables, in one default block and by this limit: the order that is left is that of the definition for the functions that were pinned.
pub record IsSiftedBy (limit n : ℕ) (told : Sifting) : Type 0 where
  pub elements : ℕ
  pub pinned : List Denoted
  pub functions_are : told.functions ≡ map (whole_in n elements) pinned
  pub order_is : told.order ≡ (sifted (record { variables = told.variables; elements = told.elements }) Variables (whole_block n) limit pinned).order

-- The variables were sifted at this place, above all calls so far, where each name stood for what it did before; that changed no row.
pub record Sifts (limit : ℕ) (old new : Standing) (place : ℕ) : Type 0 where
  pub vars_are : new.vars ≡ old.vars
  pub number_is : new.number ≡ old.number
  pub notes_are : new.notes ≡ old.notes
  pub adds_are : new.adds ≡ old.adds
  pub rows : new.rows ≤ old.rows
  pub told : Sifting
  pub sift : IsSiftedBy limit old.vars told
  pub entries_are : new.entries ≡ old.entries ++ entry place old.number (calls.Sift told) replies.Done ∷ []
  pub later : All (λ (e : Entry). e.place < place) old.entries
  pub note : Note
  pub place_is : note.place ≡ place
  pub stood : (other : Name) → note.stands other ≡ old.stands other
  pub placed_are : new.placed ≡ old.placed ++ note ∷ []
  pub kept : (other : Name) → new.stands other ≡ old.stands other

-- The listing of what some names stand for, in their order. The session noted the order of the variables and what its names stand for, at a place above all its calls.
pub record Lists (old new : Standing) (names : List Name) (listing : Listing) : Type 0 where
  pub place : ℕ
  pub new_is : new ≡ record old { notes = old.notes ++ record { place = place; order = listing.order; stands = old.stands } ∷ [] }
  pub later : All (λ (e : Entry). e.place < place) old.entries
  pub functions : List (ℕ → Bool)
  pub stand : map old.stands names ≡ map (values_of old.vars) functions
  pub wide : length listing.order ≡ old.vars
  pub is_listing : IsListing listing.order functions listing
