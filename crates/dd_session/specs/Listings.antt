-- What a listing of rows tells.
use Rattle.std.specs.Prelude.{◌≡◌, ℕ, ◌^◌, ◌<◌, Bool, List, [], ◌∷◌, ◌++◌, All, length, map, Option, Some}
use Rattle.diagram_dumps.specs.declared.listings.Listing.{Listing}
use Rattle.diagram_dumps.specs.Listings.{IsListing}
use Rattle.function_laws.specs.declared.history.Entry.{Entry}
use Rattle.function_laws.specs.declared.history.Function.{Function}
use Rattle.function_laws.specs.declared.history.Function.TheVariants.{Bdd}
use Rattle.function_laws.specs.declared.history.Name.{Name}
use Rattle.function_laws.specs.Lists.{list_of}
use Rattle.seat_guard.specs.declared.view.Noted.{Noted}
use Rattle.dd_session.specs.Sessions.{Seen, known_sizes, sizes_at, stands_now, variables_in}

-- The listing of what some names stand for, in their order: functions of n variables, each with 2 ^ n values.
pub record ListsRows (n : ℕ) (stands : Name → Option Function) (names : List Name) (listing : Listing) : Type 0 where
  pub functions : List (ℕ → Bool)
  pub stand : map stands names ≡ map (λ f. Some (Bdd (list_of (2 ^ n) f))) functions
  pub wide : length listing.order ≡ n
  pub is_listing : IsListing listing.order functions listing

-- The session noted what there was at a place above all its calls, and nothing else of it changed but what its last turn stored. The listing is that of the names under the order of the variables that it noted.
pub record IsListed (old new : Seen) (names : List Name) (listing : Listing) : Type 0 where
  pub note : Noted
  pub new_is : new ≡ record old { noted = old.noted ++ note ∷ []; found = new.found; stored = new.stored; turns = new.turns; due = new.due }
  pub later : All (λ (e : Entry). e.place < note.place) old.entries
  pub order_is : listing.order ≡ note.variable_order
  -- what there was at the place; so far no call adds a variable or an element
  pub rows_noted : note.rows ≡ old.rows
  pub sizes_are : sizes_at note ≡ known_sizes old
  pub lists : ListsRows (variables_in old) (stands_now old) names listing
