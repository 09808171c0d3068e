-- What a making of rows takes, and what comes of it.
use Rattle.std.specs.Prelude.{◌≡◌, ℕ, List, Some, Result, Ok, Err, MatchResult}
use Rattle.edge_bits.specs.declared.edges.Edge.{Edge}
use Rattle.function_laws.specs.declared.history.Name.{Name}
use Rattle.function_laws.specs.declared.making.Making.{Making}
use Rattle.function_laws.specs.Kinds.{Denoted}
use Rattle.function_laws.specs.Makings.{kind_made, taken}
use Rattle.handle_count.specs.declared.rows.Held.{Held}
use Rattle.dead_sweep.specs.declared.sweeping.Swept.{Swept}
use Rattle.dead_sweep.specs.Swept.{IsSwept}
use Rattle.node_slots.specs.Held.{Alone}
use Rattle.node_slots.specs.Stores.{HasNoFree, IsUnknown, Plain, plain_view}
use Rattle.node_slots.specs.Wholes.{content_view}
use Rattle.node_store.specs.declared.grow.Stop.{Stop}
use Rattle.node_store.specs.declared.grow.Stop.TheVariants as stops
use Rattle.node_store.specs.Views.{Grown, View}
use Rattle.node_store.specs.Work.{IsWork}
use Rattle.operator_calls.specs.declared.unmade.Unmade.{Unmade}
use Rattle.operator_calls.specs.Making.{answer, unmade, work}
use Rattle.operator_calls.specs.Taking.{CanTakeAll, renamed_by}
use Rattle.store_rows.specs.RowStores.{Gains, HasRows, IsLiveAs, RowStoreView, Same, edge_in, view_of}

-- rows of the kinds that it takes, and variables, elements and values that there are
abbrev pub CanMake : RowStoreView → Making Name (List ℕ) (List (ℕ × Name)) → Type 0
CanMake d making = CanTakeAll (λ k h. IsLiveAs k d.rows.live h) (view_of d).vars (view_of d).vars (view_of d).elements (taken making)

-- what makes the function of the edges of some rows
abbrev pub by_edges : List Held → Making Name (List ℕ) (List (ℕ × Name)) → Making Edge (List ℕ) (List (ℕ × Edge))
by_edges live making = renamed_by (edge_in live) making

-- a new row has the function that is made of those of the rows in a view, or it is told why there is none
abbrev pub MadeFrom : RowStoreView → RowStoreView → Making Name (List ℕ) (List (ℕ × Name)) → View → Result Name Unmade → Type 0
MadeFrom old new making from (Ok h) = (e : Edge) × Gains old new h (kind_made (by_edges old.rows.live making)) e × answer (by_edges old.rows.live making) from (view_of new) e
MadeFrom old new making from (Err why) = Same old new × unmade (by_edges old.rows.live making) from why

-- the same, of the functions that the rows have
pub record Makes (old new : RowStoreView) (making : Making Name (List ℕ) (List (ℕ × Name))) (told : Result Name Unmade) : Type 0 where
  pub from : View
  pub has : HasRows old from
  pub made : MadeFrom old new making from told

-- No slot of a store is free, and no edge denotes some part of what is to be stored.
pub record IsFull (making : Making Edge (List ℕ) (List (ℕ × Edge))) (from : View) (p : Plain) : Type 0 where
  pub function : Denoted
  pub part : IsWork (plain_view p) (work making from) (Some function)
  pub unknown : IsUnknown p function
  pub none_free : HasNoFree p

-- Nothing was made, and no row is another. Where no slot was free, that is so.
pub record Denies (old new : RowStoreView) (making : Making Name (List ℕ) (List (ℕ × Name))) (stop : Stop) : Type 0 where
  pub same : Same old new
  pub from : View
  pub has : HasRows old from
  pub full : stop ≡ stops.Full → IsFull (by_edges old.rows.live making) from new.store

-- A store that has the rows was swept, and only grew since.
pub record IsSweptFirst (old new : RowStoreView) : Type 0 where
  pub start : RowStoreView
  pub same : Same old start
  pub between : RowStoreView
  pub swept : Swept
  pub is_swept : IsSwept Alone (content_view start.store) (content_view between.store) swept
  pub grown : Grown (view_of between) (view_of new)

abbrev pub Tells : RowStoreView → RowStoreView → Making Name (List ℕ) (List (ℕ × Name)) → Result (Result Name Unmade) Stop → Type 0
Tells old new making result = MatchResult result (Makes old new making) (Denies old new making)
