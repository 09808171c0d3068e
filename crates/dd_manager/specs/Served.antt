-- What a call leaves of a manager, and when each status comes.
use Rattle.std.specs.Prelude.{IfSome, ◌≡◌, ◌+◌, ◌<◌, ◌≤◌, ℕ, pos, [], Option, Some, None}
use Rattle.edge_bits.specs.declared.limits.TheConstants.{MOST_ELEMENTS, MOST_SLOTS, MOST_VARIABLES}
use Rattle.computed_cache.specs.Entries.{places}
use Rattle.dead_sweep.specs.declared.sweeping.Swept.{Swept}
use Rattle.dead_sweep.specs.Swept.{IsSwept}
use Rattle.node_slots.specs.Held.{Alone}
use Rattle.node_slots.specs.Stores.{IsOpening}
use Rattle.node_slots.specs.Wholes.{content_view}
use Rattle.store_upkeep.specs.Lasting.{orders_of}
use Rattle.store_rows.specs.RowStores.{RowStoreView}
use Rattle.dd_manager.specs.declared.lists.Lists.{Lists}
use Rattle.dd_manager.specs.declared.requests.Answer.{Answer}
use Rattle.dd_manager.specs.declared.requests.Asked.{Asked}
use Rattle.dd_manager.specs.declared.requests.Asked.TheVariants as asked
use Rattle.dd_manager.specs.declared.requests.Request.{Request}
use Rattle.dd_manager.specs.declared.serving.Manager.{Manager}
use Rattle.dd_manager.specs.declared.statuses.Status.TheVariants as statuses
use Rattle.dd_manager.specs.Answers.{HasValue, Says}
use Rattle.dd_manager.specs.LevelCalls.{ServesLevel, Stays}
use Rattle.dd_manager.specs.ListCalls.{AreClear, AreEmpty, ServesList}
use Rattle.dd_manager.specs.Makings.{MakesBy}
use Rattle.dd_manager.specs.NodeCalls.{ServesNode}
use Rattle.dd_manager.specs.Requests.{Codes, is_foreign, names_taken}
use Rattle.dd_manager.specs.RowCalls.{ServesRow}

-- A sweep frees exactly what nothing reaches, and tells how many slots are left in use.
abbrev pub SweepsBy : RowStoreView → RowStoreView → Answer → Type 0
SweepsBy was now a = Stays was now × ((swept : Swept) × IsSwept Alone (content_view was.store) (content_view now.store) swept × HasValue (pos swept.in_use) a)

-- what a call on the rows leaves of them
abbrev pub ServesRows : Asked → ℕ → RowStoreView → Lists → Request → RowStoreView → Answer → Type 0
ServesRows asked.Makes manager was lists r now a = MakesBy (is_foreign manager (names_taken r.call) r) manager was lists r now a
ServesRows (asked.Row call) manager was lists r now a = ServesRow call manager was lists r now a
ServesRows (asked.Node call) manager was lists r now a = ServesNode call manager was r now a
ServesRows (asked.Level order call) manager was lists r now a = ServesLevel call order was r now a
ServesRows asked.Sweep manager was lists r now a = SweepsBy was now a
ServesRows _ manager was lists r now a = ⊥

-- Both orders stay, but for a swap and a sift, of which more is said with what they leave.
abbrev pub KeepsOrders : Asked → RowStoreView → RowStoreView → Type 0
KeepsOrders (asked.Level order call) was now = Unit {0}
KeepsOrders _ was now = orders_of now.store ≡ orders_of was.store

-- What a call leaves of an open manager, by what it asks.
abbrev pub Serves : Asked → ℕ → RowStoreView → Lists → Request → Option RowStoreView → Lists → Answer → Type 0
Serves (asked.List call) manager was lists r now after a = (now ≡ Some was) × ServesList call manager lists r after a
Serves asked.Close manager was lists r now after a = (now ≡ None) × AreEmpty after × Says statuses.Done a
Serves asked.Nothing manager was lists r now after a = (now ≡ Some was) × (after ≡ lists) × Says statuses.Call a
Serves what manager was lists r now after a = (e : RowStoreView) × (now ≡ Some e) × (after ≡ lists) × ServesRows what manager was lists r e a × KeepsOrders what was e

-- What is left of the rows of an open manager where a call has to take them: for a making each row with its function, and both orders.
abbrev pub Waits : Asked → RowStoreView → RowStoreView → Type 0
Waits asked.Makes was now = Stays was now
Waits (asked.Level order call) was now = now ≡ was
Waits asked.Sweep was now = now ≡ was
Waits asked.Close was now = now ≡ was
Waits _ was now = ⊥

-- A closed manager stays closed, with its lists as they are, and says so. An open one does what is asked.
abbrev pub ServesIn : Option RowStoreView → Manager → Request → Manager → Answer → Type 0
ServesIn None was r now a = (now.rows ≡ None) × (now.lists ≡ was.lists) × Says statuses.Closed a
ServesIn (Some d) was r now a = (what : Asked) × Codes what r.call × Serves what was.number d was.lists r now.rows now.lists a

pub record IsServed (was : Manager) (r : Request) (now : Manager) (a : Answer) : Type 0 where
  pub served : ServesIn was.rows was r now a
  pub number : now.number ≡ was.number

-- numbers with which a manager can be opened
pub record CanOpen (vars elements limit : ℕ) : Type 0 where
  pub few_vars : vars ≤ MOST_VARIABLES
  pub few_elements : elements ≤ MOST_ELEMENTS
  pub least : 5 + vars ≤ limit
  pub most : limit ≤ MOST_SLOTS

-- A manager as it is opened: it has its number, and nothing is listed. Where it is open the numbers are in range, and it has no row, and a
-- store of so many variables, elements and slots, with room for so many answers of operations where that is told.
pub record IsFresh (number vars elements limit remembered : ℕ) (m : Manager) : Type 0 where
  pub is_number : m.number ≡ number
  pub lists : AreClear m.lists
  pub rows : IfSome m.rows (λ rows. CanOpen vars elements limit × IsOpening vars elements limit rows.store × (rows.rows.live ≡ []))
  pub remembers : 0 < remembered → IfSome m.rows (λ rows. places rows.store.memo ≡ remembered)
