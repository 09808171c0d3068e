-- What comes of a call on rows.
use Rattle.std.specs.Prelude.{◌≡◌, ◌⊎◌, ◌↔◌, ℕ, pos, Bool, true, false, take}
use Rattle.edge_bits.specs.declared.edges.Kind.{Kind}
use Rattle.edge_bits.specs.declared.edges.Kind.TheVariants as kinds
use Rattle.function_laws.specs.Kinds.{ValueOf}
use Rattle.function_laws.specs.Values.{assignment_of}
use Rattle.node_store.specs.Listed.{number_of}
use Rattle.node_store.specs.Memo.{Implies}
use Rattle.node_store.specs.Views.{levels}
use Rattle.store_rows.specs.RowStores.{Gains, IsLive, IsLiveAs, Loses, Names, RowStoreView, Same, edge_in, view_of}
use Rattle.dd_manager.specs.declared.lists.Lists.{Lists}
use Rattle.dd_manager.specs.declared.requests.Answer.{Answer}
use Rattle.dd_manager.specs.declared.requests.Request.{Request}
use Rattle.dd_manager.specs.declared.requests.RowCall.{RowCall}
use Rattle.dd_manager.specs.declared.requests.RowCall.TheVariants as calls
use Rattle.dd_manager.specs.declared.statuses.Status.TheVariants as statuses
use Rattle.dd_manager.specs.Answers.{Says, name_in}
use Rattle.dd_manager.specs.Requests.{first, is_foreign, second}

-- a further row with the function of a row
abbrev pub CopiesBy : Bool → ℕ → RowStoreView → Request → RowStoreView → Answer → Type 0
CopiesBy true manager was r now a = Same was now × Says statuses.Handle a
CopiesBy false manager was r now a =
    ((IsLive was.rows.live (first r) → ⊥) × Same was now × Says statuses.Handle a)
    ⊎ ((k : Kind) × IsLiveAs k was.rows.live (first r)
    × ((Gains was now (name_in a) k (edge_in was.rows.live (first r)) × Says statuses.Done a × (a.manager ≡ manager))
    ⊎ (Same was now × Says statuses.Memory a)))

-- a row is let go
abbrev pub DropsBy : Bool → RowStoreView → Request → RowStoreView → Answer → Type 0
DropsBy true was r now a = Same was now × Says statuses.Handle a
DropsBy false was r now a =
    ((IsLive was.rows.live (first r) → ⊥) × Same was now × Says statuses.Handle a)
    ⊎ (IsLive was.rows.live (first r) × Loses was now (first r) × Says statuses.Done a)

-- whether two rows of one kind have one function
abbrev pub TellsSame : Bool → RowStoreView → Request → RowStoreView → Answer → Type 0
TellsSame true was r now a = Same was now × Says statuses.Handle a
TellsSame false was r now a = Same was now × (
    (((IsLive was.rows.live (first r) → ⊥) ⊎ (IsLive was.rows.live (second r) → ⊥)) × Says statuses.Handle a)
    ⊎ ((k : Kind) × IsLiveAs k was.rows.live (first r) × IsLive was.rows.live (second r) × (IsLiveAs k was.rows.live (second r) → ⊥) × Says statuses.Kind a)
    ⊎ ((k : Kind) × IsLiveAs k was.rows.live (first r) × IsLiveAs k was.rows.live (second r) × Says statuses.Done a
    × ((f g : ℕ → ValueOf k) → Names was k (first r) f → Names was k (second r) g → (a.value ≡ pos 1) ↔ (f ≡ g)))
    )

-- the value of a row at the bits of its variables, or elements
abbrev pub TellsValue : Bool → RowStoreView → Lists → Request → RowStoreView → Answer → Type 0
TellsValue true was lists r now a = Same was now × Says statuses.Handle a
TellsValue false was lists r now a = Same was now × (
    ((IsLive was.rows.live (first r) → ⊥) × Says statuses.Handle a)
    ⊎ ((k : Kind) × IsLiveAs k was.rows.live (first r) × Says statuses.Done a
    × ((f : ℕ → ValueOf k) → Names was k (first r) f → a.value ≡ number_of k (f (assignment_of (take (levels k (view_of was)) lists.bits)))))
    )

-- whether a BDD is true wherever another is
abbrev pub TellsImplied : Bool → RowStoreView → Request → RowStoreView → Answer → Type 0
TellsImplied true was r now a = Same was now × Says statuses.Handle a
TellsImplied false was r now a = Same was now × (
    (((IsLive was.rows.live (first r) → ⊥) ⊎ (IsLive was.rows.live (second r) → ⊥)) × Says statuses.Handle a)
    ⊎ (IsLive was.rows.live (first r) × IsLive was.rows.live (second r)
    × ((IsLiveAs kinds.Bdd was.rows.live (first r) → ⊥) ⊎ (IsLiveAs kinds.Bdd was.rows.live (second r) → ⊥)) × Says statuses.Kind a)
    ⊎ (IsLiveAs kinds.Bdd was.rows.live (first r) × IsLiveAs kinds.Bdd was.rows.live (second r)
    × (Says statuses.Memory a ⊎ (Says statuses.Done a
    × ((f g : ℕ → ValueOf kinds.Bdd) → Names was kinds.Bdd (first r) f → Names was kinds.Bdd (second r) g → (a.value ≡ pos 1) ↔ Implies f g))))
    )

abbrev pub ServesRow : RowCall → ℕ → RowStoreView → Lists → Request → RowStoreView → Answer → Type 0
ServesRow calls.Copy manager was lists r now a = CopiesBy (is_foreign manager 1 r) manager was r now a
ServesRow calls.DropRow manager was lists r now a = DropsBy (is_foreign manager 1 r) was r now a
ServesRow calls.Same manager was lists r now a = TellsSame (is_foreign manager 2 r) was r now a
ServesRow calls.Value manager was lists r now a = TellsValue (is_foreign manager 1 r) was lists r now a
ServesRow calls.Implies manager was lists r now a = TellsImplied (is_foreign manager 2 r) was r now a
