-- What comes of a call on the node of a row.
use Rattle.std.specs.Prelude.{◌⊎◌, ℕ, pos, Bool, true, false, Option, Some, None, Result, Ok, Err}
use Rattle.edge_bits.specs.declared.edges.Kind.{Kind}
use Rattle.function_laws.specs.declared.history.Name.{Name}
use Rattle.function_laws.specs.Kinds.{ValueOf}
use Rattle.store_rows.specs.declared.nodes.Top.{Top}
use Rattle.store_rows.specs.Nodes.{IsChild, IsTop}
use Rattle.store_rows.specs.RowStores.{IsLive, IsLiveAs, Names, RowStoreView, Same, edge_in, view_of}
use Rattle.dd_manager.specs.declared.requests.Answer.{Answer}
use Rattle.dd_manager.specs.declared.requests.NodeCall.{NodeCall}
use Rattle.dd_manager.specs.declared.requests.NodeCall.TheVariants as calls
use Rattle.dd_manager.specs.declared.requests.Request.{Request}
use Rattle.dd_manager.specs.declared.statuses.Status.TheVariants as statuses
use Rattle.dd_manager.specs.Answers.{HasName, HasValue, IsTopTold, Says}
use Rattle.dd_manager.specs.Requests.{first, is_foreign}
use Rattle.dd_manager.specs.Statuses.{kind_code}

-- the kind of a row
abbrev pub TellsKind : Bool → RowStoreView → Request → RowStoreView → Answer → Type 0
TellsKind true was r now a = Same was now × Says statuses.Handle a
TellsKind false was r now a = Same was now × (
    ((IsLive was.rows.live (first r) → ⊥) × Says statuses.Handle a)
    ⊎ ((k : Kind) × IsLiveAs k was.rows.live (first r) × HasValue (pos (kind_code k)) a)
    )

-- what is at the top of a row's diagram
abbrev pub TellsTop : Bool → RowStoreView → Request → RowStoreView → Answer → Type 0
TellsTop true was r now a = Same was now × Says statuses.Handle a
TellsTop false was r now a = Same was now × (
    ((IsLive was.rows.live (first r) → ⊥) × Says statuses.Handle a)
    ⊎ (IsLive was.rows.live (first r) × ((top : Top) × IsTopTold top a
    × ((k : Kind) (f : ℕ → ValueOf k) → Names was k (first r) f → IsTop k (view_of now) (edge_in was.rows.live (first r)) f top)))
    )

-- the name of a child; that there is none; or want of memory
abbrev pub IsChildTold : {E : Type 0} → ℕ → Result (Option Name) E → Answer → Type 0
IsChildTold manager (Ok (Some child)) a = HasName manager child a
IsChildTold manager (Ok None) a = Says statuses.Range a
IsChildTold manager (Err e) a = Says statuses.Memory a

-- A child of a row's node, as a new row. A leaf has none.
abbrev pub GivesChild : Bool → ℕ → Bool → RowStoreView → Request → RowStoreView → Answer → Type 0
GivesChild true manager taken was r now a = Same was now × Says statuses.Handle a
GivesChild false manager taken was r now a =
    ((IsLive was.rows.live (first r) → ⊥) × Same was now × Says statuses.Handle a)
    ⊎ (IsLive was.rows.live (first r) × Same was now × Says statuses.Memory a)
    ⊎ (IsLive was.rows.live (first r) × IsChild was now (first r) taken None × Says statuses.Range a)
    ⊎ (IsLive was.rows.live (first r) × ((child : Name) × IsChild was now (first r) taken (Some child) × HasName manager child a))

abbrev pub ServesNode : NodeCall → ℕ → RowStoreView → Request → RowStoreView → Answer → Type 0
ServesNode calls.Kind manager was r now a = TellsKind (is_foreign manager 1 r) was r now a
ServesNode calls.Top manager was r now a = TellsTop (is_foreign manager 1 r) was r now a
ServesNode calls.Then manager was r now a = GivesChild (is_foreign manager 1 r) manager true was r now a
ServesNode calls.Else manager was r now a = GivesChild (is_foreign manager 1 r) manager false was r now a
