-- Which of the things that a making takes is not there first, and how.
use Rattle.std.specs.Prelude.{All, ◌⊎◌, ℕ, List, [], ◌∷◌, Option, Some, None}
use Rattle.edge_bits.specs.declared.edges.Kind.TheVariants as kinds
use Rattle.function_laws.specs.declared.history.Name.{Name}
use Rattle.function_laws.specs.Makings.{Taken, function, pairs}
use Rattle.handle_count.specs.declared.rows.Held.{Held}
use Rattle.operator_calls.specs.Taking.{CanTake, CanTakeAll}
use Rattle.store_rows.specs.RowStores.{IsLive, IsLiveAs, RowStoreView, view_of}
use Rattle.dd_manager.specs.declared.faults.Fault.{Fault}
use Rattle.dd_manager.specs.declared.faults.Fault.TheVariants as faults

-- it is there, by the live rows and the numbers of variables and elements
abbrev pub IsTaken : List Held → ℕ → ℕ → Taken Name → Type 0
IsTaken live vars elements one = CanTake (λ k h. IsLiveAs k live h) vars vars elements one

-- No row is live under the name; or one is, of another kind; or it is another thing that is out of range. Of pairs of variables and
-- functions the names come first, then the kinds, and then whether the variables are in range and none is put twice.
abbrev pub IsFault : List Held → ℕ → ℕ → Taken Name → Fault → Type 0
IsFault live vars elements (function k h) faults.Handle = IsLive live h → ⊥
IsFault live vars elements (function k h) faults.Kind = IsLive live h × (IsLiveAs k live h → ⊥)
IsFault live vars elements (function k h) faults.Range = ⊥
IsFault live vars elements (pairs ps) faults.Handle = All (λ pair. IsLive live pair.1) ps → ⊥
IsFault live vars elements (pairs ps) faults.Kind = All (λ pair. IsLive live pair.1) ps × (All (λ pair. IsLiveAs kinds.Bdd live pair.1) ps → ⊥)
IsFault live vars elements (pairs ps) faults.Range = All (λ pair. IsLiveAs kinds.Bdd live pair.1) ps × (IsTaken live vars elements (pairs ps) → ⊥)
IsFault live vars elements one faults.Range = IsTaken live vars elements one → ⊥
IsFault live vars elements one _ = ⊥

-- the first that is not there
abbrev pub IsFirstFault : List Held → ℕ → ℕ → List (Taken Name) → Fault → Type 0
IsFirstFault live vars elements [] fault = ⊥
IsFirstFault live vars elements (one ∷ more) fault = IsFault live vars elements one fault ⊎ (IsTaken live vars elements one × IsFirstFault live vars elements more fault)

-- none where all are there
abbrev pub JudgesIn : List Held → ℕ → ℕ → List (Taken Name) → Option Fault → Type 0
JudgesIn live vars elements all None = CanTakeAll (λ k h. IsLiveAs k live h) vars vars elements all
JudgesIn live vars elements all (Some fault) = IsFirstFault live vars elements all fault

abbrev pub Judges : RowStoreView → List (Taken Name) → Option Fault → Type 0
Judges d all told = JudgesIn d.rows.live (view_of d).vars (view_of d).elements all told

-- the first of two
abbrev pub first_of : Option Fault → Option Fault → Option Fault
first_of (Some fault) other = Some fault
first_of None other = other
