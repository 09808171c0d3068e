-- The functions of a network's signals while they are built, in the order of the signals.
use Rattle.std.specs.Prelude.{◌≡◌, ℕ, ◌<◌, ◌≤◌, nat_le, List, [], ◌∷◌, Option, Some, None, length, replicate, slice_index, slice_index_or, if◌then◌else◌}
use Rattle.cover_nets.specs.declared.net.Net.{Net}
use Rattle.cover_nets.specs.Bounds.{IsBounded, signal_count}
use Rattle.cover_nets.specs.Networks.{signal_value}
use Rattle.function_laws.specs.declared.history.Entry.{Entry}
use Rattle.function_laws.specs.declared.history.Name.{Name}
use Rattle.net_builds.specs.declared.host.HostRefusal.{HostRefusal}
use Rattle.net_builds.specs.declared.signals.Ledger.{Ledger}
use Rattle.net_builds.specs.declared.uses.TheConstants.{TO_THE_END}
use Rattle.net_builds.specs.Holdings.{names_in}
use Rattle.net_builds.specs.Standings.{Holds, IsCaused, Standing, Works}
use Rattle.net_builds.specs.Uses.{AreLastUses, KnowsReads}

-- the row of a signal, if it has one
abbrev pub row_at : List (Option Name) → ℕ → Option Name
row_at rows signal = slice_index_or rows signal None

-- of each signal it is noted up to which gate it is used
pub record IsPlan (net : Net) (last : List ℕ) : Type 0 where
  pub bounded : IsBounded net
  pub long : length last ≡ signal_count net
  pub reads : KnowsReads net 0 last

-- The signals below the next one are built: those that it or a later gate uses have rows, and no row is of a later signal. Each row
-- stands for the signal's function, and is newer than those of earlier signals.
pub record IsBuilt (net : Net) (last : List ℕ) (next : ℕ) (s : Standing) (rows : List (Option Name)) : Type 0 where
  pub vars : s.vars ≡ length net.inputs
  pub long : length rows ≡ signal_count net
  pub within : next ≤ signal_count net
  pub there : (signal : ℕ) → signal < next → next ≤ slice_index last signal → (name : Name) × (row_at rows signal ≡ Some name)
  pub ahead : (signal : ℕ) → next ≤ signal → row_at rows signal ≡ None
  pub held : (signal : ℕ) (name : Name) → row_at rows signal ≡ Some name → Holds s name (signal_value net signal)
  pub rising : (a b : ℕ) (one other : Name) → a < b → row_at rows a ≡ Some one → row_at rows b ≡ Some other → one.generation < other.generation
  pub few : s.rows ≤ next
  -- and no further row is live
  pub counted : s.rows ≤ length (names_in rows)

-- up to which gate a signal is used, where that is to the end; else it counts as not used
abbrev pub ended : List ℕ → List ℕ
ended [] = []
ended (u ∷ us) = (if nat_le TO_THE_END u then u else 0) ∷ ended us

-- rows are of signals that are used to the end
abbrev pub AreEnded : List ℕ → List (Option Name) → Type 0
AreEnded last rows = (signal : ℕ) (name : Name) → row_at rows signal ≡ Some name → TO_THE_END ≤ slice_index last signal

-- and so of one signal, where each row was there before
pub record IsEndedAt (last : List ℕ) (signal : ℕ) (old new : List (Option Name)) : Type 0 where
  pub here : (name : Name) → row_at new signal ≡ Some name → TO_THE_END ≤ slice_index last signal
  pub others : (other : ℕ) (name : Name) → row_at new other ≡ Some name → row_at old other ≡ Some name

-- the session worked, and the signals below the next one are built
pub record BuildsTo (net : Net) (last : List ℕ) (next : ℕ) (old new : Standing) (rows : List (Option Name)) : Type 0 where
  pub works : Works old new
  pub built : IsBuilt net last next new rows

-- The building was refused: signals below some one were built, and one of the entries tells of the refusal.
pub record IsLeft {F : Type 0} (tells : F → Entry → Type 0) (net : Net) (last : List ℕ) (old new : Standing) (rows : List (Option Name)) (refusal : HostRefusal F) : Type 0 where
  pub next : ℕ
  pub builds : BuildsTo net last next old new rows
  pub caused : IsCaused tells builds.works.gained refusal

-- The memory of a building whose first call is not made: no signal has a row.
pub record IsBegun (net : Net) (own : List ℕ) (ledger : Ledger) : Type 0 where
  pub own_is : ledger.own.items ≡ own
  pub last : AreLastUses net ledger.own.items ledger.last.items
  pub rows : ledger.rows.items ≡ replicate (signal_count net) None
  pub names : length ledger.names.items ≡ length own
