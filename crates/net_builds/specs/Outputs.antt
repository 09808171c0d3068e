-- Functions that are built by several sessions, and what is left where that was refused.
use Rattle.std.specs.List.{AllZip}
use Rattle.std.specs.Prelude.{◌≡◌, ◌⊎◌, ℕ, zero, suc, pred, ◌≤◌, ◌++◌, Bool, false, List, [], ◌∷◌, All, Contains, Option, Some, None, length}
use Rattle.cover_nets.specs.declared.net.Net.{Net}
use Rattle.cover_nets.specs.Bounds.{signal_count}
use Rattle.function_laws.specs.declared.history.Entry.{Entry}
use Rattle.function_laws.specs.declared.history.Name.{Name}
use Rattle.net_reports.specs.Reports.{output_functions}
use Rattle.net_builds.specs.Handings.{IsWithin}
use Rattle.net_builds.specs.Holdings.{AreRising, names_in}
use Rattle.net_builds.specs.Signals.{AllHold}
use Rattle.net_builds.specs.Standings.{IsCaused, IsLive, IsQuiet, KeepsOrders, Standing, Works}
use Rattle.net_builds.specs.declared.host.HostRefusal.{HostRefusal}
use Rattle.net_builds.specs.declared.host.HostRefusal.TheVariants as stops
use Rattle.net_builds.specs.declared.signals.Outputs.{Outputs}
use Rattle.net_builds.specs.declared.sharing.Share.{Share}

-- What a worker gets of a list: it waits for so many, then takes one, and from there on each one that is a step further.
abbrev pub share : {X : Type 0} → ℕ → ℕ → List X → List X
share wait step [] = []
share zero step (x ∷ xs) = x ∷ share (pred step) step xs
share (suc wait) step (x ∷ xs) = share wait step xs

-- what worker k of so many builds of a network
abbrev pub wanted_of : Net → ℕ → ℕ → List (ℕ → Bool)
wanted_of net workers k = share k workers (output_functions net)

-- each row has one of the names
abbrev pub AreOnlyOf : List Name → List (Option Name) → Type 0
AreOnlyOf names rows = All (λ name. Contains names name) (names_in rows)

-- Names stand for the wanted functions, and rows are live, each of which has one of these names; no further row is live.
pub record HasShare (wanted : List (ℕ → Bool)) (s : Standing) (outputs : Outputs) : Type 0 where
  pub holds : AllHold s wanted outputs.names.items
  pub live : All (IsLive s) (names_in outputs.rows.items)
  pub rising : AreRising (names_in outputs.rows.items)
  pub counted : s.rows ≤ length (names_in outputs.rows.items)
  pub only : AreOnlyOf outputs.names.items outputs.rows.items

-- The wanted functions were built, and but for their rows, of which there are at most so many, none is live.
pub record BuildsOutputs (wanted : List (ℕ → Bool)) (most : ℕ) (old new : Standing) (outputs : Outputs) : Type 0 where
  pub works : Works old new
  pub has : HasShare wanted new outputs
  pub rows : new.rows ≤ most

-- The building was refused, and no row is live.
pub record IsUndone {F : Type 0} (tells : F → Entry → Type 0) (old new : Standing) (refusal : HostRefusal F) : Type 0 where
  pub works : Works old new
  pub caused : IsCaused tells works.gained refusal
  pub none : new.rows ≡ 0

-- What a session made of its share of the wanted functions: all of it, without a call where it is nothing; or that was refused, and no row is live.
abbrev pub IsShared : {F : Type 0} → (F → Entry → Type 0) → List (ℕ → Bool) → ℕ → Standing → Standing → Outputs → Option (HostRefusal F) → Type 0
IsShared tells wanted most old new outputs None = BuildsOutputs wanted most old new outputs × (wanted ≡ [] → new ≡ old)
IsShared tells wanted most old new outputs (Some refusal) = IsUndone tells old new refusal × (names_in outputs.rows.items ≡ [])

-- and so each of some workers, from this one on
abbrev pub AreShared : {F : Type 0} → (F → Entry → Type 0) → Net → ℕ → ℕ → List Standing → List Standing → List (Share F) → Type 0
AreShared tells net workers k [] [] [] = Unit {0}
AreShared tells net workers k (a ∷ old) (b ∷ new) (one ∷ shares) =
    IsShared tells (wanted_of net workers k) (signal_count net) a b one.outputs one.stop × AreShared tells net workers (suc k) old new shares
AreShared tells net workers k _ _ _ = ⊥

-- two lists have two elements at one place that are so
abbrev pub SomePair : {X : Type 0} → (X → X → Type 0) → List X → List X → Type 0
SomePair R (x ∷ xs) (y ∷ ys) = R x y ⊎ SomePair R xs ys
SomePair R _ _ = ⊥

-- the session gained an entry that tells of this
abbrev pub HasTold : {F : Type 0} → (F → Entry → Type 0) → F → Standing → Standing → Type 0
HasTold tells full old new = (gained : List Entry) × (new.entries ≡ old.entries ++ gained) × ((e : Entry) × Contains gained e × tells full e)

-- a call was refused as the node table was full: that was told by an entry which one of the sessions gained; none posted, swapped or sifted, or noted anything
abbrev pub AreFullTold : {F : Type 0} → (F → Entry → Type 0) → List Standing → List Standing → HostRefusal F → Type 0
AreFullTold tells old new stops.Memory = Unit {0}
AreFullTold tells old new (stops.Full full) = AllZip Works old new × SomePair (HasTold tells full) old new

-- What a refused build leaves of a session that had no live row: none is live. It made calls that add no variable and no element and post to no other cell; it swapped and sifted nothing, where no sift was asked for.
pub record LeavesNone (cell : ℕ) (sifts : Bool) (old new : Standing) : Type 0 where
  pub vars_are : new.vars ≡ old.vars
  pub number_is : new.number ≡ old.number
  pub gained : List Entry
  pub entries_are : new.entries ≡ old.entries ++ gained
  pub within : All (IsWithin cell) gained
  pub keeps : sifts ≡ false → All KeepsOrders gained
  pub none : new.rows ≡ 0

-- What a refused build leaves of its sessions.
pub record AreRefused {F : Type 0} (tells : F → Entry → Type 0) (cell : ℕ) (sifts : Bool) (old new : List Standing) (refusal : HostRefusal F) : Type 0 where
  pub each : AllZip (LeavesNone cell sifts) old new
  pub full : AreFullTold tells old new refusal

-- a call was refused as the node table was full: that was told by one of these entries, nothing was posted, and nothing noted
abbrev pub IsFullTold : {F : Type 0} → (F → Entry → Type 0) → Standing → Standing → List Entry → HostRefusal F → Type 0
IsFullTold tells old new gained stops.Memory = Unit {0}
IsFullTold tells old new gained (stops.Full full) = All IsQuiet gained × (new.notes ≡ old.notes) × ((e : Entry) × Contains gained e × tells full e)

-- What a refused making of a stored diagram leaves of a session that had no live row: none is live. It made calls that add no variable and no element and post to no cell.
pub record IsRefused {F : Type 0} (tells : F → Entry → Type 0) (cell : ℕ) (old new : Standing) (refusal : HostRefusal F) : Type 0 where
  pub vars_are : new.vars ≡ old.vars
  pub number_is : new.number ≡ old.number
  pub gained : List Entry
  pub entries_are : new.entries ≡ old.entries ++ gained
  pub within : All (IsWithin cell) gained
  pub full : IsFullTold tells old new gained refusal
  pub none : new.rows ≡ 0
