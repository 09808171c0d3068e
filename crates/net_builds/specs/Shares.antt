-- The shares of several workers, and what is made of them.
use Rattle.std.specs.Prelude.{◌≡◌, ℕ, suc, ◌+◌, ◌<◌, Bool, false, true, List, [], ◌∷◌, All, Contains, Option, Some, None, length, map, slice_get, slice_set}
use Rattle.cover_nets.specs.declared.net.Net.{Net}
use Rattle.cover_nets.specs.Bounds.{IsBounded}
use Rattle.edge_bits.specs.declared.limits.TheConstants.{MOST_ROWS}
use Rattle.function_laws.specs.declared.history.Entry.{Entry}
use Rattle.function_laws.specs.declared.history.Name.{Name}
use Rattle.net_builds.specs.Handings.{Gathers, IsTold}
use Rattle.net_builds.specs.Holdings.{AreRising, IsCounted, LetsAllGo, names_in}
use Rattle.net_builds.specs.Outputs.{AreShared, HasShare, share}
use Rattle.net_builds.specs.Standings.{HasRoom, IsLive, Sifts, Standing}
use Rattle.net_builds.specs.declared.handing.Handover.{Handover}
use Rattle.net_builds.specs.declared.host.HostRefusal.{HostRefusal}
use Rattle.net_builds.specs.declared.host.HostRefusal.TheVariants as stops
use Rattle.net_builds.specs.declared.sharing.Share.{Share}
use Rattle.net_builds.specs.declared.telling.Findings.{Findings}

-- no worker was refused
abbrev pub AreBuilt : {F : Type 0} → List (Share F) → Type 0
AreBuilt {F = F} shares = All (λ (one : Share F). one.stop ≡ None) shares

-- of two refusals the one that is told: want of memory, else the first
abbrev pub told_first : {F : Type 0} → Option (HostRefusal F) → Option (HostRefusal F) → Option (HostRefusal F)
told_first None later = later
told_first (Some first) None = Some first
told_first (Some first) (Some stops.Memory) = Some stops.Memory
told_first (Some first) (Some (stops.Full full)) = Some first

-- why workers were refused, as it is told
abbrev pub stop_of : {F : Type 0} → List (Share F) → Option (HostRefusal F)
stop_of [] = None
stop_of (one ∷ shares) = told_first one.stop (stop_of shares)

-- some worker was refused for this
abbrev pub StopsSome : {F : Type 0} → List (Share F) → HostRefusal F → Type 0
StopsSome {F = F} shares refusal = (one : Share F) × Contains shares one × (one.stop ≡ Some refusal)

-- each session of some workers has its share of the wanted functions, from this worker on
abbrev pub HaveShares : {F : Type 0} → ℕ → List (ℕ → Bool) → ℕ → List Standing → List (Share F) → Type 0
HaveShares workers wanted k [] [] = Unit {0}
HaveShares workers wanted k (s ∷ sessions) (one ∷ shares) = HasShare (share k workers wanted) s one.outputs × HaveShares workers wanted (suc k) sessions shares
HaveShares workers wanted k _ _ = ⊥

-- the name is live in the session of this number
abbrev pub IsLiveAt : List Standing → ℕ → Name → Type 0
IsLiveAt sessions i name = (s : Standing) → slice_get sessions i ≡ Some s → IsLive s name

-- the rows of a share are all that the session has
pub record HasRows {F : Type 0} (s : Standing) (one : Share F) : Type 0 where
  pub room : HasRoom s
  pub live : All (IsLive s) (names_in one.outputs.rows.items)
  pub rising : AreRising (names_in one.outputs.rows.items)

abbrev pub HaveRows : {F : Type 0} → List Standing → List (Share F) → Type 0
HaveRows [] [] = Unit {0}
HaveRows (s ∷ sessions) (one ∷ shares) = HasRows s one × HaveRows sessions shares
HaveRows _ _ = ⊥

-- the rows of each share were let go
abbrev pub AllGo : {F : Type 0} → List Standing → List Standing → List (Share F) → Type 0
AllGo [] [] [] = Unit {0}
AllGo (a ∷ old) (b ∷ new) (one ∷ shares) = LetsAllGo a b (names_in one.outputs.rows.items) × AllGo old new shares
AllGo _ _ _ = ⊥

module _ {M S F : Type 0} (has : M → S → Type 0) (standing : S → Standing) (manager : M) (sessions : List S) where
  -- the sessions are the manager's, and may let these rows go
  pub record MayGo (shares : List (Share F)) : Type 0 where
    pub own : All (has manager) sessions
    pub rows : HaveRows (map standing sessions) shares

  -- there are sessions, which are the manager's, each has built its share of the wanted functions, of which there are some, and there is room for as many rows more
  pub record MayGather (wanted : List (ℕ → Bool)) (shares : List (Share F)) : Type 0 where
    pub own : All (has manager) sessions
    pub has_shares : HaveShares (length sessions) wanted 0 (map standing sessions) shares
    pub any : length sessions ≡ 0 → ⊥
    pub some : length wanted ≡ 0 → ⊥
    pub room : All (λ (s : S). (standing s).rows + length wanted < MOST_ROWS) sessions

-- the variables were sifted, if that was asked for
abbrev pub SiftsIf : Bool → ℕ → Standing → Standing → Type 0
SiftsIf false limit old new = new ≡ old
SiftsIf true limit old new = ((place : ℕ) × Sifts limit old new place) × IsCounted old

-- and then it was told of the functions that have these names
abbrev pub SiftsAndTells : Bool → ℕ → (List (ℕ → Bool) → List ℕ → Findings → Type 0) → Standing → Standing → List Name → Findings → Type 0
SiftsAndTells sifts limit Tells old new names found = (mid : Standing) × SiftsIf sifts limit old mid × IsTold Tells mid new names found

-- The wanted functions were handed over to the first session, which sifted if that was asked for, told of what it had fetched, and let that go.
pub record HandsAndTells (sifts : Bool) (limit : ℕ) (Tells : List (ℕ → Bool) → List ℕ → Findings → Type 0) (cell : ℕ) (wanted : List (ℕ → Bool)) (old new : List Standing) (found : Findings) : Type 0 where
  pub mid : List Standing
  pub handovers : List Handover
  pub gathers : Gathers cell wanted old mid handovers
  pub told : Standing
  pub tells : SiftsAndTells sifts limit Tells gathers.first told (map (λ (h : Handover). h.to) handovers) found
  pub last : Standing
  pub gone : LetsAllGo told last (map (λ (h : Handover). h.to) handovers)
  pub new_is : new ≡ slice_set mid 0 last

-- Why it was stopped: want of memory; or what is told of the workers' refusals is a full node table, and then nothing was done.
abbrev pub StopsOnly : {F : Type 0} → List (Share F) → List Standing → List Standing → HostRefusal F → Type 0
StopsOnly shares old new stops.Memory = Unit {0}
StopsOnly shares old new (stops.Full full) = (stop_of shares ≡ Some (stops.Full full)) × (new ≡ old)

-- the sessions of a manager built a network's shares, or were refused that
pub record MayFinish {M S F : Type 0} (has : M → S → Type 0) (standing : S → Standing) (tells : M → F → Entry → Type 0) (manager : M) (sessions : List S) (net : Net) (shares : List (Share F)) : Type 0 where
  pub own : All (has manager) sessions
  pub bounded : IsBounded net
  pub some : length sessions ≡ 0 → ⊥
  pub vars : All (λ (s : Standing). s.vars ≡ length net.inputs) (map standing sessions)
  pub counted : All IsCounted (map standing sessions)
  pub shared : (old : List Standing) × AreShared (tells manager) net (length sessions) 0 old (map standing sessions) shares
