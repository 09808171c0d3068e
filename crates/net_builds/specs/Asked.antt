-- What functions that call a manager ask of it and of a session, and what they leave. Each takes which sessions are the manager's.
use Rattle.std.specs.Prelude.{◌≡◌, ℕ, ◌+◌, ◌≤◌, List, Option, Result, All, IfErr, length}
use Rattle.function_laws.specs.declared.history.Entry.{Entry}
use Rattle.cover_nets.specs.declared.net.Net.{Net}
use Rattle.cover_nets.specs.Bounds.{IsBounded, signal_count}
use Rattle.edge_bits.specs.declared.limits.TheConstants.{MOST_ROWS}
use Rattle.function_laws.specs.declared.history.Name.{Name}
use Rattle.net_reports.specs.declared.classes.Class.{Class}
use Rattle.net_builds.specs.Building.{IsBuilt, IsLeft, IsPlan, ended}
use Rattle.net_builds.specs.declared.host.HostRefusal.{HostRefusal}
use Rattle.net_builds.specs.Standings.{HasRoom, IsCaused, IsLive, KeepsAll, KeepsOthers, Standing, Works}
use Rattle.net_builds.specs.Tellings.{AreClassed}

-- What a call leaves that makes at most one row: the session is the manager's still, and each name that was given before stands for what it stood for. Where it was refused, there are no more rows than before, and one of its entries tells of that.
pub record ComesBack {M S F X : Type 0} (has : M → S → Type 0) (standing : S → Standing) (tells : M → F → Entry → Type 0) (manager : M) (old new : S) (result : Result X (HostRefusal F)) : Type 0 where
  pub own : has manager new
  pub works : Works (standing old) (standing new)
  pub kept : KeepsAll (standing old) (standing new)
  pub few : (standing new).rows ≤ (standing old).rows + 1
  pub rows : IfErr result (λ _. (standing new).rows ≤ (standing old).rows)
  pub caused : IfErr result (IsCaused (tells manager) works.gained)

-- The same of a function that takes a name over: where it was refused, it let that one go.
pub record TakesOver {M S F X : Type 0} (has : M → S → Type 0) (standing : S → Standing) (tells : M → F → Entry → Type 0) (manager : M) (old new : S) (gone : Name) (result : Result X (HostRefusal F)) : Type 0 where
  pub own : has manager new
  pub works : Works (standing old) (standing new)
  pub kept : KeepsOthers (standing old) (standing new) gone
  pub rows : IfErr result (λ _. (standing new).rows + 1 ≤ (standing old).rows)
  pub caused : IfErr result (IsCaused (tells manager) works.gained)

-- What is left while a network's signals are built. Where that was refused, the rows tell how far it came.
pub record StaysBuilt {M S F X : Type 0} (has : M → S → Type 0) (standing : S → Standing) (tells : M → F → Entry → Type 0) (manager : M) (net : Net) (last : List ℕ) (old new : S) (rows : List (Option Name)) (result : Result X (HostRefusal F)) : Type 0 where
  pub own : has manager new
  pub left : IfErr result (IsLeft (tells manager) net last (standing old) (standing new) rows)

module _ {M S : Type 0} (has : M → S → Type 0) (standing : S → Standing) (manager : M) (session : S) where
  -- the session is one of the manager's, and may make so many more rows
  pub record MayMakeRows (rows : ℕ) : Type 0 where
    pub own : has manager session
    pub room : (standing session).rows + rows ≤ MOST_ROWS

  -- the session has one variable for each input of the network, and no live row
  pub record MayBuild (net : Net) : Type 0 where
    pub own : has manager session
    pub bounded : IsBounded net
    pub vars : (standing session).vars ≡ length net.inputs
    pub none : (standing session).rows ≡ 0

  -- the session has built the network's signals below the next one, as far as they are used
  pub record HasBuilt (net : Net) (last : List ℕ) (next : ℕ) (rows : List (Option Name)) : Type 0 where
    pub own : has manager session
    pub plan : IsPlan net last
    pub built : IsBuilt net last next (standing session) rows

  -- the session has built the network's signals below the next one, of which those matter that are used to the end
  pub record HasEnded (net : Net) (last : List ℕ) (next : ℕ) (rows : List (Option Name)) : Type 0 where
    pub own : has manager session
    pub bounded : IsBounded net
    pub long : length last ≡ signal_count net
    pub built : IsBuilt net (ended last) next (standing session) rows

  -- the session has names of these classes, and may evaluate what they stand for
  pub record MayEvaluate (names : List Name) (classes : List Class) : Type 0 where
    pub own : has manager session
    pub room : HasRoom (standing session)
    pub held : All (IsLive (standing session)) names
    pub classed : AreClassed (standing session) names classes

  -- the session has as many names as are told of, and as many variables, and may tell of what these stand for
  pub record MayReport (n many : ℕ) (names : List Name) : Type 0 where
    pub own : has manager session
    pub room : HasRoom (standing session)
    pub vars : (standing session).vars ≡ n
    pub held : All (IsLive (standing session)) names
    pub many_are : length names ≡ many
