-- What the workers of a network ask of their sessions.
use Rattle.std.specs.Prelude.{◌≡◌, ℕ, ◌+◌, ◌≤◌, List, All, length}
use Rattle.edge_bits.specs.declared.limits.TheConstants.{MOST_SESSIONS}
use Rattle.cover_nets.specs.declared.net.Net.{Net}
use Rattle.cover_nets.specs.Bounds.{IsBounded}
use Rattle.dd_session.specs.Managing.{Managed, Seen}
use Rattle.net_builds.specs.declared.worker.Worker.{Worker}
use Rattle.net_jobs.specs.Networks.{IsFreshOf}

-- The manager has one variable for each input of the network. Its sessions have no live row, and are those of the workers from this one on, with as many shares.
pub record MayWork (m : Managed) (net : Net) (first : Worker) (sessions : List Seen) (shares : ℕ) : Type 0 where
  pub fresh : All (IsFreshOf m) sessions
  pub as_many : shares ≡ length sessions
  pub bounded : IsBounded net
  pub vars : m.vars ≡ length net.inputs
  pub within : first.number + length sessions ≤ first.of
  pub few : first.of ≤ MOST_SESSIONS
