-- What comes of networks that are built, and of stored diagrams that are made.
use Rattle.std.specs.Prelude.{◌≡◌, ◌⊎◌, ℕ, ◌+◌, ◌<◌, Bool, true, List, [], ◌∷◌, length, map}
use Rattle.edge_bits.specs.declared.limits.TheConstants.{MOST_SIGNALS}
use Rattle.command_words.specs.declared.order.Options.{Options}
use Rattle.cover_nets.specs.declared.net.Net.{Net}
use Rattle.dd_session.specs.declared.answers.Full.{Full}
use Rattle.dd_session.specs.Managing.{Managed, Seen, opened}
use Rattle.net_builds.specs.declared.host.HostRefusal.{HostRefusal}
use Rattle.net_builds.specs.declared.host.HostRefusal.TheVariants as refusals
use Rattle.net_builds.specs.declared.telling.Findings.{Findings}
use Rattle.net_builds.specs.declared.telling.Telling.TheVariants.{Report}
use Rattle.net_builds.specs.Builds.{Builds, FindsOf}
use Rattle.net_builds.specs.Sifting.{BuildsSifted}
use Rattle.diagram_dumps.specs.declared.dump.Dump.{Dump}
use Rattle.net_builds.specs.Loads.{Loads}
use Rattle.net_builds.specs.Outputs.{AreRefused, IsRefused}
use Rattle.net_reports.specs.Reports.{output_functions}
use Rattle.net_jobs.specs.declared.networks.TheConstants.{OUTPUTS_CELL}
use Rattle.net_jobs.specs.declared.stops.PartStop.{PartStop}
use Rattle.net_jobs.specs.declared.stops.PartStop.TheVariants as stops
use Rattle.net_jobs.specs.Ends.{built_subject, signals_of}
use Rattle.net_jobs.specs.Hosts.{TellsFullOf, standing_of}
use Rattle.net_jobs.specs.Texts.{StopsText}

-- a session of the manager that has no live row, and knows of no variable that was added
abbrev pub IsFreshOf : Managed → Seen → Type 0
IsFreshOf m s = (s.manager ≡ m) × (s.rows ≡ []) × (s.more_variables ≡ 0)

-- a manager for so many inputs and workers, and its sessions, one for each worker
pub record IsOpenedFor (inputs limit workers : ℕ) (m : Managed) (sessions : List Seen) : Type 0 where
  pub vars : m.vars ≡ inputs
  pub none : m.elements ≡ 0
  pub limit_is : m.limit ≡ 5 + inputs + limit
  pub as_many : m.sessions ≡ workers
  pub sessions_are : sessions ≡ opened m

-- A part was refused that makes a diagram by the one session of a manager: that one has no row, and where it was not want of memory, one of the calls that it made in the part was refused so.
pub record IsRefusedIn (cell : ℕ) (m : Managed) (old new : List Seen) (refusal : HostRefusal Full) : Type 0 where
  pub before : Seen
  pub after : Seen
  pub old_is : old ≡ before ∷ []
  pub new_is : new ≡ after ∷ []
  pub refused : IsRefused (TellsFullOf m) cell (standing_of before) (standing_of after) refusal

-- A stored diagram was made and told of by the one session of a manager.
pub record IsLoadedIn (dump : Dump) (patterns : List (List Bool)) (old new : List Seen) (text : List ℕ) : Type 0 where
  pub before : Seen
  pub after : Seen
  pub old_is : old ≡ before ∷ []
  pub new_is : new ≡ after ∷ []
  pub loads : Loads dump patterns (standing_of before) (standing_of after) text

-- where it was not want of memory, all of so many slots were in use
abbrev pub IsFilledBy : (ℕ → Type 0) → PartStop → Type 0
IsFilledBy AreAll stops.Memory = Unit {0}
IsFilledBy AreAll (stops.Full full) = (slots : ℕ) × AreAll slots × (full.in_use ≡ slots) × (full.limit ≡ slots)
IsFilledBy AreAll (stops.Large signals) = ⊥

-- what a refused call of a session is told as
abbrev pub part_stop : HostRefusal Full → PartStop
part_stop refusals.Memory = stops.Memory
part_stop (refusals.Full full) = stops.Full full

-- What the sessions of a manager found of the outputs of a network, which they built and handed over to the first one: where a sift is asked for, behind that.
pub record IsFoundIn (m : Managed) (net : Net) (options : Options) (old new : List Seen) (found : Findings) : Type 0 where
  pub built : Builds (FindsOf net options.patterns Report) OUTPUTS_CELL (output_functions net) (map standing_of old) (map standing_of new) found
  pub sifted : options.sift ≡ true → BuildsSifted (FindsOf net options.patterns Report) m.limit OUTPUTS_CELL (output_functions net) (map standing_of old) (map standing_of new) found

-- A build was refused: a call of a session was, or what was found has no text.
abbrev pub IsBuildStopped : Managed → Net → Options → List Seen → List Seen → PartStop → Type 0
IsBuildStopped m net options old new stop =
    ((refusal : HostRefusal Full) × (stop ≡ part_stop refusal) × AreRefused (TellsFullOf m) OUTPUTS_CELL options.sift (map standing_of old) (map standing_of new) refusal)
    ⊎ ((found : Findings) × IsFoundIn m net options old new found × StopsText net options found stop)

-- The number of signals is told where the network of multiplexers would have too many; else, where it was not want of memory, all of so many slots were in use.
abbrev pub IsReportStopped : Net → ℕ → Options → PartStop → Type 0
IsReportStopped net limit options (stops.Large signals) =
    (options.blif ≡ true) × (signals ≡ signals_of net.inputs (built_subject net limit options)) × (MOST_SIGNALS < signals)
IsReportStopped net limit options stop = IsFilledBy (λ slots. slots ≡ 5 + length net.inputs + limit) stop
