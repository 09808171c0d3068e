-- What is written of a network whose outputs were built: the report, and what may follow it.
use Rattle.std.specs.Prelude.{◌≡◌, ℕ, ◌<◌, ◌≤◌, true, List, [], ◌++◌, length, if◌then◌else◌}
use Rattle.std.specs.Global.{Vec}
use Rattle.edge_bits.specs.declared.limits.TheConstants.{MOST_SIGNALS}
use Rattle.blif_dump.specs.Calls.{signals_needed}
use Rattle.blif_dump.specs.Multiplexers.{multiplexers}
use Rattle.blif_dump.specs.declared.stops.DumpStop.{DumpStop}
use Rattle.blif_dump.specs.declared.stops.DumpStop.TheVariants as dumps
use Rattle.command_words.specs.declared.order.Options.{Options}
use Rattle.cover_nets.specs.declared.net.Net.{Net}
use Rattle.dddmp_text.specs.Written.{written}
use Rattle.diagram_dumps.specs.declared.dump.Dump.{Dump}
use Rattle.diagram_dumps.specs.Listings.{dump_of}
use Rattle.diagram_dumps.specs.WellMade.{IsWritable}
use Rattle.net_builds.specs.declared.telling.Findings.{Findings}
use Rattle.net_reports.specs.Reports.{output_names}
use Rattle.net_jobs.specs.declared.stops.PartStop.{PartStop}
use Rattle.net_jobs.specs.declared.stops.PartStop.TheVariants as stops

-- the stored diagram, and then the network of multiplexers with the network's names, each where that is asked for
abbrev pub behind_report : Net → Options → Dump → List ℕ
behind_report net options dump = (if options.store then written dump else []) ++ (if options.blif then multiplexers dump net.inputs (output_names net) else [])

-- the signals of the network of multiplexers
abbrev pub signals_for : Net → Dump → ℕ
signals_for net dump = signals_needed dump net.inputs (output_names net)

-- The text of what was found of the outputs: the report, and what follows it.
pub record IsTextOf (net : Net) (options : Options) (found : Findings) (text : Vec ℕ) : Type 0 where
  pub bytes : text.items ≡ found.text.items ++ behind_report net options (dump_of found.listing)
  pub few : options.blif ≡ true → signals_for net (dump_of found.listing) ≤ MOST_SIGNALS

-- The dump may be written, and the network has names for its variables and its roots.
pub record MayFollow (net : Net) (dump : Dump) : Type 0 where
  pub writable : IsWritable dump
  pub inputs : length net.inputs ≡ dump.nvars
  pub outputs : length net.outputs ≡ length dump.roots

-- There is no network of multiplexers: memory is wanting, or it has more signals than a text may have.
abbrev pub StopsNetwork : Net → Dump → PartStop → Type 0
StopsNetwork net dump stops.Memory = Unit {0}
StopsNetwork net dump (stops.Full full) = ⊥
StopsNetwork net dump (stops.Large signals) = (signals ≡ signals_for net dump) × (MOST_SIGNALS < signals)

-- There is no text behind a report: memory is wanting, or there is no network of multiplexers where that is asked for.
abbrev pub StopsBehind : Net → Options → Dump → PartStop → Type 0
StopsBehind net options dump stops.Memory = Unit {0}
StopsBehind net options dump stop = (options.blif ≡ true) × StopsNetwork net dump stop

abbrev pub StopsText : Net → Options → Findings → PartStop → Type 0
StopsText net options found = StopsBehind net options (dump_of found.listing)

-- why a network of multiplexers is not written, as it is told
abbrev pub written_stop : DumpStop → PartStop
written_stop dumps.Memory = stops.Memory
written_stop (dumps.Large signals) = stops.Large signals
