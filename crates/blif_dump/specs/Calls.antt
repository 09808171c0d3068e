-- What the calls of the writer speak of.
use Rattle.std.specs.Prelude.{◌≡◌, ℕ, ◌+◌, ◌≤◌, ◌<◌, List, length, map}
use Rattle.std.specs.Borrow.{Bor}
use Rattle.edge_bits.specs.declared.limits.TheConstants.{MOST_SIGNALS}
use Rattle.job_words.specs.Text.{Word}
use Rattle.diagram_dumps.specs.declared.dump.Dump.{Dump}
use Rattle.blif_dump.specs.declared.stops.DumpStop.{DumpStop}
use Rattle.blif_dump.specs.declared.stops.DumpStop.TheVariants as stops

-- the names behind references
abbrev pub names_in : List (Bor Word) → List Word
names_in names = map (λ name. name.now) names

-- inputs, node lines with the constant, and outputs
abbrev pub signals_needed : Dump → List Word → List Word → ℕ
signals_needed dump inputs outputs = length inputs + (length dump.nodes + 1) + length outputs

-- there are too many signals, or memory is wanting where there are not
abbrev pub StopIs : ℕ → DumpStop → Type 0
StopIs needed stops.Memory = needed ≤ MOST_SIGNALS
StopIs needed (stops.Large told) = (MOST_SIGNALS < needed) × (told ≡ needed)
