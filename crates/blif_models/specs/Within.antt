-- A whole keeps to the limits where no line passes them.
use Rattle.std.specs.Prelude.{◌≡◌, ◌+◌, ◌≤◌, List, None, length}
use Rattle.edge_bits.specs.declared.limits.TheConstants.{MOST_SIGNALS, MOST_VARIABLES}
use Rattle.blif_models.specs.Circuits.{Circuit}
use Rattle.blif_models.specs.Models.{Model, circuit_from, whole_items}
use Rattle.blif_models.specs.ModelFaults.{too_many_line}

-- The circuit has no more inputs and signals than a network may have.
pub record IsWithin (circuit : Circuit) : Type 0 where
  pub inputs : length circuit.inputs ≤ MOST_VARIABLES
  pub signals : length circuit.inputs + length circuit.covers ≤ MOST_SIGNALS

-- where no line passes the limits, the circuit into which a main model is expanded keeps to them
abbrev pub WholesAreWithinLimits : Type 0
WholesAreWithinLimits = (models : List Model) (main : Model) → too_many_line MOST_SIGNALS MOST_VARIABLES models main ≡ None → IsWithin (circuit_from main (whole_items models main))
