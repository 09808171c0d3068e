-- The circuit of a text that has no fault.
use Rattle.std.specs.Prelude.{◌≡◌, ◌+◌, ◌≤◌, true, List, None, length}
use Rattle.std.specs.List.{list_all}
use Rattle.edge_bits.specs.declared.limits.TheConstants.{MOST_OUTPUTS, MOST_VARIABLES}
use Rattle.blif_models.specs.Circuits.{Circuit}
use Rattle.blif_models.specs.Within.{IsWithin}
use Rattle.blif_text.specs.Marks.{is_plain}
use Rattle.blif_text.specs.Text.{Line, words_of}
use Rattle.blif_wholes.specs.Built.{IsSound, first_cyclic}

-- no word of the lines has a `#`
abbrev pub ArePlainLines : List Line → Type 0
ArePlainLines lines = list_all (λ line. list_all is_plain (words_of line.bytes)) lines ≡ true

-- A circuit of which a network can be made: what it reads is defined once and led back to inputs, it is within the limits, and shows something.
pub record IsBuildable (circuit : Circuit) : Type 0 where
  pub sound : IsSound circuit
  pub settled : first_cyclic circuit ≡ None
  pub within : IsWithin circuit
  pub outputs : length circuit.outputs ≤ MOST_OUTPUTS + MOST_VARIABLES
  pub some : 1 ≤ length circuit.outputs
