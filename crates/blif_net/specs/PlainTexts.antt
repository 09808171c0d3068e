-- Texts of one model without latches and instances: what their lines declare, and what is wrong with them.
use Rattle.std.specs.Prelude.{◌≡◌, ℕ, ◌+◌, ◌==◌, nat_lt, Bool, true, false, ◌&&◌, not, List, [], ◌∷◌, ◌++◌, Option, Some, None, length, find, option_to_list, if◌then◌else◌}
use Rattle.std.specs.List.{list_all}
use Rattle.std.specs.Option.{option_map, option_or}
use Rattle.std.specs.Bool.{then_some}
use Rattle.edge_bits.specs.declared.limits.TheConstants.{MOST_VARIABLES, MOST_SIGNALS, MOST_OUTPUTS}
use Rattle.job_words.specs.Text.{is_among}
use Rattle.blif_net.specs.declared.faults.BlifFault.{BlifFault}
use Rattle.blif_net.specs.declared.faults.FaultKind.{FaultKind}
use Rattle.blif_net.specs.declared.faults.FaultKind.TheVariants as kinds
use Rattle.blif_text.specs.Text.{Word, Line, is_allowed}
use Rattle.blif_text.specs.Statements.{Statement, nothing, model, inputs, outputs, names, subckt, latch, ends, passed_over, left_out, unknown, row, said}
use Rattle.blif_models.specs.Circuits.{Circuit, Cover, defined_in, is_settled, is_signal, some_again}
use Rattle.blif_net.specs.CoverTexts.{cover_at, front_of, last_of, rows_fault, with_row_in}
use Rattle.blif_net.specs.Circuits as several
use Rattle.blif_net.specs.Faults as several_faults
use Rattle.blif_net.specs.Faults.{last_number}

-- What the lines so far leave to the next one: what they declared, the cover that is still open, whether a `.model` came,
-- and whether `.end` came.
pub record Context : Type 0 where
  pub inputs : List Word
  pub outputs : List Word
  pub closed : List Cover
  pub current : Option Cover
  pub modelled : Bool
  pub ended : Bool

abbrev pub at_start : Context
at_start = record { inputs = []; outputs = []; closed = []; current = None; modelled = false; ended = false }

-- the covers, in order
abbrev pub covers_in : Context → List Cover
covers_in c = c.closed ++ option_to_list c.current

-- the context with its cover closed: each line does that whose first word begins with `.`
abbrev pub close : Context → Context
close c = record c { closed = covers_in c; current = None }

-- what a line of this number that says this leaves
abbrev pub after_statement : Context → ℕ → Statement → Context
after_statement c line nothing = c
after_statement c line (model words) = record (close c) { modelled = true }
after_statement c line (inputs words) = record (close c) { inputs = c.inputs ++ words }
after_statement c line (outputs words) = record (close c) { outputs = c.outputs ++ words }
after_statement c line (names words) = record (close c) { current = Some (cover_at line words) }
after_statement c line (subckt words) = close c
after_statement c line (latch words) = close c
after_statement c line (ends words) = record (close c) { ended = true }
after_statement c line passed_over = close c
after_statement c line left_out = close c
after_statement c line unknown = close c
after_statement c line (row words) = record c { current = with_row_in c.current words }

abbrev pub after_line : Context → Line → Context
after_line c line = after_statement c line.number (said line)

-- what the lines leave, one after another
unfoldable pub behind : Context → List Line → Context
behind c [] = c
behind c (line ∷ lines) = behind (after_line c line) lines

abbrev pub circuit_in : Context → Circuit
circuit_in c = record { inputs = c.inputs; outputs = c.outputs; covers = covers_in c }

-- the circuit that the lines declare
abbrev pub circuit_of : List Line → Circuit
circuit_of lines = circuit_in (behind at_start lines)

-- the signals so far: inputs, and the names of covers
abbrev pub signals_in : Context → List Word
signals_in c = c.inputs ++ defined_in (covers_in c)

-- the fault of `.inputs` and these words: an input that is a signal already; too many
abbrev pub inputs_fault : Context → List Word → Option FaultKind
inputs_fault c words =
    option_or (then_some (some_again (signals_in c) words) kinds.Twice)
    (option_or (then_some (nat_lt MOST_VARIABLES (length c.inputs + length words)) kinds.TooMany) (then_some (nat_lt MOST_SIGNALS (length (signals_in c) + length words)) kinds.TooMany))

-- of `.names`: no name; the last one is a signal already; too many
abbrev pub names_fault : Context → List Word → Option FaultKind
names_fault c [] = Some kinds.Word
names_fault c (word ∷ words) =
    option_or (then_some (is_among (signals_in c) (last_of (word ∷ words))) kinds.Twice) (then_some (nat_lt MOST_SIGNALS (length (signals_in c) + 1)) kinds.TooMany)

-- of a line that says this, where `.end` didn't come
abbrev pub open_fault : Context → Statement → Option FaultKind
open_fault c nothing = None
open_fault c (model words) = then_some c.modelled kinds.LeftOut
open_fault c (inputs words) = inputs_fault c words
open_fault c (outputs words) = then_some (nat_lt MOST_OUTPUTS (length c.outputs + length words)) kinds.TooMany
open_fault c (names words) = names_fault c words
open_fault c (subckt words) = Some kinds.LeftOut
open_fault c (latch words) = Some kinds.LeftOut
open_fault c (ends []) = None
open_fault c (ends (word ∷ words)) = Some kinds.Word
open_fault c passed_over = None
open_fault c left_out = Some kinds.LeftOut
open_fault c unknown = Some kinds.Word
open_fault c (row words) = rows_fault c.current words

-- of a line behind `.end`
abbrev pub end_fault : Statement → Option FaultKind
end_fault nothing = None
end_fault (model words) = Some kinds.LeftOut
end_fault statement = Some kinds.Word

-- the fault of a line behind those that left this: first the bytes that may not stand in one
unfoldable pub line_fault : Context → Line → Option FaultKind
line_fault c line =
    if not (list_all is_allowed line.bytes) then Some kinds.Word else
    if c.ended then end_fault (said line) else open_fault c (said line)

abbrev pub fault_on : Line → FaultKind → BlifFault
fault_on line kind = record { line = line.number; what = kind }

-- the first faulty line, and its fault
unfoldable pub faulty_line : Context → List Line → Option BlifFault
faulty_line c [] = None
faulty_line c (line ∷ lines) = option_or (option_map (fault_on line) (line_fault c line)) (faulty_line (after_line c line) lines)

-- the names that a line uses: outputs, and the inputs of a cover
abbrev pub uses : Statement → List Word
uses (outputs words) = words
uses (names words) = front_of words
uses _ = []

-- the first line that uses a name which is no signal
abbrev pub undefined_line : List Line → Option BlifFault
undefined_line lines =
    option_map (λ line. fault_on line kinds.Undefined) (find (λ line. not (list_all (is_signal (circuit_of lines)) (uses (said line)))) lines)

abbrev pub cycle_at : Cover → BlifFault
cycle_at cover = record { line = cover.line; what = kinds.Cycle }

-- the first cover that lies on a cycle or depends on one: however many covers are gone through, some signal that it reads isn't led back to inputs
abbrev pub cyclic_cover : Circuit → Option BlifFault
cyclic_cover circuit = option_map cycle_at (find (λ cover. not (is_settled circuit cover)) circuit.covers)

abbrev pub no_outputs : List Line → Option BlifFault
no_outputs lines =
    if length (circuit_of lines).outputs == 0 then Some (record { line = last_number lines; what = kinds.NoOutputs }) else None

-- the fault of joined lines: each kind comes only where no earlier one does
abbrev pub fault_in : List Line → Option BlifFault
fault_in lines = option_or (faulty_line at_start lines) (option_or (undefined_line lines) (option_or (cyclic_cover (circuit_of lines)) (no_outputs lines)))

-- the line says what one model without latches and instances has behind its first line
abbrev pub is_plain_statement : Statement → Bool
is_plain_statement nothing = true
is_plain_statement (inputs words) = true
is_plain_statement (outputs words) = true
is_plain_statement (names words) = true
is_plain_statement (row words) = true
is_plain_statement (ends words) = true
is_plain_statement passed_over = true
is_plain_statement _ = false

abbrev pub is_plain : Line → Bool
is_plain line = is_plain_statement (said line)

abbrev pub begins_plainly : Statement → Bool
begins_plainly (model words) = true
begins_plainly statement = is_plain_statement statement

-- the first line may be a `.model`, and no further one is
abbrev pub is_of_one_model : List Line → Bool
is_of_one_model [] = true
is_of_one_model (line ∷ lines) = begins_plainly (said line) && list_all is_plain lines

-- Where such a text has no fault by the definitions for one model, it has none by those for several, and its circuit is the same by both.
abbrev pub PlainTextsAgree : Type 0
PlainTextsAgree =
    (lines : List Line) → is_of_one_model lines ≡ true → fault_in lines ≡ None
    → (several_faults.fault_in lines ≡ None) × (several.circuit_of lines ≡ circuit_of lines)
