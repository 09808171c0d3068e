-- What the reader keeps from line to line.
use Rattle.std.specs.Prelude.{◌≡◌, ℕ, ◌+◌, ◌<◌, ◌≤◌, List, [], ◌∷◌, ◌++◌, Some, None, length, codes, is_some, unwrap_or, IfSome, false, Option}
use Rattle.edge_bits.specs.declared.limits.TheConstants.{MOST_ELEMENTS, MOST_SESSIONS, MOST_SLOTS, MOST_VARIABLES, USUAL_LIMIT}
use Rattle.job_commands.specs.declared.acts.Act.{Act}
use Rattle.job_text.specs.declared.job.Command.{Command}
use Rattle.job_text.specs.declared.job.Counts.{Counts}
use Rattle.job_text.specs.declared.job.Register.{Register}
use Rattle.job_commands.specs.declared.commands.Place.{Place}
use Rattle.job_text.specs.declared.operands.Operand.{Operand}
use Rattle.job_commands.specs.declared.operands.Operands.{Operands}
use Rattle.job_text.specs.declared.draft.Draft.{Draft}
use Rattle.job_text.specs.declared.draft.Draft.TheVariants.{Nothing, Sized, Begun}
use Rattle.job_text.specs.declared.draft.Section.{Section}
use Rattle.job_text.specs.declared.faults.FaultKind.TheVariants as kinds
use Rattle.job_text.specs.declared.faults.JobError.{JobError}
use Rattle.job_text.specs.declared.faults.JobError.TheVariants as errors
use Rattle.job_text.specs.declared.faults.JobStop.{JobStop}
use Rattle.job_text.specs.declared.faults.JobStop.TheVariants as stops
use Rattle.job_words.specs.Text.{Word, IsNumber}
use Rattle.job_text.specs.Places.{StandsFor, place_of}
use Rattle.job_text.specs.Grammar.{Says, registers_after}
use Rattle.job_text.specs.Faults.{Context, at_start, sized, within, counts_with, has_begun, words_fault, slot_fault, Left, nothing_left, first_fault, command_fault}

-- what a draft leaves to the next line
abbrev pub context_in : Draft → Context
context_in Nothing = at_start
context_in (Sized n elements given) = sized n elements (is_some given)
context_in (Begun limit done section) = within section.scope.counts (length done + 1) section.scope.registers

-- what a line of these words makes of a draft
abbrev pub AddsVars : Draft → List Word → Draft → Type 0
AddsVars old words new = (number : Word) × (n : ℕ) × (words ≡ codes "vars" ∷ number ∷ []) × IsNumber number n × (n ≤ MOST_VARIABLES)
    × (old ≡ Nothing) × (new ≡ Sized n None None)

abbrev pub AddsElements : Draft → List Word → Draft → Type 0
AddsElements old words new = (number : Word) × (n m : ℕ) × (words ≡ codes "elements" ∷ number ∷ []) × IsNumber number m × (m ≤ MOST_ELEMENTS)
    × (old ≡ Sized n None None) × (new ≡ Sized n (Some m) None)

abbrev pub AddsLimit : Draft → List Word → Draft → Type 0
AddsLimit old words new = (number : Word) × (n limit : ℕ) × (elements : Option ℕ) × (words ≡ codes "limit" ∷ number ∷ []) × IsNumber number limit × (5 + n ≤ limit) × (limit ≤ MOST_SLOTS)
    × (old ≡ Sized n elements None) × (new ≡ Sized n elements (Some limit))

-- a section without commands
abbrev pub new_section : Counts → Section
new_section n = record { scope = record { counts = n; registers = [] }; commands = [] }

abbrev pub AddsSession : Draft → List Word → Draft → Type 0
AddsSession old words new = (n : ℕ) × (elements given : Option ℕ) × (words ≡ codes "session" ∷ []) × (old ≡ Sized n elements given)
    × (new ≡ Begun (unwrap_or given USUAL_LIMIT) [] (new_section (counts_with n elements)))

abbrev pub AddsFurther : Draft → List Word → Draft → Type 0
AddsFurther old words new = (limit : ℕ) × (done : List (List Command)) × (section : Section) × (words ≡ codes "session" ∷ []) × (length done + 1 < MOST_SESSIONS)
    × (old ≡ Begun limit done section) × (new ≡ Begun limit (done ++ section.commands ∷ []) (new_section section.scope.counts))

-- the section with one more command
abbrev pub with_act : Section → List Word → Act → Section
with_act section words act = record {
  scope = record { counts = section.scope.counts; registers = registers_after section.scope.registers words };
  commands = section.commands ++ record { words = words; act = act } ∷ [];
}

abbrev pub AddsCommand : Draft → List Word → Draft → Type 0
AddsCommand old words new = (limit : ℕ) × (done : List (List Command)) × (section : Section) × (act : Act) × (old ≡ Begun limit done section)
    × Says section.scope.counts section.scope.registers words act
    × (new ≡ Begun limit done (with_act section words act))

pub data Adds (old : Draft) (words : List Word) (new : Draft) : Type 0 where
  adds_nothing : words ≡ [] → new ≡ old → Adds old words new
  adds_vars : AddsVars old words new → Adds old words new
  adds_elements : AddsElements old words new → Adds old words new
  adds_limit : AddsLimit old words new → Adds old words new
  adds_session : AddsSession old words new → Adds old words new
  adds_further : AddsFurther old words new → Adds old words new
  adds_command : AddsCommand old words new → Adds old words new

-- the word at this place stands for the operand
abbrev pub IsOperand : Counts → List Register → Place × Word → Operand → Type 0
IsOperand n registers slot operand = (place_of operand ≡ slot.0) × StandsFor n registers slot.1 operand

-- and so on, one by one
abbrev pub AreOperands : Counts → List Register → List (Place × Word) → List Operand → Type 0
AreOperands n registers [] [] = Unit {0}
AreOperands n registers (slot ∷ slots) (operand ∷ operands) = IsOperand n registers slot operand × AreOperands n registers slots operands
AreOperands n registers _ _ = ⊥

-- what operands to the left leave for the word behind them
abbrev pub left_by : Operands → Left
left_by others = record { variables = others.variables; kind = others.kind }

-- why a word was not taken at its place
abbrev pub SlotStop : Counts → List Register → Place × Word → JobStop → Type 0
SlotStop n registers slot stops.Memory = Unit {0}
SlotStop n registers slot (stops.Fault fault) = slot_fault n registers slot ≡ Some fault

-- why words of due form were not taken at their places
abbrev pub SlotsStop : Counts → List Register → List (Place × Word) → JobStop → Type 0
SlotsStop n registers slots stops.Memory = Unit {0}
SlotsStop n registers slots (stops.Fault fault) = first_fault n registers nothing_left slots ≡ Some fault

-- why these words were not taken as a command
abbrev pub CommandStop : Counts → List Register → List Word → JobStop → Type 0
CommandStop n registers words stops.Memory = Unit {0}
CommandStop n registers words (stops.Fault fault) = command_fault n registers words ≡ Some fault

-- why a line of these words was not taken
abbrev pub LineStop : Draft → List Word → JobStop → Type 0
LineStop draft words stops.Memory = Unit {0}
LineStop draft words (stops.Fault fault) = words_fault (context_in draft) words ≡ Some fault

-- why a text of so many lines is not a job at its end
abbrev pub EndStop : Draft → ℕ → JobError → Type 0
EndStop draft lines errors.Memory = Unit {0}
EndStop draft lines (errors.Fault fault) = (has_begun (context_in draft) ≡ false) × (fault.line ≡ lines + 1) × (fault.what ≡ kinds.Word)

-- the numbers of a draft are in range
abbrev pub IsSmall : Draft → Type 0
IsSmall Nothing = Unit {0}
IsSmall (Sized n elements given) = (n ≤ MOST_VARIABLES) × IfSome elements (λ m. m ≤ MOST_ELEMENTS) × IfSome given (λ limit. (5 + n ≤ limit) × (limit ≤ MOST_SLOTS))
IsSmall (Begun limit done section) =
    (section.scope.counts.vars ≤ MOST_VARIABLES) × (section.scope.counts.elements ≤ MOST_ELEMENTS) × (5 + section.scope.counts.vars ≤ limit) × (limit ≤ MOST_SLOTS) × (length done < MOST_SESSIONS)
