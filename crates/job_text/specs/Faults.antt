-- What is wrong with a text: its first faulty line, and on it the first fault.
use Rattle.std.specs.Prelude.{◌≡◌, ℕ, ◌+◌, ◌-◌, ◌*◌, ◌==◌, nat_lt, nat_le, Bool, true, false, ◌&&◌, not, List, [], ◌∷◌, ◌++◌, Option, Some, None, length, codes, if◌then◌else◌, ◌⊎◌, unwrap_or, is_some}
use Rattle.std.specs.List.{list_all, list_any}
use Rattle.std.specs.Option.{option_map}
use Rattle.std.specs.Str.{bytes_eq}
use Rattle.std.specs.Str.Parse.{digits_value}
use Rattle.edge_bits.specs.declared.limits.TheConstants.{CELLS, MOST_ELEMENTS, MOST_SESSIONS, MOST_SLOTS, MOST_VARIABLES}
use Rattle.edge_bits.specs.declared.edges.Kind.{Kind}
use Rattle.edge_bits.specs.declared.edges.Kind.TheVariants.{Bdd}
use Rattle.function_laws.specs.Numbers.{is_value}
use Rattle.job_commands.specs.declared.commands.Place.{Place}
use Rattle.job_commands.specs.declared.commands.Place.TheVariants.{Fresh, Held, Any, Alike, Variable, NewVariable, Element, Level, Cell, Value, Bit, Bits, Literals}
use Rattle.job_text.specs.declared.faults.FaultKind.{FaultKind}
use Rattle.job_text.specs.declared.faults.FaultKind.TheVariants as kinds
use Rattle.job_text.specs.declared.faults.JobError.{JobError}
use Rattle.job_text.specs.declared.faults.JobError.TheVariants as errors
use Rattle.job_text.specs.declared.job.Counts.{Counts}
use Rattle.job_text.specs.declared.job.Register.{Register}
use Rattle.job_words.specs.Text.{Word, is_number, integer_value, is_allowed, lines_of, words_of, bits_in}
use Rattle.job_commands.specs.Commands.{has_form, command_of}
use Rattle.job_text.specs.Places.{bits_for, is_called, kind_fault, levels_of}
use Rattle.job_text.specs.Grammar.{kind_called, register_called, registers_after}

-- the fault where a register of any kind is due, and this one has the name that stands there
abbrev pub name_fault : Option Register → Option FaultKind
name_fault None = Some kinds.Name
name_fault (Some register) = if register.live then None else Some kinds.Name

abbrev pub or_else : Option FaultKind → Option FaultKind → Option FaultKind
or_else None later = later
or_else (Some fault) later = Some fault

-- the fault of a number that is due to be below another
abbrev pub below_fault : ℕ → Word → Option FaultKind
below_fault n word = if nat_lt (digits_value 10 word) n then None else Some kinds.Range

-- the fault of a word of due form, over these registers and these numbers of variables and elements, whatever stands beside it
abbrev pub slot_fault : Counts → List Register → Place × Word → Option FaultKind
slot_fault n registers (Fresh, word) = if list_any (is_called word) registers then Some kinds.Again else None
slot_fault n registers (Held kind, word) = or_else (name_fault (register_called registers word)) (kind_fault kind (kind_called registers word))
slot_fault n registers (Any, word) = name_fault (register_called registers word)
slot_fault n registers (Alike, word) = name_fault (register_called registers word)
slot_fault n registers (Variable, word) = below_fault n.vars word
slot_fault n registers (NewVariable, word) = below_fault n.vars word
slot_fault n registers (Element, word) = below_fault n.elements word
slot_fault n registers (Level order, word) = below_fault (levels_of n order - 1) word
slot_fault n registers (Cell, word) = below_fault CELLS word
slot_fault n registers (Value, word) = if is_value (integer_value word) then None else Some kinds.Range
slot_fault n registers (Bit, word) = None
slot_fault n registers (Bits, word) = None
slot_fault n registers (Literals, word) = if nat_le (2 * n.vars) n.elements then None else Some kinds.Range

-- What the words to the left of a word name: the variables, and the kind of the last register (that of a BDD, if there is none).
pub record Left : Type 0 where
  pub variables : List ℕ
  pub kind : Kind

abbrev pub nothing_left : Left
nothing_left = record { variables = []; kind = Bdd }

-- the fault of a word by what stands to its left: a register of another kind than the last, a variable that was named, bits of
-- another number than is due for the last register
abbrev pub beside_fault : Counts → List Register → Left → Place × Word → Option FaultKind
beside_fault n registers left (Fresh, word) = None
beside_fault n registers left (Held kind, word) = None
beside_fault n registers left (Any, word) = None
beside_fault n registers left (Alike, word) = kind_fault left.kind (kind_called registers word)
beside_fault n registers left (Variable, word) = None
beside_fault n registers left (NewVariable, word) = if list_any (λ v. v == digits_value 10 word) left.variables then Some kinds.Range else None
beside_fault n registers left (Element, word) = None
beside_fault n registers left (Level order, word) = None
beside_fault n registers left (Cell, word) = None
beside_fault n registers left (Value, word) = None
beside_fault n registers left (Bit, word) = None
beside_fault n registers left (Bits, word) = if bits_in word == bits_for n left.kind then None else Some kinds.Range
beside_fault n registers left (Literals, word) = None

-- the fault of a word of due form, where this stands to its left
abbrev pub word_fault : Counts → List Register → Left → Place × Word → Option FaultKind
word_fault n registers left slot = or_else (slot_fault n registers slot) (beside_fault n registers left slot)

-- what is named up to this word
abbrev pub left_after : List Register → Left → Place × Word → Left
left_after registers left (Fresh, word) = left
left_after registers left (Held kind, word) = record left { kind = kind_called registers word }
left_after registers left (Any, word) = record left { kind = kind_called registers word }
left_after registers left (Alike, word) = record left { kind = kind_called registers word }
left_after registers left (Variable, word) = record left { variables = left.variables ++ digits_value 10 word ∷ [] }
left_after registers left (NewVariable, word) = record left { variables = left.variables ++ digits_value 10 word ∷ [] }
left_after registers left (Element, word) = left
left_after registers left (Level order, word) = left
left_after registers left (Cell, word) = left
left_after registers left (Value, word) = left
left_after registers left (Bit, word) = left
left_after registers left (Bits, word) = left
left_after registers left (Literals, word) = left

-- the first fault from the left, where the words before these name this
abbrev pub first_fault : Counts → List Register → Left → List (Place × Word) → Option FaultKind
first_fault n registers left [] = None
first_fault n registers left (slot ∷ slots) = or_else (word_fault n registers left slot) (first_fault n registers (left_after registers left slot) slots)

-- what is wrong with the form comes before all else
abbrev pub fault_in : Counts → List Register → Option (List (Place × Word)) → Option FaultKind
fault_in n registers None = Some kinds.Word
fault_in n registers (Some slots) = if list_all has_form slots then first_fault n registers nothing_left slots else Some kinds.Word

-- the fault of a command of these words
unfoldable pub command_fault : Counts → List Register → List Word → Option FaultKind
command_fault n registers words = fault_in n registers (option_map (λ known. known.1) (command_of words))

-- the fault of a line that is due to be a word and a number in range
abbrev pub number_fault : Word → (ℕ → Bool) → FaultKind → List Word → Option FaultKind
number_fault due in_range fault (first ∷ second ∷ []) =
    if bytes_eq first due && is_number second then (if in_range (digits_value 10 second) then None else Some fault) else Some kinds.Word
number_fault due in_range fault _ = Some kinds.Word

abbrev pub is_session : List Word → Bool
is_session (word ∷ []) = bytes_eq word (codes "session")
is_session _ = false

-- What the lines so far leave to the next one.
pub data Context : Type 0 where
  -- the line `vars` is due
  at_start : Context
  -- there are so many variables and, if that was given, so many elements, and the limit was given or not; no section has begun
  sized : ℕ → Option ℕ → Bool → Context
  -- there are so many variables and elements, so many sections have begun, and the last has these registers
  within : Counts → ℕ → List Register → Context

-- the numbers of variables and elements; without a line for them there are no elements
abbrev pub counts_with : ℕ → Option ℕ → Counts
counts_with n elements = record { vars = n; elements = unwrap_or elements 0 }

-- the fault of a line of these words
abbrev pub words_fault : Context → List Word → Option FaultKind
words_fault context [] = None
words_fault at_start (word ∷ words) = number_fault (codes "vars") (λ n. nat_le n MOST_VARIABLES) kinds.Range (word ∷ words)
words_fault (sized n elements limited) (word ∷ words) =
    if is_session (word ∷ words) then None else if limited then Some kinds.Word else
    if bytes_eq word (codes "elements") && not (is_some elements) then number_fault (codes "elements") (λ m. nat_le m MOST_ELEMENTS) kinds.Range (word ∷ words) else
    number_fault (codes "limit") (λ limit. nat_le (5 + n) limit && nat_le limit MOST_SLOTS) kinds.Limit (word ∷ words)
words_fault (within n sections registers) (word ∷ words) =
    if is_session (word ∷ words) then (if nat_lt sections MOST_SESSIONS then None else Some kinds.Limit) else command_fault n registers (word ∷ words)

-- the fault of a line: first the bytes that may not stand in one
abbrev pub line_fault : Context → List ℕ → Option FaultKind
line_fault context line = if list_all is_allowed line then words_fault context (words_of line) else Some kinds.Word

-- the number behind a word
abbrev pub number_behind : List Word → ℕ
number_behind (first ∷ second ∷ words) = digits_value 10 second
number_behind _ = 0

-- what a line of these words leaves, where it has no fault
abbrev pub context_after : Context → List Word → Context
context_after context [] = context
context_after at_start (word ∷ words) = sized (number_behind (word ∷ words)) None false
context_after (sized n elements limited) (word ∷ words) =
    if is_session (word ∷ words) then within (counts_with n elements) 1 [] else
    if bytes_eq word (codes "elements") then sized n (Some (number_behind (word ∷ words))) limited else sized n elements true
context_after (within n sections registers) (word ∷ words) =
    if is_session (word ∷ words) then within n (sections + 1) [] else within n sections (registers_after registers (word ∷ words))

abbrev pub has_begun : Context → Bool
has_begun (within n sections registers) = true
has_begun _ = false

-- what the lines leave, one after another
abbrev pub context_behind : Context → List (List ℕ) → Context
context_behind context [] = context
context_behind context (line ∷ lines) = context_behind (context_after context (words_of line)) lines

-- each line has no fault behind those before it
abbrev pub Faultless : Context → List (List ℕ) → Type 0
Faultless context [] = Unit {0}
Faultless context (line ∷ lines) = (line_fault context line ≡ None) × Faultless (context_after context (words_of line)) lines

-- The first faulty line, counted from 1, and its fault.
pub record FaultyLine (text : List ℕ) (place : ℕ) (kind : FaultKind) : Type 0 where
  pub good : List (List ℕ)
  pub bad : List ℕ
  pub rest : List (List ℕ)
  pub lines : lines_of text ≡ good ++ bad ∷ rest
  pub counted : place ≡ length good + 1
  pub faultless : Faultless at_start good
  pub faulty : line_fault (context_behind at_start good) bad ≡ Some kind

-- No line is faulty, but no section has begun at the end.
pub record EndsEarly (text : List ℕ) (place : ℕ) (kind : FaultKind) : Type 0 where
  pub faultless : Faultless at_start (lines_of text)
  pub early : has_begun (context_behind at_start (lines_of text)) ≡ false
  pub counted : place ≡ length (lines_of text) + 1
  pub word : kind ≡ kinds.Word

-- the text is at fault on this line
abbrev pub IsFaultText : List ℕ → ℕ → FaultKind → Type 0
IsFaultText text place kind = FaultyLine text place kind ⊎ EndsEarly text place kind

-- why a text was not read; want of memory may come at any time
abbrev pub HasFault : List ℕ → JobError → Type 0
HasFault text errors.Memory = Unit {0}
HasFault text (errors.Fault fault) = IsFaultText text fault.line fault.what
