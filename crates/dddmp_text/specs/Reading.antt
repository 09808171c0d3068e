-- What the parts of the reader tell of the lines that they take.
use Rattle.std.specs.Prelude.{◌≡◌, true, false, ℕ, ◌<◌, ◌≤◌, ◌^◌, ◌==◌, nat_lt, nat_le, Bool, not, ◌&&◌, ◌||◌, List, [], ◌∷◌, ◌++◌, Option, Some, None, length, map, slice_index, nat_abs, if◌then◌else◌, MatchOption, ℤ}
use Rattle.std.specs.Option.{option_map, option_or}
use Rattle.std.specs.Str.Parse.{digits_value}
use Rattle.std.specs.Bool.{then_some}
use Rattle.job_words.specs.Text.{Word, integer_value, lines_of}
use Rattle.edge_bits.specs.declared.edges.Line.{Line}
use Rattle.dddmp_text.specs.declared.faults.DddmpError.{DddmpError}
use Rattle.dddmp_text.specs.declared.faults.DddmpError.TheVariants as errors
use Rattle.dddmp_text.specs.declared.faults.DddmpFault.{DddmpFault}
use Rattle.dddmp_text.specs.declared.faults.DddmpStop.{DddmpStop}
use Rattle.dddmp_text.specs.declared.faults.DddmpStop.TheVariants as stops
use Rattle.dddmp_text.specs.declared.faults.FaultKind.{FaultKind}
use Rattle.dddmp_text.specs.declared.faults.FaultKind.TheVariants as kinds
use Rattle.dddmp_text.specs.declared.fields.Field.TheVariants as fields
use Rattle.dddmp_text.specs.declared.fields.Given.{Given}
use Rattle.dddmp_text.specs.declared.node_lines.Listed.{Listed}
use Rattle.dddmp_text.specs.declared.node_lines.NodeWords.{NodeWords}
use Rattle.edge_bits.specs.declared.limits.TheConstants.{MOST_VARIABLES}
use Rattle.std.specs.List.{list_all}
use Rattle.dddmp_text.specs.Fields.{Fields, fields_of, is_node, is_one_number, is_small, is_small_integer, is_terminal, number, numbers, value_or}
use Rattle.diagram_dumps.specs.declared.dump.Dump.{Dump}
use Rattle.dddmp_text.specs.Faults.{dump_in, Context, after_words, behind, ended, fault_at, fault_of, faulty_line, heading, is_other_count, listing, nodes_fault, words_fault}
use Rattle.dddmp_text.specs.Ranks.{variable_of}

-- the stop is want of memory, or this fault
abbrev pub StopIs : Option FaultKind → DddmpStop → Type 0
StopIs fault stops.Memory = Unit {0}
StopIs fault (stops.Fault kind) = fault ≡ Some kind

-- the error is want of memory, or this fault
abbrev pub ErrorIs : Option DddmpFault → DddmpError → Type 0
ErrorIs fault errors.Memory = Unit {0}
ErrorIs fault (errors.Fault at) = fault ≡ Some at

-- why a text is not read; want of memory may come at any time
abbrev pub HasFault : List ℕ → DddmpError → Type 0
HasFault text error = ErrorIs (fault_of text) error

-- why a text is not read of which a line was not taken
abbrev pub stopped_at : ℕ → DddmpStop → DddmpError
stopped_at line stops.Memory = errors.Memory
stopped_at line (stops.Fault kind) = errors.Fault (fault_at line kind)

-- the first fault of lines that are numbered from here on, behind a header, and what they leave
abbrev pub fault_behind : List Given → ℕ → List ℕ → Option DddmpFault
fault_behind given number rest = faulty_line number (listing given false []) (lines_of rest)

abbrev pub left_behind : List Given → List ℕ → Context
left_behind given rest = behind (listing given false []) (lines_of rest)

-- the dump of a header and of faultless lines behind it
abbrev pub IsDumpBehind : List Given → ℕ → List ℕ → Dump → Type 0
IsDumpBehind given number rest dump = (fault_behind given number rest ≡ None) × (dump ≡ dump_in (left_behind given rest))

-- a number below 2 ^ 31, with a sign or without
abbrev pub is_form : Bool → Word → Bool
is_form signed word = if signed then is_small_integer word else is_small word

-- the value, where it has its form, and else none
abbrev pub IsIf : Bool → ℤ → Option ℤ → Type 0
IsIf form value found = MatchOption found (form ≡ false) (λ z. (form ≡ true) × (value ≡ z))

-- the numbers, where they have their form, and else none
abbrev pub AreIf : Bool → List ℤ → Option (List ℤ) → Type 0
AreIf form numbers found = MatchOption found (form ≡ false) (λ told. (form ≡ true) × (told ≡ numbers))

-- the words are one number, which is at most so much
abbrev pub is_number_within : ℕ → List Word → Bool
is_number_within most words = is_one_number words && nat_le (nat_abs (value_or (map integer_value words))) most

-- Of lines that are numbered from `number` on, behind a context, these are left: the text's first fault is theirs, and what all
-- leave is what they leave.
pub record AreLeft (number : ℕ) (c : Context) (lines : List (List ℕ)) (number' : ℕ) (c' : Context) (rest : List ℕ) : Type 0 where
  pub faults : faulty_line number c lines ≡ faulty_line number' c' (lines_of rest)
  pub leaves : behind c lines ≡ behind c' (lines_of rest)

-- the words of a node line
abbrev pub with_id : Option Word → List Word → List Word
with_id None words = words
with_id (Some id) words = id ∷ words

abbrev pub words_in : NodeWords → List Word
words_in words = words.index.now ∷ with_id (option_map (λ id. id.now) words.id) (words.internal.now ∷ words.hi.now ∷ words.lo.now ∷ [])

abbrev pub fields_in : NodeWords → Fields
fields_in words = record { index = words.index.now; internal = words.internal.now; hi = words.hi.now; lo = words.lo.now }

-- the line has as many words as a node line
abbrev pub has_count : List Word → Bool
has_count words = length words == 4 || length words == 5

-- both children stand before the line of this index
abbrev pub is_ordered : ℕ → Fields → Bool
is_ordered index read = nat_lt (digits_value 10 read.hi) index && nat_lt (nat_abs (integer_value read.lo)) index

-- what is wrong with a node line of this index, of so many variables
abbrev pub read_fault : ℕ → ℕ → Fields → Option FaultKind
read_fault support index read =
    option_or (then_some (not (is_node index read)) kinds.Node)
    (option_or (then_some (not (is_ordered index read)) kinds.Order)
    (then_some (not (nat_lt (digits_value 10 read.internal) support)) kinds.Variable))

-- the node of a line, by the variables of the internal indices
abbrev pub line_of : List ℕ → Fields → Line
line_of variables read = record { var = slice_index variables (digits_value 10 read.internal); hi = digits_value 10 read.hi; lo = integer_value read.lo }

-- of a node line that has these fields, if it has any
abbrev pub fields_fault_of : ℕ → ℕ → Option Fields → Option FaultKind
fields_fault_of support index None = Some kinds.Node
fields_fault_of support index (Some read) = read_fault support index read

-- of a line behind `.nodes`, other than `.end`
abbrev pub line_fault : Bool → ℕ → ℕ → List Word → Option FaultKind
line_fault started index support words = if started then fields_fault_of support index (fields_of words) else then_some (not (is_terminal words)) kinds.Node

abbrev pub with_line : List ℕ → List Line → Option Fields → List Line
with_line variables nodes None = nodes
with_line variables nodes (Some read) = nodes ++ line_of variables read ∷ []

-- what a node line leaves, where it has no fault
pub record TakesNode (old : Listed) (index : ℕ) (variables : List ℕ) (words : List Word) (new : Listed) : Type 0 where
  pub faultless : line_fault old.started index (length variables) words ≡ None
  pub started : new.started ≡ true
  pub nodes : new.nodes ≡ (if old.started then with_line variables old.nodes (fields_of words) else old.nodes)

-- the variables of the internal indices under a header
pub record AreOfHeader (given : List Given) (variables : List ℕ) : Type 0 where
  pub as_many : length variables ≡ number given fields.Nsuppvars
  pub few : length variables ≤ 2 ^ 31
  pub told : (internal : ℕ) → internal < number given fields.Nsuppvars → slice_index variables internal ≡ variable_of (numbers given fields.Ids) (numbers given fields.Permids) internal

-- a list is of another length than is said
abbrev pub is_any_other_count : List Given → Bool
is_any_other_count given = is_other_count given fields.Ids fields.Nsuppvars || is_other_count given fields.Permids fields.Nsuppvars || is_other_count given fields.Rootids fields.Nroots

-- there are too many variables, or an id is not among them
abbrev pub has_bad_variable : List Given → Bool
has_bad_variable given = nat_lt MOST_VARIABLES (number given fields.Nvars) || not (list_all (λ id. nat_lt id (number given fields.Nvars)) (numbers given fields.Ids))

-- what a line before the nodes leaves, where it has no fault: the nodes begin, or not
pub record HeadsOn (given : List Given) (words : List Word) (given' : List Given) (begins : Bool) : Type 0 where
  pub faultless : words_fault (heading given) words ≡ None
  pub leaves : after_words (heading given) words ≡ (if begins then listing given' false [] else heading given')
  pub whole : begins ≡ true → nodes_fault given' ≡ None

-- there is no node before the line of the constant
abbrev pub IsEmptyAtStart : Listed → Type 0
IsEmptyAtStart listed = listed.started ≡ false → listed.nodes ≡ []

-- what a line behind `.nodes` leaves, where it has no fault: the listing ends, or not
pub record ListsOn (given : List Given) (old : Listed) (words : List Word) (new : Listed) (ends : Bool) : Type 0 where
  pub faultless : words_fault (listing given old.started old.nodes) words ≡ None
  pub leaves : after_words (listing given old.started old.nodes) words ≡ (if ends then ended given new.nodes else listing given new.started new.nodes)
  pub empty : IsEmptyAtStart new
