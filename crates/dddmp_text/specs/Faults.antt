-- What is wrong with a text: its first faulty line, and on it the first fault.
use Rattle.std.specs.Prelude.{◌≡◌, ℕ, ◌+◌, ◌==◌, nat_lt, Bool, true, false, not, ◌&&◌, ◌||◌, List, [], ◌∷◌, ◌++◌, ℤ, Option, Some, None, length, codes, nat_abs, if◌then◌else◌}
use Rattle.std.specs.List.{list_all, list_any}
use Rattle.std.specs.Option.{option_map, option_or}
use Rattle.std.specs.Str.{bytes_eq}
use Rattle.std.specs.Str.Parse.{digits_value}
use Rattle.std.specs.Bool.{then_some}
use Rattle.job_words.specs.Text.{Word, lines_of, integer_value, split_words, is_among}
use Rattle.dddmp_text.specs.declared.fields.Field.{Field}
use Rattle.dddmp_text.specs.declared.fields.Field.TheVariants as fields
use Rattle.dddmp_text.specs.declared.fields.Given.{Given}
use Rattle.diagram_dumps.specs.declared.dump.Dump.{Dump}
use Rattle.edge_bits.specs.declared.edges.Line.{Line}
use Rattle.edge_bits.specs.declared.limits.TheConstants.{MOST_VARIABLES}
use Rattle.dddmp_text.specs.declared.faults.DddmpFault.{DddmpFault}
use Rattle.dddmp_text.specs.declared.faults.FaultKind.{FaultKind}
use Rattle.dddmp_text.specs.declared.faults.FaultKind.TheVariants as kinds
use Rattle.dddmp_text.specs.Fields.{passed_words, field_of, all_fields, has_form, numbers_of, is_given, numbers, whole_numbers, number, is_terminal, Fields, fields_of, is_node}
use Rattle.dddmp_text.specs.Ranks.{variable_of}

-- What the lines so far leave to the next one.
pub data Context : Type 0 where
  -- `.nodes` did not come; these fields were given
  heading : List Given → Context
  -- behind `.nodes`: the line of the constant came or not, and these node lines came behind it
  listing : List Given → Bool → List Line → Context
  -- `.end` came
  ended : List Given → List Line → Context

abbrev pub at_start : Context
at_start = heading []

-- the number of a list is not what a field says
abbrev pub is_other_count : List Given → Field → Field → Bool
is_other_count given list count = not (length (whole_numbers given list) == number given count)

-- a root is 0, or beyond the nodes
abbrev pub is_bad_root : ℕ → ℤ → Bool
is_bad_root nodes root = nat_abs root == 0 || nat_lt nodes (nat_abs root)

-- of `.nodes` behind these fields
abbrev pub nodes_fault : List Given → Option FaultKind
nodes_fault given =
    option_or (then_some (not (list_all (is_given given) all_fields)) kinds.Missing)
    (option_or (then_some (is_other_count given fields.Ids fields.Nsuppvars || is_other_count given fields.Permids fields.Nsuppvars || is_other_count given fields.Rootids fields.Nroots) kinds.Count)
    (option_or (then_some (nat_lt MOST_VARIABLES (number given fields.Nvars) || not (list_all (λ id. nat_lt id (number given fields.Nvars)) (numbers given fields.Ids))) kinds.Variable)
    (then_some (list_any (is_bad_root (number given fields.Nnodes)) (whole_numbers given fields.Rootids)) kinds.Root)))

-- of a field's line
abbrev pub field_fault : List Given → Option Field → List Word → Option FaultKind
field_fault given None words = Some kinds.Header
field_fault given (Some field) words = then_some (is_given given field || not (has_form field words)) kinds.Header

-- of a line before `.nodes`, or of `.nodes` itself
abbrev pub header_fault : List Given → Word → List Word → Option FaultKind
header_fault given word words =
    if bytes_eq word (codes ".nodes") then option_or (then_some (not (length words == 0)) kinds.Header) (nodes_fault given) else
    if is_among passed_words word then None else field_fault given (field_of word) words

-- the index of the next node line
abbrev pub next_index : Bool → List Line → ℕ
next_index started nodes = if started then length nodes + 2 else 1

-- of a node line of this index, that is not the first
abbrev pub fields_fault : List Given → ℕ → Option Fields → Option FaultKind
fields_fault given index None = Some kinds.Node
fields_fault given index (Some read) =
    option_or (then_some (not (is_node index read)) kinds.Node)
    (option_or (then_some (not (nat_lt (digits_value 10 read.hi) index && nat_lt (nat_abs (integer_value read.lo)) index)) kinds.Order)
    (then_some (not (nat_lt (digits_value 10 read.internal) (number given fields.Nsuppvars))) kinds.Variable))

-- of a line behind `.nodes`
abbrev pub node_fault : List Given → Bool → List Line → Word → List Word → Option FaultKind
node_fault given started nodes word words =
    if bytes_eq word (codes ".end") then then_some (not (next_index started nodes == number given fields.Nnodes + 1)) kinds.Count else
    if started then fields_fault given (next_index started nodes) (fields_of (word ∷ words)) else then_some (not (is_terminal (word ∷ words))) kinds.Node

-- of a line of these words
abbrev pub words_fault : Context → List Word → Option FaultKind
words_fault (heading given) [] = None
words_fault (heading given) (word ∷ words) = header_fault given word words
words_fault (listing given started nodes) [] = None
words_fault (listing given started nodes) (word ∷ words) = node_fault given started nodes word words
words_fault (ended given nodes) words = None

-- the fields with that of a line, if it is one
abbrev pub with_field : List Given → Option Field → List Word → List Given
with_field given None words = given
with_field given (Some field) words = given ++ record { field = field; numbers = numbers_of field words } ∷ []

-- the node of a line, its variable by the rank of its internal index
abbrev pub node_of : List Given → Fields → Line
node_of given read = record {
  var = variable_of (numbers given fields.Ids) (numbers given fields.Permids) (digits_value 10 read.internal);
  hi = digits_value 10 read.hi;
  lo = integer_value read.lo;
}

abbrev pub with_node : List Given → List Line → Option Fields → List Line
with_node given nodes None = nodes
with_node given nodes (Some read) = nodes ++ node_of given read ∷ []

-- what a line of these words leaves, where it has no fault
abbrev pub after_words : Context → List Word → Context
after_words (heading given) [] = heading given
after_words (heading given) (word ∷ words) =
    if bytes_eq word (codes ".nodes") then listing given false [] else heading (with_field given (field_of word) words)
after_words (listing given started nodes) [] = listing given started nodes
after_words (listing given started nodes) (word ∷ words) =
    if bytes_eq word (codes ".end") then ended given nodes else
    if started then listing given true (with_node given nodes (fields_of (word ∷ words))) else listing given true []
after_words (ended given nodes) words = ended given nodes

abbrev pub after_line : Context → List ℕ → Context
after_line c line = after_words c (split_words line)

unfoldable pub behind : Context → List (List ℕ) → Context
behind c [] = c
behind c (line ∷ lines) = behind (after_line c line) lines

abbrev pub fault_at : ℕ → FaultKind → DddmpFault
fault_at line kind = record { line = line; what = kind }

-- of the text's end, by what its lines leave
abbrev pub end_fault : Context → Option FaultKind
end_fault (heading given) = Some kinds.Missing
end_fault (listing given started nodes) = Some kinds.End
end_fault (ended given nodes) = None

-- the first fault of lines that are numbered from `number` on, and of the text's end
unfoldable pub faulty_line : ℕ → Context → List (List ℕ) → Option DddmpFault
faulty_line number c [] = option_map (fault_at number) (end_fault c)
faulty_line number c (line ∷ lines) =
    option_or (option_map (fault_at number) (words_fault c (split_words line))) (faulty_line (number + 1) (after_line c line) lines)

-- the fault of a text, if it has one
unfoldable pub fault_of : List ℕ → Option DddmpFault
fault_of text = faulty_line 1 at_start (lines_of text)

abbrev pub dump_with : List Given → List Line → Dump
dump_with given nodes = record {
  nvars = number given fields.Nvars;
  ids = numbers given fields.Ids;
  permids = numbers given fields.Permids;
  nodes = nodes;
  roots = whole_numbers given fields.Rootids;
}

abbrev pub dump_in : Context → Dump
dump_in (heading given) = dump_with given []
dump_in (listing given started nodes) = dump_with given nodes
dump_in (ended given nodes) = dump_with given nodes

-- the dump that the lines of a text give
unfoldable pub dump_of : List ℕ → Dump
dump_of text = dump_in (behind at_start (lines_of text))

-- The text is that of a dump: it has no fault, and its lines give the dump.
pub record IsDddmpText (text : List ℕ) (dump : Dump) : Type 0 where
  pub faultless : fault_of text ≡ None
  pub dump_is : dump ≡ dump_of text
