-- The texts of jobs: what each command is spelled, and which lines make a job.
use Rattle.std.specs.Prelude.{◌≡◌, ℕ, ◌≤◌, ◌==◌, Bool, true, false, not, List, [], ◌∷◌, ◌++◌, Option, Some, All, length, map, filter, drop, ◌&&◌, codes, ◌+◌, ◌⊎◌, if◌then◌else◌, find}
use Rattle.std.specs.List.{list_all, flat_map}
use Rattle.std.specs.Str.{bytes_eq}
use Rattle.edge_bits.specs.declared.limits.TheConstants.{MOST_ELEMENTS, MOST_SESSIONS, MOST_SLOTS, MOST_VARIABLES, USUAL_LIMIT}
use Rattle.edge_bits.specs.declared.edges.Kind.{Kind}
use Rattle.job_commands.specs.declared.acts.Act.{Act}
use Rattle.job_text.specs.declared.job.Command.{Command}
use Rattle.job_text.specs.declared.job.Counts.{Counts}
use Rattle.job_text.specs.declared.job.Job.{Job}
use Rattle.job_text.specs.declared.job.Register.{Register}
use Rattle.job_text.specs.declared.operands.Operand.{Operand}
use Rattle.job_words.specs.Text.{Word, IsNumber, is_allowed, lines_of, words_of, is_assignment}
use Rattle.job_commands.specs.Commands.{Form, assigning, form_in, kind_made, telling, words_at}
use Rattle.job_commands.specs.Commands.{act_of}
use Rattle.job_commands.specs.Commands.{no_operands}
use Rattle.job_text.specs.Places.{AllFit, AllStandFor, Follows, IsFresh, is_called, kind_of, with_operands}

-- The command of this word in a table, what its operands are, and that these words stand for them: each stands at its place, and fits
-- those to its left.
pub record IsCommand (n : Counts) (registers : List Register) (forms : List Form) (command : Word) (words : List Word) (own : Form) (operands : List Operand) : Type 0 where
  pub found : form_in forms command ≡ Some own
  pub follows : Follows own.places own.repeated operands
  pub stand : AllStandFor n registers words operands
  pub fit : AllFit n registers no_operands operands

-- The words have this form of a command, and stand for these operands: `r = COMMAND ..` for a new name, or `COMMAND ..`. Behind the
-- target the word of the command stands for one where something is due at it.
pub data Forms (n : Counts) (registers : List Register) (words : List Word) (own : Form) (operands : List Operand) : Type 0 where
  assigns : (r command : Word) (rest : List Word) → words ≡ r ∷ codes "=" ∷ command ∷ rest → IsFresh registers r → IsCommand n registers assigning command (words_at own.places command rest) own operands
      → Forms n registers words own operands
  tells : (command : Word) (rest : List Word) → words ≡ command ∷ rest → IsCommand n registers telling command rest own operands → Forms n registers words own operands

-- The words say this, over these registers and these numbers of variables and elements.
pub record Says (n : Counts) (registers : List Register) (words : List Word) (act : Act) : Type 0 where
  pub own : Form
  pub operands : List Operand
  pub forms : Forms n registers words own operands
  pub means : act ≡ act_of own.opcode (with_operands registers no_operands operands)

-- the name that a command assigns
abbrev pub target_of : List Word → Word
target_of [] = []
target_of (word ∷ words) = word

-- the register, dropped where it has this name
abbrev pub without : Word → Register → Register
without word register = record { name = register.name; live = register.live && not (bytes_eq register.name word); kind = register.kind }

-- `drop` and a name
abbrev pub is_drop : List Word → Bool
is_drop (first ∷ second ∷ []) = bytes_eq first (codes "drop")
is_drop _ = false

-- the register of this name, dropped or not, and its kind
abbrev pub register_called : List Register → Word → Option Register
register_called registers word = find (is_called word) registers

abbrev pub kind_called : List Register → Word → Kind
kind_called registers word = kind_of (register_called registers word)

-- the kind of what a command of this word makes with these behind it: `copy` and `fetch` keep that of the register that they
-- name
abbrev pub kind_given : List Register → Word → List Word → Kind
kind_given registers command words =
    if bytes_eq command (codes "copy") then kind_called registers (target_of words) else
    if bytes_eq command (codes "fetch") then kind_called registers (target_of (drop 1 words)) else kind_made command

-- what an assignment to this name adds
abbrev pub register_made : Word → Kind → Register
register_made name kind = record { name = name; live = true; kind = kind }

-- the registers after a command of these words
abbrev pub registers_after : List Register → List Word → List Register
registers_after registers words =
    if is_assignment words then registers ++ register_made (target_of words) (kind_given registers (target_of (drop 2 words)) (drop 3 words)) ∷ [] else
    if is_drop words then map (without (target_of (drop 1 words))) registers else registers

-- each command says what it does, where these registers and those of the commands before it are there
abbrev pub CommandsSay : Counts → List Register → List Command → Type 0
CommandsSay n registers [] = Unit {0}
CommandsSay n registers (command ∷ commands) =
    Says n registers command.words command.act × CommandsSay n (registers_after registers command.words) commands

-- the words of a section's lines
abbrev pub section_lines : List Command → List (List Word)
section_lines commands = (codes "session" ∷ []) ∷ map (λ command. command.words) commands

-- the words of the lines that have any
abbrev pub said_lines : List (List ℕ) → List (List Word)
said_lines lines = filter (λ words. not (length words == 0)) (map words_of lines)

-- the numbers of variables and elements of a job
abbrev pub counts_of : Job → Counts
counts_of job = record { vars = job.vars; elements = job.elements }

-- what holds of every job that is read: its numbers are in range, it has 1 to so many sections, and in each of them each command says
-- what it does, over registers that are the section's own
pub record IsJob (job : Job) : Type 0 where
  pub few_variables : job.vars ≤ MOST_VARIABLES
  pub few_elements : job.elements ≤ MOST_ELEMENTS
  pub lowest_limit : 5 + job.vars ≤ job.limit
  pub highest_limit : job.limit ≤ MOST_SLOTS
  pub some_sections : 1 ≤ length job.sections
  pub few_sections : length job.sections ≤ MOST_SESSIONS
  pub commands : All (CommandsSay (counts_of job) []) job.sections

-- the line that gives the number of elements; there is none for no elements
abbrev pub ElementLines : ℕ → List (List Word) → Type 0
ElementLines m lines = ((lines ≡ []) × (m ≡ 0)) ⊎ ((number : Word) × (lines ≡ (codes "elements" ∷ number ∷ []) ∷ []) × IsNumber number m)

-- the line that gives the limit; there is none for 262,144
abbrev pub LimitLines : ℕ → List (List Word) → Type 0
LimitLines limit lines = ((lines ≡ []) × (limit ≡ USUAL_LIMIT)) ⊎ ((number : Word) × (lines ≡ (codes "limit" ∷ number ∷ []) ∷ []) × IsNumber number limit)

-- The text is this job's: no byte of a line is out of range, and its lines that have words are `vars` with the number
-- of variables, then that of the number of elements, that of the limit, and then those of the sections.
pub record IsJobText (text : List ℕ) (job : Job) : Type 0 where
  pub clean : list_all (list_all is_allowed) (lines_of text) ≡ true
  pub number : Word
  pub vars : IsNumber number job.vars
  pub element_lines : List (List Word)
  pub elements : ElementLines job.elements element_lines
  pub limits : List (List Word)
  pub limit : LimitLines job.limit limits
  pub lines : said_lines (lines_of text) ≡ (codes "vars" ∷ number ∷ []) ∷ element_lines ++ limits ++ flat_map section_lines job.sections
  pub is_job : IsJob job
