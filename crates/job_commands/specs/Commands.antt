-- The commands: their words, what is due behind them, and what they do with it; and the form of a line.
use Rattle.std.specs.Prelude.{ℕ, pos, Bool, true, false, List, [], ◌∷◌, ◌++◌, Option, Some, None, codes, drop, if◌then◌else◌, find, option_and_then, slice_index, slice_index_or}
use Rattle.std.specs.List.{zip}
use Rattle.std.specs.Option.{option_map}
use Rattle.std.specs.Str.{bytes_eq}
use Rattle.edge_bits.specs.declared.edges.Kind.{Kind}
use Rattle.edge_bits.specs.declared.edges.Kind.TheVariants.{Bdd, Add, Zdd}
use Rattle.function_laws.specs.declared.making.Making.{Making}
use Rattle.function_laws.specs.declared.making.Making.TheVariants as makings
use Rattle.function_laws.specs.declared.making.BddMaking.TheVariants as bdds
use Rattle.function_laws.specs.declared.making.AddMaking.TheVariants as adds
use Rattle.function_laws.specs.declared.making.ExactMaking.TheVariants as exacts
use Rattle.function_laws.specs.declared.making.ZddMaking.TheVariants as zdds
use Rattle.function_laws.specs.declared.orders.Order.TheVariants.{Variables, Elements}
use Rattle.function_laws.specs.Makings.{kind_made as kind_of_making}
use Rattle.job_commands.specs.declared.acts.Act.{Act}
use Rattle.job_commands.specs.declared.acts.Act.TheVariants as acts
use Rattle.job_commands.specs.declared.commands.Opcode.{Opcode}
use Rattle.job_commands.specs.declared.commands.Opcode.TheVariants as does
use Rattle.job_commands.specs.declared.commands.Place.{Place}
use Rattle.job_commands.specs.declared.commands.Place.TheVariants.{Fresh, Held, Any, Alike, Variable, NewVariable, Element, Level, Cell, Value, Bit, Bits, Literals}
use Rattle.job_commands.specs.declared.operands.Operands.{Operands}
use Rattle.job_words.specs.Text.{Word, is_number, is_integer, is_name, is_bit, is_bits}

-- A command: its word, what it does, and what is due behind the word. First come the places, and then those that repeat,
-- from the first to the last, any number of times. Where the first place is that of literals, the word itself stands there.
pub record Form : Type 0 where
  pub word : Word
  pub opcode : Opcode
  pub places : List Place
  pub repeated : List Place

abbrev pub form : Word → Opcode → List Place → List Place → Form
form word opcode places repeated = record { word = word; opcode = opcode; places = places; repeated = repeated }

-- a register that is a BDD, one that is an ADD, and one that is a family
abbrev pub bdd : Place
bdd = Held Bdd

abbrev pub add : Place
add = Held Add

abbrev pub zdd : Place
zdd = Held Zdd

-- the commands that assign, by the word behind `r =`
abbrev pub assigning : List Form
assigning =
    form (codes "true") (does.Makes (makings.Bdd bdds.One)) [] []
    ∷ form (codes "false") (does.Makes (makings.Bdd bdds.Zero)) [] []
    ∷ form (codes "var") (does.Makes (makings.Bdd (bdds.Var 0))) (Variable ∷ []) []
    ∷ form (codes "not") (does.Makes (makings.Bdd (bdds.Not tt))) (bdd ∷ []) []
    ∷ form (codes "and") (does.Makes (makings.Bdd (bdds.And tt tt))) (bdd ∷ bdd ∷ []) []
    ∷ form (codes "or") (does.Makes (makings.Bdd (bdds.Or tt tt))) (bdd ∷ bdd ∷ []) []
    ∷ form (codes "xor") (does.Makes (makings.Bdd (bdds.Xor tt tt))) (bdd ∷ bdd ∷ []) []
    ∷ form (codes "ite") (does.Makes (makings.Bdd (bdds.Ite tt tt tt))) (bdd ∷ bdd ∷ bdd ∷ []) []
    ∷ form (codes "cofactor") (does.Makes (makings.Bdd (bdds.Cofactor tt 0 false))) (bdd ∷ Variable ∷ Bit ∷ []) []
    ∷ form (codes "exists") (does.Makes (makings.Bdd (bdds.Exists tt tt))) (bdd ∷ []) (Variable ∷ [])
    ∷ form (codes "forall") (does.Makes (makings.Bdd (bdds.Forall tt tt))) (bdd ∷ []) (Variable ∷ [])
    ∷ form (codes "andexists") (does.Makes (makings.Bdd (bdds.AndExists tt tt tt))) (bdd ∷ bdd ∷ []) (Variable ∷ [])
    ∷ form (codes "compose") (does.Makes (makings.Bdd (bdds.Compose tt 0 tt))) (bdd ∷ Variable ∷ bdd ∷ []) []
    ∷ form (codes "vcompose") (does.Makes (makings.Bdd (bdds.VectorCompose tt tt))) (bdd ∷ NewVariable ∷ bdd ∷ []) (NewVariable ∷ bdd ∷ [])
    ∷ form (codes "restrict") (does.Makes (makings.Bdd (bdds.Restrict tt tt))) (bdd ∷ bdd ∷ []) []
    ∷ form (codes "support") (does.Makes (makings.Bdd (bdds.Support tt))) (bdd ∷ []) []
    ∷ form (codes "num") (does.Makes (makings.Add (adds.Constant (pos 0)))) (Value ∷ []) []
    ∷ form (codes "ofbdd") (does.Makes (makings.Add (adds.FromBdd tt))) (bdd ∷ []) []
    ∷ form (codes "plus") (does.Makes (makings.Exact (exacts.Plus tt tt))) (add ∷ add ∷ []) []
    ∷ form (codes "minus") (does.Makes (makings.Exact (exacts.Minus tt tt))) (add ∷ add ∷ []) []
    ∷ form (codes "times") (does.Makes (makings.Exact (exacts.Times tt tt))) (add ∷ add ∷ []) []
    ∷ form (codes "min") (does.Makes (makings.Add (adds.Min tt tt))) (add ∷ add ∷ []) []
    ∷ form (codes "max") (does.Makes (makings.Add (adds.Max tt tt))) (add ∷ add ∷ []) []
    ∷ form (codes "threshold") (does.Makes (makings.Add (adds.Threshold tt tt))) (add ∷ add ∷ []) []
    ∷ form (codes "addite") (does.Makes (makings.Add (adds.AddIte tt tt tt))) (bdd ∷ add ∷ add ∷ []) []
    ∷ form (codes "sum") (does.Makes (makings.Exact (exacts.SumOver tt 0))) (add ∷ Variable ∷ []) []
    ∷ form (codes "atleast") (does.Makes (makings.Bdd (bdds.AtLeast tt (pos 0)))) (add ∷ Value ∷ []) []
    ∷ form (codes "pattern") (does.Makes (makings.Bdd (bdds.Pattern tt))) (add ∷ []) []
    ∷ form (codes "empty") (does.Makes (makings.Zdd zdds.Empty)) [] []
    ∷ form (codes "base") (does.Makes (makings.Zdd zdds.Base)) [] []
    ∷ form (codes "single") (does.Makes (makings.Zdd (zdds.Single 0))) (Element ∷ []) []
    ∷ form (codes "union") (does.Makes (makings.Zdd (zdds.Union tt tt))) (zdd ∷ zdd ∷ []) []
    ∷ form (codes "meet") (does.Makes (makings.Zdd (zdds.Meet tt tt))) (zdd ∷ zdd ∷ []) []
    ∷ form (codes "diff") (does.Makes (makings.Zdd (zdds.Diff tt tt))) (zdd ∷ zdd ∷ []) []
    ∷ form (codes "on") (does.Makes (makings.Zdd (zdds.Subset1 tt 0))) (zdd ∷ Element ∷ []) []
    ∷ form (codes "off") (does.Makes (makings.Zdd (zdds.Subset0 tt 0))) (zdd ∷ Element ∷ []) []
    ∷ form (codes "flip") (does.Makes (makings.Zdd (zdds.Change tt 0))) (zdd ∷ Element ∷ []) []
    ∷ form (codes "product") (does.Makes (makings.Zdd (zdds.Product tt tt))) (zdd ∷ zdd ∷ []) []
    ∷ form (codes "quotient") (does.Makes (makings.Zdd (zdds.Quotient tt tt))) (zdd ∷ zdd ∷ []) []
    ∷ form (codes "isop") (does.Makes (makings.Zdd (zdds.Isop tt tt))) (Literals ∷ bdd ∷ bdd ∷ []) []
    ∷ form (codes "coverof") (does.Makes (makings.Bdd (bdds.CoverOf tt))) (Literals ∷ zdd ∷ []) []
    ∷ form (codes "copy") does.Copy (Any ∷ []) []
    ∷ form (codes "fetch") does.Fetch (Cell ∷ Any ∷ []) []
    ∷ []

-- the other commands, by their first word
abbrev pub telling : List Form
telling =
    form (codes "post") does.Post (Cell ∷ Any ∷ []) []
    ∷ form (codes "drop") does.Drop (Any ∷ []) []
    ∷ form (codes "same") does.Same (Any ∷ Alike ∷ []) []
    ∷ form (codes "leq") does.Leq (bdd ∷ bdd ∷ []) []
    ∷ form (codes "eval") does.Eval (Any ∷ Bits ∷ []) []
    ∷ form (codes "sweep") does.Sweep [] []
    ∷ form (codes "swap") (does.Swap Variables) (Level Variables ∷ []) []
    ∷ form (codes "eswap") (does.Swap Elements) (Level Elements ∷ []) []
    ∷ form (codes "sift") (does.Sift Variables) [] []
    ∷ form (codes "esift") (does.Sift Elements) [] []
    ∷ []

-- the kind of what an operation makes; that of a BDD, where it makes none
abbrev pub kind_of : Opcode → Kind
kind_of (does.Makes making) = kind_of_making making
kind_of _ = Bdd

-- a command of a table, by its word
abbrev pub form_in : List Form → Word → Option Form
form_in forms word = find (λ known. bytes_eq known.word word) forms

-- the kind of what a command makes, by its word; `copy` and `fetch` have that of their register
abbrev pub kind_or : Option Form → Kind
kind_or None = Bdd
kind_or (Some own) = kind_of own.opcode

abbrev pub kind_made : Word → Kind
kind_made command = kind_or (form_in assigning command)

-- each word with its place, where the words end with the places or with the last that repeats
abbrev pub filled : List Place → List Place → List Word → Option (List (Place × Word))
filled [] repeated [] = Some []
filled (place ∷ places) repeated [] = None
filled [] [] (word ∷ words) = None
filled [] (place ∷ places) (word ∷ words) = option_map (λ slots. (place, word) ∷ slots) (filled places (place ∷ places) words)
filled (place ∷ places) repeated (word ∷ words) = option_map (λ slots. (place, word) ∷ slots) (filled places repeated words)

-- something is due at the word of a command itself
abbrev pub is_at_word : List Place → Bool
is_at_word (Literals ∷ places) = true
is_at_word _ = false

-- the words at the places of a command that assigns: those behind its word, and before them this word where something is due at it
abbrev pub words_at : List Place → Word → List Word → List Word
words_at places command words = if is_at_word places then command ∷ words else words

-- what a command of a table does, behind these places, and all places with their words, where these are due for it
abbrev pub command_in : List Form → List (Place × Word) → Word → (Form → List Word) → Option (Opcode × List (Place × Word))
command_in forms before command due =
    option_and_then (λ known. option_map (λ slots. (known.opcode, before ++ slots)) (filled known.places known.repeated (due known))) (form_in forms command)

-- of `r = COMMAND WORDS`
abbrev pub assignment_of : Word → Word → List Word → Option (Opcode × List (Place × Word))
assignment_of r command words = command_in assigning ((Fresh, r) ∷ []) command (λ known. words_at known.places command words)

-- of `COMMAND WORDS`
abbrev pub telling_of : Word → List Word → Option (Opcode × List (Place × Word))
telling_of command words = command_in telling [] command (λ known. words)

-- what a line does and its places with their words, where it has the form of a command; where the second word is `=`, it assigns
abbrev pub command_of : List Word → Option (Opcode × List (Place × Word))
command_of [] = None
command_of (first ∷ []) = telling_of first []
command_of (first ∷ second ∷ []) = telling_of first (second ∷ [])
command_of (first ∷ second ∷ third ∷ words) =
    if bytes_eq second (codes "=") then assignment_of first third words else telling_of first (second ∷ third ∷ words)

-- the word has the form that is due
abbrev pub has_form : Place × Word → Bool
has_form (Fresh, word) = is_name word
has_form (Held kind, word) = is_name word
has_form (Any, word) = is_name word
has_form (Alike, word) = is_name word
has_form (Variable, word) = is_number word
has_form (NewVariable, word) = is_number word
has_form (Element, word) = is_number word
has_form (Level order, word) = is_number word
has_form (Cell, word) = is_number word
has_form (Value, word) = is_integer word
has_form (Bit, word) = is_bit word
has_form (Bits, word) = is_bits word
has_form (Literals, word) = is_name word

-- what makes a function of the operands, each taken in its turn
abbrev pub made_of : Making (Unit {0}) (Unit {0}) (Unit {0}) → Operands → Making ℕ (List ℕ) (List (ℕ × ℕ))
made_of (makings.Bdd bdds.One) given = makings.Bdd bdds.One
made_of (makings.Bdd bdds.Zero) given = makings.Bdd bdds.Zero
made_of (makings.Bdd (bdds.Var _)) given = makings.Bdd (bdds.Var (slice_index given.variables 0))
made_of (makings.Bdd (bdds.Not _)) given = makings.Bdd (bdds.Not (slice_index given.registers 0))
made_of (makings.Bdd (bdds.And _ _)) given = makings.Bdd (bdds.And (slice_index given.registers 0) (slice_index given.registers 1))
made_of (makings.Bdd (bdds.Or _ _)) given = makings.Bdd (bdds.Or (slice_index given.registers 0) (slice_index given.registers 1))
made_of (makings.Bdd (bdds.Xor _ _)) given = makings.Bdd (bdds.Xor (slice_index given.registers 0) (slice_index given.registers 1))
made_of (makings.Bdd (bdds.Ite _ _ _)) given = makings.Bdd (bdds.Ite (slice_index given.registers 0) (slice_index given.registers 1) (slice_index given.registers 2))
made_of (makings.Bdd (bdds.Cofactor _ _ _)) given = makings.Bdd (bdds.Cofactor (slice_index given.registers 0) (slice_index given.variables 0) (slice_index_or given.bits 0 false))
made_of (makings.Bdd (bdds.Exists _ _)) given = makings.Bdd (bdds.Exists (slice_index given.registers 0) given.variables)
made_of (makings.Bdd (bdds.Forall _ _)) given = makings.Bdd (bdds.Forall (slice_index given.registers 0) given.variables)
made_of (makings.Bdd (bdds.AndExists _ _ _)) given = makings.Bdd (bdds.AndExists (slice_index given.registers 0) (slice_index given.registers 1) given.variables)
made_of (makings.Bdd (bdds.Compose _ _ _)) given = makings.Bdd (bdds.Compose (slice_index given.registers 0) (slice_index given.variables 0) (slice_index given.registers 1))
made_of (makings.Bdd (bdds.VectorCompose _ _)) given = makings.Bdd (bdds.VectorCompose (slice_index given.registers 0) (zip given.variables (drop 1 given.registers)))
made_of (makings.Bdd (bdds.Restrict _ _)) given = makings.Bdd (bdds.Restrict (slice_index given.registers 0) (slice_index given.registers 1))
made_of (makings.Bdd (bdds.Support _)) given = makings.Bdd (bdds.Support (slice_index given.registers 0))
made_of (makings.Bdd (bdds.AtLeast _ _)) given = makings.Bdd (bdds.AtLeast (slice_index given.registers 0) (slice_index_or given.values 0 (pos 0)))
made_of (makings.Bdd (bdds.Pattern _)) given = makings.Bdd (bdds.Pattern (slice_index given.registers 0))
made_of (makings.Bdd (bdds.CoverOf _)) given = makings.Bdd (bdds.CoverOf (slice_index given.registers 0))
made_of (makings.Add (adds.Constant _)) given = makings.Add (adds.Constant (slice_index_or given.values 0 (pos 0)))
made_of (makings.Add (adds.FromBdd _)) given = makings.Add (adds.FromBdd (slice_index given.registers 0))
made_of (makings.Add (adds.Min _ _)) given = makings.Add (adds.Min (slice_index given.registers 0) (slice_index given.registers 1))
made_of (makings.Add (adds.Max _ _)) given = makings.Add (adds.Max (slice_index given.registers 0) (slice_index given.registers 1))
made_of (makings.Add (adds.Threshold _ _)) given = makings.Add (adds.Threshold (slice_index given.registers 0) (slice_index given.registers 1))
made_of (makings.Add (adds.AddIte _ _ _)) given = makings.Add (adds.AddIte (slice_index given.registers 0) (slice_index given.registers 1) (slice_index given.registers 2))
made_of (makings.Exact (exacts.Plus _ _)) given = makings.Exact (exacts.Plus (slice_index given.registers 0) (slice_index given.registers 1))
made_of (makings.Exact (exacts.Minus _ _)) given = makings.Exact (exacts.Minus (slice_index given.registers 0) (slice_index given.registers 1))
made_of (makings.Exact (exacts.Times _ _)) given = makings.Exact (exacts.Times (slice_index given.registers 0) (slice_index given.registers 1))
made_of (makings.Exact (exacts.SumOver _ _)) given = makings.Exact (exacts.SumOver (slice_index given.registers 0) (slice_index given.variables 0))
made_of (makings.Zdd zdds.Empty) given = makings.Zdd zdds.Empty
made_of (makings.Zdd zdds.Base) given = makings.Zdd zdds.Base
made_of (makings.Zdd (zdds.Single _)) given = makings.Zdd (zdds.Single (slice_index given.elements 0))
made_of (makings.Zdd (zdds.Union _ _)) given = makings.Zdd (zdds.Union (slice_index given.registers 0) (slice_index given.registers 1))
made_of (makings.Zdd (zdds.Meet _ _)) given = makings.Zdd (zdds.Meet (slice_index given.registers 0) (slice_index given.registers 1))
made_of (makings.Zdd (zdds.Diff _ _)) given = makings.Zdd (zdds.Diff (slice_index given.registers 0) (slice_index given.registers 1))
made_of (makings.Zdd (zdds.Subset1 _ _)) given = makings.Zdd (zdds.Subset1 (slice_index given.registers 0) (slice_index given.elements 0))
made_of (makings.Zdd (zdds.Subset0 _ _)) given = makings.Zdd (zdds.Subset0 (slice_index given.registers 0) (slice_index given.elements 0))
made_of (makings.Zdd (zdds.Change _ _)) given = makings.Zdd (zdds.Change (slice_index given.registers 0) (slice_index given.elements 0))
made_of (makings.Zdd (zdds.Product _ _)) given = makings.Zdd (zdds.Product (slice_index given.registers 0) (slice_index given.registers 1))
made_of (makings.Zdd (zdds.Quotient _ _)) given = makings.Zdd (zdds.Quotient (slice_index given.registers 0) (slice_index given.registers 1))
made_of (makings.Zdd (zdds.Isop _ _)) given = makings.Zdd (zdds.Isop (slice_index given.registers 0) (slice_index given.registers 1))

-- what an operation does with its operands
abbrev pub act_of : Opcode → Operands → Act
act_of (does.Makes making) given = acts.Makes (made_of making given)
act_of does.Copy given = acts.Copy (slice_index given.registers 0)
act_of does.Fetch given = acts.Fetch (slice_index given.cells 0) (slice_index given.registers 0)
act_of does.Post given = acts.Post (slice_index given.cells 0) (slice_index given.registers 0)
act_of does.Drop given = acts.Drop (slice_index given.registers 0)
act_of does.Same given = acts.Same (slice_index given.registers 0) (slice_index given.registers 1)
act_of does.Leq given = acts.Leq (slice_index given.registers 0) (slice_index given.registers 1)
act_of does.Eval given = acts.Eval (slice_index given.registers 0) given.bits
act_of does.Sweep given = acts.Sweep
act_of (does.Swap order) given = acts.Swap order (slice_index given.levels 0)
act_of (does.Sift order) given = acts.Sift order

-- no operand yet
abbrev pub no_operands : Operands
no_operands = record { registers = []; kind = Bdd; variables = []; elements = []; levels = []; cells = []; values = []; bits = [] }
