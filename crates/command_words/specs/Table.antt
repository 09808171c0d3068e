-- The table of the commands that have options, as `clap` takes it.
use Rattle.std.specs.Prelude.{true, List, [], ◌∷◌, Some, codes}
use Rattle.clap.specs.declared.builder.action.ArgAction.TheVariants.{Append, Set, SetTrue}
use Rattle.clap.specs.Walk.{Rule, Text}
use Rattle.clap.specs.Simple.{App, Shape, new_app, new_rule, new_shape, with_rule, with_subcommand}

-- an option with one value, and a flag: each may be given once, by its whole name
abbrev pub option : Text → Rule
option name = record (new_rule name) { long = Some name; action = Some Set }

abbrev pub flag : Text → Rule
flag name = record (new_rule name) { long = Some name; action = Some SetTrue }

-- any number of words
abbrev pub bits : Rule
bits = record (new_rule (codes "bits")) { action = Some Append }

-- one word that must be there
abbrev pub count : Rule
count = record (new_rule (codes "count")) { action = Some Set; required = true }

abbrev pub with_rules : Shape → List Rule → Shape
with_rules shape rules = record shape { rules = rules }

-- `build [--workers W] [--limit L] [--sift] [--store] [--blif] [BITS]..`
abbrev pub build_shape : Shape
build_shape = with_rules (new_shape (codes "build")) (option (codes "workers") ∷ option (codes "limit") ∷ flag (codes "sift") ∷ flag (codes "store") ∷ flag (codes "blif") ∷ bits ∷ [])

-- its options alone
abbrev pub build_options : App
build_options = with_rule (with_rule (new_app (codes "build")) (option (codes "workers"))) (option (codes "limit"))

-- `load [BITS]..`
abbrev pub load_shape : Shape
load_shape = with_rules (new_shape (codes "load")) (bits ∷ [])

-- `gen [--workers W] K`
abbrev pub gen_shape : Shape
gen_shape = with_rules (new_shape (codes "gen")) (option (codes "workers") ∷ count ∷ [])

-- the first word is a command's name; there is no `help`
abbrev pub top : App
top = record {
  top = record (new_shape (codes "ddsh")) { no_binary_name = true; disable_help_flag = true; disable_help_subcommand = true; subcommand_required = true };
  subs = [];
}

-- the three commands
abbrev pub table : App
table = with_subcommand (with_subcommand (with_subcommand top build_shape) load_shape) gen_shape
