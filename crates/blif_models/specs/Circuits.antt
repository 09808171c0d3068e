-- Circuits: inputs, outputs and covers, by name.
use Rattle.std.specs.Prelude.{ℕ, zero, suc, Bool, ◌&&◌, ◌||◌, List, [], ◌∷◌, ◌++◌, length, map, true, false, if◌then◌else◌}
use Rattle.std.specs.List.{list_any, list_all}
use Rattle.std.specs.Str.{bytes_eq}
use Rattle.job_words.specs.Text.{Word, is_among}

-- A row of a cover: its word of 0, 1 and -, and its output.
pub record Row : Type 0 where
  pub literals : Word
  pub output : Bool

-- A cover: the line of its `.names`, the names of its inputs, its own name, and its rows.
pub record Cover : Type 0 where
  pub line : ℕ
  pub ins : List Word
  pub name : Word
  pub rows : List Row

-- The names of a network: its inputs, its outputs, and its covers in the order of the text.
pub record Circuit : Type 0 where
  pub inputs : List Word
  pub outputs : List Word
  pub covers : List Cover

-- a word stands among these before, or among the words to its left
abbrev pub some_again : List Word → List Word → Bool
some_again before [] = false
some_again before (word ∷ words) = if is_among before word then true else some_again (before ++ word ∷ []) words

-- the signals that covers define
abbrev pub defined_in : List Cover → List Word
defined_in covers = map (λ cover. cover.name) covers

abbrev pub is_signal : Circuit → Word → Bool
is_signal circuit name = is_among (circuit.inputs ++ defined_in circuit.covers) name

-- a cover defines the name, from signals that are inputs or go back to inputs through so many covers at most
unfoldable pub settles : Circuit → ℕ → Word → Bool
settles circuit zero name = is_among circuit.inputs name
settles circuit (suc limit) name =
    is_among circuit.inputs name || list_any (λ cover. bytes_eq name cover.name && list_all (settles circuit limit) cover.ins) circuit.covers

-- each signal that the cover reads is led back to inputs, through at most as many covers as there are
abbrev pub is_settled : Circuit → Cover → Bool
is_settled circuit cover = list_all (settles circuit (length circuit.covers)) cover.ins
