-- What an instance joins, and which signals are defined twice, is the same by numbers and by names.
use Rattle.std.specs.Prelude.{◌≡◌, ℕ, ◌<◌, Bool, true, false, not, ◌&&◌, List, [], ◌∷◌, Some, drop, length, map}
use Rattle.std.specs.List.{list_all}
use Rattle.job_words.specs.Text.{Word, is_among}
use Rattle.blif_models.specs.Circuits.{some_again}
use Rattle.blif_models.specs.Models.{Instance, Model, Use, join_of, joins_of, names_of}
use Rattle.blif_models.specs.ModelFaults as faults
use Rattle.blif_models.specs.ModelFaults.{formal_inputs, is_join, is_misjoined}
use Rattle.blif_models.specs.Numberings.{AreNumbersOf, IsNumberOf, own_word, words_at}
use Rattle.blif_formals.specs.declared.clashes.Definition.{Definition}
use Rattle.blif_formals.specs.declared.interface.Interface.{Interface}
use Rattle.blif_formals.specs.Clashes.{clashes}
use Rattle.blif_formals.specs.Joining.{is_once, joins_well}

-- no two names of a model are one word
abbrev pub AreApart : List (List Word) → ℕ → Type 0
AreApart words m = (i j : ℕ) → i < length (words_at words m) → j < length (words_at words m) → own_word words m i ≡ own_word words m j → i ≡ j

-- The interface is a model's, whose formal names have these numbers.
pub record IsInterfaceOf (words : List (List Word)) (m : ℕ) (model : Model) (interface : Interface) : Type 0 where
  pub apart : AreApart words m
  pub inputs : AreNumbersOf words m interface.inputs (formal_inputs model)
  pub outputs : AreNumbersOf words m interface.outputs (names_of model.outputs)

-- the formal names that an instance joins
abbrev pub formals_of : Instance → List Word
formals_of instance = map (λ join. join.formal) (joins_of instance)

-- a word of an instance joins a name that is one of these
abbrev pub joins_one_of : List Word → Word → Bool
joins_one_of names word = is_join word && is_among names (join_of word).formal

pub record FormalsAgree : Type 0 where
  -- inputs have different numbers where they are different names
  pub once : (words : List (List Word)) (m : ℕ) (model : Model) (interface : Interface) → IsInterfaceOf words m model interface → is_once interface.inputs ≡ not (some_again [] (formal_inputs model))
  -- where each word of an instance joins a name of its model, its fault is told by their numbers; any other instance has one
  pub joined : (words : List (List Word)) (m : ℕ) (model : Model) (interface : Interface) (instance : Instance) (formals : List ℕ) → IsInterfaceOf words m model interface
      → list_all is_join (drop 1 instance.words) ≡ true → AreNumbersOf words m formals (formals_of instance) → is_misjoined (Some model) instance ≡ not (joins_well interface.inputs interface.outputs formals)
  pub unknown : (words : List (List Word)) (m : ℕ) (model : Model) (interface : Interface) (instance : Instance) → IsInterfaceOf words m model interface
      → list_all (joins_one_of (words_at words m)) (drop 1 instance.words) ≡ false → is_misjoined (Some model) instance ≡ true

-- definitions by number are these by name, one by one
abbrev pub AreDefinitionsOf : List (List Word) → ℕ → List Definition → List Use → Type 0
AreDefinitionsOf words m [] [] = Unit {0}
AreDefinitionsOf words m (one ∷ ones) (by_name ∷ by_names) = IsNumberOf words m one.name by_name.word × (one.line ≡ by_name.line) × AreDefinitionsOf words m ones by_names
AreDefinitionsOf words m _ _ = ⊥

abbrev pub ClashesAgree : Type 0
ClashesAgree = (words : List (List Word)) (m : ℕ) (ones : List Definition) (by_names : List Use) → AreApart words m → AreDefinitionsOf words m ones by_names → clashes ones ≡ faults.clashes by_names
