-- The words of an instance, parted at their first `=`.
use Rattle.std.specs.Prelude.{◌≡◌, ℕ, Bool, true, List, [], ◌∷◌, Some, drop, slice_get}
use Rattle.job_words.specs.Text.{Word}
use Rattle.blif_models.specs.Models.{Instance, Model, join_of}
use Rattle.blif_models.specs.ModelFaults as faults
use Rattle.blif_models.specs.ModelFaults.{is_join}
use Rattle.blif_models.specs.Numberings.{words_at}
use Rattle.blif_formals.specs.declared.interface.Interface.{Interface}
use Rattle.blif_formals.specs.ByNames.{IsInterfaceOf}

-- the word joins this formal name to this actual one
abbrev pub JoinIs : Word → Word → Word → Type 0
JoinIs word formal actual = (is_join word ≡ true) × ((join_of word).formal ≡ formal) × ((join_of word).actual ≡ actual)

-- the word joins the name of this number
abbrev pub JoinsNumber : List Word → Word → ℕ → Type 0
JoinsNumber names word n = (is_join word ≡ true) × (slice_get names n ≡ Some (join_of word).formal)

abbrev pub JoinNumbers : List Word → List Word → List ℕ → Type 0
JoinNumbers names [] [] = Unit {0}
JoinNumbers names (word ∷ words) (n ∷ ns) = JoinsNumber names word n × JoinNumbers names words ns
JoinNumbers names _ _ = ⊥

-- what is told of these words is told of each instance that has them, of a model with these names and this interface
abbrev pub IsMisjoined : List Word → Interface → List Word → Bool → Type 0
IsMisjoined names interface words told =
    (all : List (List Word)) (m : ℕ) (model : Model) (instance : Instance) → words_at all m ≡ names → IsInterfaceOf all m model interface → drop 1 instance.words ≡ words → faults.is_misjoined (Some model) instance ≡ told
