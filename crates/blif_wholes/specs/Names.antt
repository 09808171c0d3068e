-- The names of a whole, by number of spot: each with its word and with what it is.
use Rattle.std.specs.Prelude.{◌<◌, List, [], ◌∷◌, length, map}
use Rattle.job_words.specs.Text.{Word}
use Rattle.blif_models.specs.declared.numbered.Spot.{Spot}
use Rattle.blif_models.specs.Numberings.{word_of, words_at}
use Rattle.blif_wholes.specs.declared.roles.Role.{Role}

-- A name: its word, and what it is.
pub record WholeName : Type 0 where
  pub word : Word
  pub role : Role

-- the spot is that of a name of one of the models with these words
pub record IsSpotIn (words : List (List Word)) (spot : Spot) : Type 0 where
  pub model : spot.model < length words
  pub name : spot.name < length (words_at words spot.model)

-- the names of spots, one by one with their roles
abbrev pub named_by : List (List Word) → List Spot → List Role → List WholeName
named_by words (spot ∷ spots) (role ∷ roles) = record { word = word_of words spot; role = role } ∷ named_by words spots roles
named_by words _ _ = []

abbrev pub words_in : List WholeName → List Word
words_in names = map (λ name. name.word) names
