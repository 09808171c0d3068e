-- Names in the whole are different where signals are.
use Rattle.std.specs.Prelude.{◌≡◌, ℕ, ◌<◌, true, List, length}
use Rattle.job_words.specs.Text.{Word}
use Rattle.blif_text.specs.Marks.{is_plain}
use Rattle.blif_models.specs.declared.numbered.Spot.{Spot}
use Rattle.blif_models.specs.Numberings.{own_word, word_of, words_at}
use Rattle.blif_formals.specs.Words.{HaveOneNumber}

-- no `#` stands in a name of the models
abbrev pub ArePlain : List (List Word) → Type 0
ArePlain words = (m n : ℕ) → is_plain (own_word words m n) ≡ true

-- the spot is that of a name of a model
abbrev pub IsSpotOf : List (List Word) → Spot → Type 0
IsSpotOf words spot = spot.name < length (words_at words spot.model)

-- Where names of models have no `#` and one number each, and a copy has one model, spots of one name are one spot.
abbrev pub WholeNamesApart : Type 0
WholeNamesApart =
    (words : List (List Word)) (one other : Spot) → ArePlain words → HaveOneNumber (words_at words one.model) → IsSpotOf words one → IsSpotOf words other → (one.copy ≡ other.copy → one.model ≡ other.model) → word_of words one ≡ word_of words other
    → (one.copy ≡ other.copy) × (one.name ≡ other.name)
