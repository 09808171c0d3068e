-- Models by numbers are models by names, and what is laid out of the ones is what the others expand into.
use Rattle.std.specs.Prelude.{◌≡◌, ℕ, ◌+◌, ◌==◌, ◌<◌, ◌≤◌, Bool, true, List, [], ◌∷◌, ◌++◌, Option, Some, codes, get_or, length, map, slice_get, if◌then◌else◌}
use Rattle.job_words.specs.Text.{Word}
use Rattle.blif_models.specs.declared.numbered.NumberedJoin.{NumberedJoin}
use Rattle.blif_models.specs.declared.numbered.NumberedModel.{NumberedModel}
use Rattle.blif_models.specs.declared.numbered.Entry.{Entry}
use Rattle.blif_models.specs.declared.numbered.Entry.TheVariants as entries
use Rattle.blif_models.specs.declared.numbered.Spot.{Spot}
use Rattle.blif_models.specs.Circuits.{Cover}
use Rattle.blif_models.specs.Models as by_name
use Rattle.blif_models.specs.Models.{Join, Model, Item, copies_within, expanded, items_in, joins_of, model_of, numeral}
use Rattle.blif_models.specs.ModelFaults.{signals_within}
use Rattle.blif_models.specs.Layouts.{Counted, IsRanked, Placed, copies_in, covered, laid_whole, latched, model_at}

-- the names of a model, by number
abbrev pub words_at : List (List Word) → ℕ → List Word
words_at words m = get_or words m []

abbrev pub own_word : List (List Word) → ℕ → ℕ → Word
own_word words m n = get_or (words_at words m) n []

-- the name in the whole: a copy's own names have its number and `#` before them
abbrev pub word_of : List (List Word) → Spot → Word
word_of words spot = if spot.copy == 0 then own_word words spot.model spot.name else numeral spot.copy ++ codes "#" ++ own_word words spot.model spot.name

-- a model's number is that of this name
abbrev pub IsNumberOf : List (List Word) → ℕ → ℕ → Word → Type 0
IsNumberOf words m n word = (n < length (words_at words m)) × (own_word words m n ≡ word)

abbrev pub AreNumbersOf : List (List Word) → ℕ → List ℕ → List Word → Type 0
AreNumbersOf words m [] [] = Unit {0}
AreNumbersOf words m (n ∷ ns) (word ∷ names) = IsNumberOf words m n word × AreNumbersOf words m ns names
AreNumbersOf words m _ _ = ⊥

-- a formal name's number is one in the model that is held, an actual name's one in the model that holds it
abbrev pub AreJoinsOf : List (List Word) → ℕ → ℕ → List NumberedJoin → List Join → Type 0
AreJoinsOf words m inner [] [] = Unit {0}
AreJoinsOf words m inner (one ∷ numbers) (join ∷ joins) = IsNumberOf words inner one.formal join.formal × IsNumberOf words m one.actual join.actual × AreJoinsOf words m inner numbers joins
AreJoinsOf words m inner _ _ = ⊥

abbrev pub no_cover : Cover
no_cover = record { line = 0; ins = []; name = []; rows = [] }

abbrev pub cover_of : Option Item → Cover
cover_of (Some (by_name.covered cover)) = cover
cover_of _ = no_cover

-- the cover at a place of a model
abbrev pub cover_at : List Model → ℕ → ℕ → Cover
cover_at models m place = cover_of (slice_get (items_in (slice_get models m)) place)

-- an entry is what stands at a place of a model
abbrev pub IsEntryOf : List Model → (ℕ → Bool) → List (List Word) → ℕ → ℕ → Item → Entry → Type 0
IsEntryOf models among words m place (by_name.covered cover) (entries.Cover numbers) = (cover_at models m place ≡ cover) × AreNumbersOf words m numbers.ins cover.ins × IsNumberOf words m numbers.name cover.name
IsEntryOf models among words m place (by_name.latched latch) (entries.Latch numbers) = (numbers.line ≡ latch.line) × IsNumberOf words m numbers.input latch.input × IsNumberOf words m numbers.output latch.output
IsEntryOf models among words m place (by_name.held instance) (entries.Instance numbers) =
    (among numbers.model ≡ true) × ((model : Model) × (slice_get models numbers.model ≡ Some model) × (model_of models instance ≡ Some model)) × AreJoinsOf words m numbers.model numbers.joins (joins_of instance)
IsEntryOf models among words m place _ _ = ⊥

abbrev pub AreEntriesOf : List Model → (ℕ → Bool) → List (List Word) → ℕ → ℕ → List Item → List Entry → Type 0
AreEntriesOf models among words m place [] [] = Unit {0}
AreEntriesOf models among words m place (item ∷ items) (entry ∷ others) = IsEntryOf models among words m place item entry × AreEntriesOf models among words m (place + 1) items others
AreEntriesOf models among words m place _ _ = ⊥

-- Some models, which hold none but these, have numbers: their names, each once, and what stands in them.
pub record IsNumbering (models : List Model) (among : ℕ → Bool) (words : List (List Word)) (numbered : List NumberedModel) : Type 0 where
  pub entries_are : (m : ℕ) (model : Model) → among m ≡ true → slice_get models m ≡ Some model → AreEntriesOf models among words m 0 model.items (model_at numbered m).entries
  pub names_are : (m : ℕ) → among m ≡ true → (model_at numbered m).names ≡ length (words_at words m)
  pub apart : (m i j : ℕ) → among m ≡ true → i < length (words_at words m) → j < length (words_at words m) → own_word words m i ≡ own_word words m j → i ≡ j

-- Copies and signals are counted through as many levels of models as are needed.
pub record IsCounted (models : List Model) (among : ℕ → Bool) (rank : ℕ → ℕ) (counts : Counted) : Type 0 where
  pub copies : (levels m : ℕ) (model : Model) → among m ≡ true → slice_get models m ≡ Some model → rank m ≤ levels → copies_in counts m ≡ copies_within models levels model.items
  pub signals : (levels m : ℕ) (model : Model) → among m ≡ true → slice_get models m ≡ Some model → rank m ≤ levels → get_or counts.signals m 0 ≡ 0 → signals_within models levels model.items ≡ 0

-- a cover or a latch of the whole, by names
abbrev pub item_of : List Model → List (List Word) → Placed → Item
item_of models words (covered one) = by_name.covered (record (cover_at models one.model one.place) { ins = map (word_of words) one.ins; name = word_of words one.name })
item_of models words (latched one) = by_name.latched (record { line = one.line; input = word_of words one.input; output = word_of words one.output })

-- what is laid out of numbered models is, name by name, what the models expand into
abbrev pub LayoutsAreExpansions : Type 0
LayoutsAreExpansions =
    (models : List Model) (among : ℕ → Bool) (words : List (List Word)) (numbered : List NumberedModel) (rank : ℕ → ℕ) (counts : Counted) (levels m : ℕ) (main : Model) → IsNumbering models among words numbered → IsRanked numbered rank
    → IsCounted models among rank counts → among m ≡ true → slice_get models m ≡ Some main → rank m ≤ levels → expanded models levels (λ name. name) 0 main.items ≡ map (item_of models words) (laid_whole numbered counts levels m)
