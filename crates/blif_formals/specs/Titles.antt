-- Models by the numbers of their names.
use Rattle.std.specs.Prelude.{◌≡◌, ℕ, suc, ◌==◌, ◌<◌, Bool, true, false, not, List, [], ◌∷◌, Option, Some, None, count_by, drop, filter, get_or, map, option_map, slice_get, if◌then◌else◌}
use Rattle.job_words.specs.Text.{Word}
use Rattle.blif_models.specs.Models.{Model, model_called}
use Rattle.blif_models.specs.ModelFaults.{is_misnamed}
use Rattle.blif_formals.specs.declared.titles.Heading.{Heading}
use Rattle.blif_formals.specs.declared.titles.Title.{Title}
use Rattle.blif_formals.specs.Words.{HaveOneNumber}

abbrev pub is_title : ℕ → Option ℕ → Bool
is_title n None = false
is_title n (Some title) = title == n

abbrev pub has_title : ℕ → Heading → Bool
has_title n heading = is_title n heading.title

-- the first model of a title
abbrev pub first_titled : List Heading → ℕ → Option ℕ
first_titled [] n = None
first_titled (heading ∷ headings) n = if has_title n heading then Some 0 else option_map suc (first_titled headings n)

-- another number of models than one has the title
abbrev pub is_again : List Heading → ℕ → Bool
is_again headings n = not (count_by (has_title n) headings == 1)

-- the first model of a title, and whether another one has it
abbrev pub title_of : List Heading → ℕ → Option Title
title_of headings n = option_map (λ m. record { model = m; again = is_again headings n }) (first_titled headings n)

-- that of one model more
abbrev pub noted : Option Title → ℕ → Title
noted None m = record { model = m; again = false }
noted (Some title) m = record { model = title.model; again = true }

-- the number of a title is one of so many
abbrev pub IsTitleBelow : ℕ → Option ℕ → Type 0
IsTitleBelow names None = Unit {0}
IsTitleBelow names (Some n) = n < names

-- what is told of a title tells whether another number of models than one has it
abbrev pub again_in : Option Title → Bool
again_in None = true
again_in (Some title) = title.again

-- the same of a model that may have no title
abbrev pub mistitled_by : List (Option Title) → Option ℕ → Bool
mistitled_by titles None = true
mistitled_by titles (Some n) = again_in (get_or titles n None)

-- a model has no title, or another one has it
abbrev pub is_mistitled : List Heading → Option ℕ → Bool
is_mistitled headings None = true
is_mistitled headings (Some n) = is_again headings n

-- the lines of further models without a title of their own
abbrev pub mistitled_lines : List Heading → List ℕ
mistitled_lines headings = map (λ heading. heading.line) (filter (λ heading. is_mistitled headings heading.title) (drop 1 headings))

-- a number is the name's
abbrev pub IsTitleOf : List Word → Option Word → Option ℕ → Type 0
IsTitleOf words None None = Unit {0}
IsTitleOf words (Some word) (Some n) = slice_get words n ≡ Some word
IsTitleOf words _ _ = ⊥

-- headings are those of the models, one by one
abbrev pub AreHeadingsOf : List Word → List Model → List Heading → Type 0
AreHeadingsOf words [] [] = Unit {0}
AreHeadingsOf words (model ∷ models) (heading ∷ headings) = (heading.line ≡ model.line) × IsTitleOf words model.name heading.title × AreHeadingsOf words models headings
AreHeadingsOf words _ _ = ⊥

abbrev pub got_model : List Model → Option ℕ → Option Model
got_model models None = None
got_model models (Some m) = slice_get models m

-- Which model has a name, and which further models have no name of their own, is the same by numbers and by names.
pub record TitlesAgree : Type 0 where
  pub called : (words : List Word) (models : List Model) (headings : List Heading) (n : ℕ) (word : Word) → HaveOneNumber words → AreHeadingsOf words models headings → slice_get words n ≡ Some word → model_called models word ≡ got_model models (first_titled headings n)
  pub misnamed : (words : List Word) (models : List Model) (headings : List Heading) → HaveOneNumber words → AreHeadingsOf words models headings → map (λ model. model.line) (filter (is_misnamed models) (drop 1 models)) ≡ mistitled_lines headings
