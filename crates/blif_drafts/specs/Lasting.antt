-- What is told of drafts lasts while more lines are read, whose numbers rise.
use Rattle.std.specs.Prelude.{ℕ, suc, ◌<◌, ◌≤◌, List, [], ◌∷◌, ◌++◌, Option, map}
use Rattle.std.specs.List.{flat_map}
use Rattle.job_words.specs.Text.{Word}
use Rattle.blif_models.specs.Circuits.{Cover, Row}
use Rattle.blif_models.specs.ModelFaults.{line_of}
use Rattle.blif_models.specs.Models.{Item, Model, covered}
use Rattle.blif_formals.specs.Actuals.{Keeps}
use Rattle.blif_formals.specs.Lines.{AreRisingModels}
use Rattle.blif_formals.specs.Words.{HaveOneNumber}
use Rattle.blif_drafts.specs.declared.drafts.Draft.{Draft}
use Rattle.blif_drafts.specs.declared.open_draft.OpenDraft.{OpenDraft}
use Rattle.blif_drafts.specs.Drafts.{AreDrafts, AreDraftsOf, IsDraftOf}
use Rattle.blif_drafts.specs.OpenDrafts.{IsOpenOf, bare_model, with_inputs, with_item, with_outputs}

-- each is lower than this
abbrev pub AllBelow : ℕ → List ℕ → Type 0
AllBelow line [] = Unit {0}
AllBelow line (n ∷ ns) = (n < line) × AllBelow line ns

abbrev pub item_lines : List Model → List ℕ
item_lines models = flat_map (λ model. map line_of model.items) models

abbrev pub input_lines : List Model → List ℕ
input_lines models = flat_map (λ model. map (λ one. one.line) model.inputs) models

-- The lines of these models rise, and all of them are lower than this one.
pub record AreBelow (line : ℕ) (models : List Model) : Type 0 where
  pub rising : AreRisingModels models
  pub begins : AllBelow line (map (λ model. model.line) models)
  pub items : AllBelow line (item_lines models)
  pub inputs : AllBelow line (input_lines models)

-- the cover with other rows
abbrev pub with_rows : Cover → List Row → Cover
with_rows cover rows = record cover { rows = rows }

-- one model more, or one line more in the last model, or other rows in its last cover
pub record LinesGoOn : Type 0 where
  pub none : (line : ℕ) → AreBelow line []
  pub later : (line n : ℕ) (models : List Model) → line ≤ n → AreBelow line models → AreBelow n models
  pub begun : (line : ℕ) (name : Option Word) (models : List Model) → AreBelow line models → AreBelow (suc line) (models ++ bare_model line name ∷ [])
  pub inputs : (line : ℕ) (words : List Word) (models : List Model) (model : Model) → AreBelow line (models ++ model ∷ []) → AreBelow (suc line) (models ++ with_inputs line words model ∷ [])
  pub outputs : (line : ℕ) (words : List Word) (models : List Model) (model : Model) → AreBelow line (models ++ model ∷ []) → AreBelow line (models ++ with_outputs line words model ∷ [])
  pub item : (item : Item) (models : List Model) (model : Model) → AreBelow (line_of item) (models ++ model ∷ []) → AreBelow (suc (line_of item)) (models ++ with_item item model ∷ [])
  pub rows : (line : ℕ) (cover : Cover) (rows : List Row) (models : List Model) (model : Model) → AreBelow line (models ++ with_item (covered cover) model ∷ []) → AreBelow line (models ++ with_item (covered (with_rows cover rows)) model ∷ [])

-- What drafts are of, they are of where more names of models have numbers; a draft is of its model with other rows in the last cover; and drafts go
-- on with one that stands on later lines.
pub record DraftsLast : Type 0 where
  pub titles : (old new : List Word) (models : List Model) (all : List Draft) → Keeps old new → AreDraftsOf old models all → AreDraftsOf new models all
  pub opened : (old new : List Word) (model : Model) (one : OpenDraft) → Keeps old new → IsOpenOf old model one → IsOpenOf new model one
  pub rows : (titles : List Word) (model : Model) (cover : Cover) (rows : List Row) (one : OpenDraft) → IsOpenOf titles (with_item (covered cover) model) one → IsOpenOf titles (with_item (covered (with_rows cover rows)) model) one
  pub more : (titles : List Word) (models : List Model) (model : Model) (all : List Draft) (draft : Draft) → HaveOneNumber titles → AreDrafts titles models all → IsDraftOf titles model draft → AreRisingModels (models ++ model ∷ [])
      → AreDraftsOf titles (models ++ model ∷ []) (all ++ draft ∷ [])
