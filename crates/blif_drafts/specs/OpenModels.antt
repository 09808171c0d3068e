-- Several models while their lines are read.
use Rattle.std.specs.Prelude.{◌≡◌, ℕ, suc, Bool, true, List, [], ◌∷◌, ◌++◌, Option, Some, None, All, slice_get}
use Rattle.std.specs.List.{list_all}
use Rattle.job_words.specs.Text.{Word}
use Rattle.blif_models.specs.Models.{Model}
use Rattle.blif_formals.specs.Definitions.{AreInterfacesOf}
use Rattle.blif_formals.specs.Words.{HaveOneNumber}
use Rattle.blif_drafts.specs.declared.open_models.OpenModels.{OpenModels}
use Rattle.blif_drafts.specs.declared.stops.LineStop.{LineStop}
use Rattle.blif_drafts.specs.declared.stops.Refusal.{Refusal}
use Rattle.blif_drafts.specs.declared.verdicts.Judged.{Judged}
use Rattle.blif_drafts.specs.Drafts.{AreDrafts}
use Rattle.blif_drafts.specs.Lasting.{AreBelow}
use Rattle.blif_drafts.specs.OpenDrafts.{IsOpenOf, bare_model, instance_at, with_item}
use Rattle.blif_drafts.specs.Signals.{StopIs}
use Rattle.blif_drafts.specs.Verdicts.{VerdictIs}

-- These models are closed and this one goes on, and all lines of them are lower than this one.
pub record AreOpen (line : ℕ) (before : List Model) (model : Model) (one : OpenModels) : Type 0 where
  pub one_number : HaveOneNumber one.titles
  pub closed : AreDrafts one.titles before one.closed.items
  pub current : IsOpenOf one.titles model one.current
  pub below : AreBelow line (before ++ model ∷ [])

-- the main model is begun anew by a line of this number
abbrev pub BeginsMain : OpenModels → ℕ → Option Word → OpenModels → Type 0
BeginsMain old line name new = (n : ℕ) (model : Model) → AreOpen n [] model old → AreOpen (suc line) [] (bare_model line name) new

-- the model that goes on is closed, and a further one is begun
abbrev pub BeginsFurther : OpenModels → ℕ → Option Word → OpenModels → Type 0
BeginsFurther old line name new = (before : List Model) (model : Model) → AreOpen line before model old → AreOpen (suc line) (before ++ model ∷ []) (bare_model line name) new

-- A line was not refused of which this is what may be wrong, and the model that goes on has it.
pub record TakesLine (old : OpenModels) (line : ℕ) (refused : Model → Option Refusal) (more : Model → Model) (new : OpenModels) : Type 0 where
  pub faultless : (before : List Model) (model : Model) → AreOpen line before model old → refused model ≡ None
  pub after : (before : List Model) (model : Model) → AreOpen line before model old → AreOpen (suc line) before (more model) new

-- or it was, and why
abbrev pub StopsLine : OpenModels → (Model → Option Refusal) → LineStop → Type 0
StopsLine old refused stop = (line : ℕ) (before : List Model) (model : Model) → AreOpen line before model old → StopIs (refused model) stop

-- the model that goes on has one more instance
abbrev pub HoldsLine : OpenModels → ℕ → List Word → OpenModels → Type 0
HoldsLine old line words new = (before : List Model) (model : Model) → AreOpen line before model old → AreOpen (suc line) before (with_item (instance_at line words) model) new

-- Some models are closed and one goes on, and all lines of them are lower than this one.
pub record AreSomeOpen (line : ℕ) (one : OpenModels) : Type 0 where
  pub before : List Model
  pub model : Model
  pub are : AreOpen line before model one

-- what is told of models, the main one first
abbrev pub IsToldOf : List Model → Judged → Type 0
IsToldOf models judged = (main : Model) → slice_get models 0 ≡ Some main → AreInterfacesOf models (λ m. true) judged.names.items judged.interfaces.items × VerdictIs models judged.names.items main judged.verdict

-- and of open ones, where no further line comes
abbrev pub IsToldOfOpen : OpenModels → Judged → Type 0
IsToldOfOpen one judged = (line : ℕ) (before : List Model) (model : Model) → AreOpen line before model one → IsToldOf (before ++ model ∷ []) judged

-- every name of the models has this property
abbrev pub NamesPass : (Word → Bool) → OpenModels → Type 0
NamesPass p one = All (λ draft. list_all p draft.names ≡ true) one.closed.items × (list_all p one.current.draft.names ≡ true)

-- names come of these words alone
abbrev pub AddNames : OpenModels → List Word → OpenModels → Type 0
AddNames old words new = (p : Word → Bool) → list_all p words ≡ true → NamesPass p old → NamesPass p new
