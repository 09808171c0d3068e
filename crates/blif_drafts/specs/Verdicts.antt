-- What is wrong with several models, or what the main one expands into.
use Rattle.std.specs.Prelude.{◌≡◌, ℕ, ◌<◌, Bool, true, List, Option, Some, None, All, drop, length, map, slice_get, vec_len}
use Rattle.std.specs.Borrow.{Bor}
use Rattle.job_words.specs.Text.{Word}
use Rattle.blif_models.specs.declared.expanding.Outcome.{Outcome}
use Rattle.blif_models.specs.declared.expanding.Outcome.TheVariants as outcomes
use Rattle.blif_models.specs.declared.layout.Whole.{Whole}
use Rattle.blif_models.specs.declared.limits.Adding.{Adding}
use Rattle.blif_models.specs.declared.numbered.NumberedModel.{NumberedModel}
use Rattle.blif_models.specs.declared.numbered.Spot.{Spot}
use Rattle.blif_models.specs.Agreement.{NamedOutcomeIs}
use Rattle.blif_models.specs.Expanding.{OutcomeIs}
use Rattle.blif_models.specs.Kept.{reached_models}
use Rattle.blif_models.specs.ModelFaults.{formal_lines, least, model_lines, twice_lines}
use Rattle.blif_models.specs.Layouts.{main_table, placed_in}
use Rattle.blif_models.specs.Lined.{IsLined}
use Rattle.blif_models.specs.Models.{Model}
use Rattle.blif_models.specs.Numberings.{words_at}
use Rattle.blif_models.specs.SpotsApart.{HaveOneSpot}
use Rattle.blif_models.specs.Unfinished.{AreMore, LaidIs}
use Rattle.blif_formals.specs.declared.calls.Call.{Call}
use Rattle.blif_formals.specs.declared.clashes.Definition.{Definition}
use Rattle.blif_drafts.specs.declared.drafts.Draft.{Draft}
use Rattle.blif_formals.specs.declared.formals.Callees.{Callees}
use Rattle.blif_formals.specs.declared.interface.Interface.{Interface}
use Rattle.blif_formals.specs.declared.titles.Heading.{Heading}
use Rattle.blif_drafts.specs.declared.verdicts.Judged.{Judged}
use Rattle.blif_drafts.specs.declared.verdicts.Verdict.{Verdict}
use Rattle.blif_drafts.specs.declared.verdicts.Verdict.TheVariants as verdicts
use Rattle.blif_formals.specs.Calls.{nameless_lines}
use Rattle.blif_formals.specs.Definitions.{AreInterfacesOf}
use Rattle.blif_drafts.specs.Drafts.{AreDraftsOf}
use Rattle.blif_formals.specs.Formals.{IsFormalLine}
use Rattle.blif_formals.specs.Twice.{clash_lines}

-- A whole is laid out in range: its numbers are those of spots, of which the main model's names have the first; and each spot is of a name of a
-- model, no two of one name.
pub record IsLaidOut (words : List (List Word)) (whole : Whole) : Type 0 where
  pub within : All (LaidIs (vec_len whole.spots)) whole.laid.items
  pub own_names : AreMore (main_table 0 (length (words_at words 0))) whole.spots.items
  pub one_spot : HaveOneSpot whole.spots.items
  pub named : (i : ℕ) (one : Spot) → slice_get whole.spots.items i ≡ Some one → (one.model < length words) × (one.name < length (words_at words one.model))

abbrev pub LaidOut : List (List Word) → Outcome → Type 0
LaidOut words (outcomes.Expanded whole) = IsLaidOut words whole
LaidOut words _ = Unit {0}

-- each cover of the whole has the line of the model's cover
abbrev pub AreLined : List Model → Outcome → Type 0
AreLined models (outcomes.Expanded whole) = All (IsLined models) (map (placed_in whole.spots.items) whole.laid.items)
AreLined models _ = Unit {0}

-- what comes of models, the main one first: each kind of fault at its first line, and only where none before it is, or what comes of the
-- main one
abbrev pub VerdictIs : List Model → List (List Word) → Model → Verdict → Type 0
VerdictIs models words main (verdicts.Nameless line) = least (model_lines models main (drop 1 models)) ≡ Some line
VerdictIs models words main (verdicts.Misjoined line) = (least (model_lines models main (drop 1 models)) ≡ None) × (least (formal_lines models main) ≡ Some line)
VerdictIs models words main (verdicts.Twice line) = (least (model_lines models main (drop 1 models)) ≡ None) × (least (formal_lines models main) ≡ None) × (least (twice_lines models main) ≡ Some line)
VerdictIs models words main (verdicts.Comes outcome) =
    (least (model_lines models main (drop 1 models)) ≡ None) × (least (formal_lines models main) ≡ None) × (least (twice_lines models main) ≡ None) × NamedOutcomeIs models words main outcome
    × LaidOut words outcome × AreLined models outcome

-- what is judged of drafts is so of any models of which they are
abbrev pub IsJudgedOf : List Word → List Draft → Judged → Type 0
IsJudgedOf titles drafts judged =
    (models : List Model) (main : Model) → AreDraftsOf titles models drafts → slice_get models 0 ≡ Some main
    → AreInterfacesOf models (λ m. true) judged.names.items judged.interfaces.items × VerdictIs models judged.names.items main judged.verdict

-- by number: the first line of names of models, or else of joins
abbrev pub IsMisnaming : Callees → List Heading → List (List Call) → List (List (List (Bor (List ℕ)))) → List Bool → Option Verdict → Type 0
IsMisnaming callees headings calls joined met None = (least (nameless_lines headings callees.titles.now calls met) ≡ None) × IsFormalLine callees calls joined met None
IsMisnaming callees headings calls joined met (Some (verdicts.Nameless line)) = least (nameless_lines headings callees.titles.now calls met) ≡ Some line
IsMisnaming callees headings calls joined met (Some (verdicts.Misjoined line)) = (least (nameless_lines headings callees.titles.now calls met) ≡ None) × IsFormalLine callees calls joined met (Some line)
IsMisnaming callees headings calls joined met (Some _) = ⊥

-- and else the first line of two definitions, or else what comes of the first model
abbrev pub Comes : List Interface → List (List Definition) → List NumberedModel → List Bool → List Adding → Verdict → Type 0
Comes interfaces inputs models met added (verdicts.Twice line) = least (clash_lines interfaces inputs models met) ≡ Some line
Comes interfaces inputs models met added (verdicts.Comes outcome) = (least (clash_lines interfaces inputs models met) ≡ None) × OutcomeIs (reached_models models 0) 0 added outcome
Comes interfaces inputs models met added _ = ⊥
