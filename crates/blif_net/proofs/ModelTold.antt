-- What is told of models is their fault.
use Rattle.std.proofs.Common.{◌≡◌, ℕ, List, ◌∷◌, Option, option_map}
use Rattle.std.specs.Option.{option_or}
use Rattle.edge_bits.specs.declared.limits.TheConstants.{MOST_SIGNALS, MOST_VARIABLES}
use Rattle.job_words.specs.Text.{Word}
use Rattle.blif_models.specs.declared.expanding.Outcome.TheVariants as outcomes
use Rattle.blif_models.specs.ModelFaults.{formal_lines, holding_lines, least, too_many_line, twice_lines}
use Rattle.blif_models.specs.Models.{Model, whole_items}
use Rattle.blif_drafts.specs.declared.verdicts.Verdict.{Verdict}
use Rattle.blif_drafts.specs.declared.verdicts.Verdict.TheVariants as verdicts
use Rattle.blif_drafts.specs.Verdicts.{VerdictIs}
use Rattle.blif_net.specs.declared.faults.BlifFault.{BlifFault}
use Rattle.blif_net.specs.declared.faults.FaultKind.TheVariants as kinds
use Rattle.blif_text.specs.Text.{Line}
use Rattle.blif_net.specs.Faults.{expanded_fault, fault_at, models_fault}
use Rattle.blif_net.specs.ModelVerdicts.{verdict_fault}

-- the first of the faults that stand at these lines, or else another one
abbrev first_of : Option ℕ → Option ℕ → Option ℕ → Option ℕ → Option ℕ → Option BlifFault → Option BlifFault
first_of names joins twice turning many rest =
    option_or (option_map (fault_at kinds.Model) names)
    (option_or (option_map (fault_at kinds.Formal) joins)
    (option_or (option_map (fault_at kinds.Twice) twice) (option_or (option_map (fault_at kinds.Cycle) turning) (option_or (option_map (fault_at kinds.TooMany) many) rest))))

module _ (lines : List Line) (main : Model) (further : List Model) (words : List (List Word)) where
  abbrev joins : Option ℕ
  joins = least (formal_lines (main ∷ further) main)

  abbrev twice : Option ℕ
  twice = least (twice_lines (main ∷ further) main)

  abbrev turning : Option ℕ
  turning = least (holding_lines (main ∷ further) main)

  abbrev many : Option ℕ
  many = too_many_line MOST_SIGNALS MOST_VARIABLES (main ∷ further) main

  abbrev rest : Option BlifFault
  rest = expanded_fault lines main (whole_items (main ∷ further) main)

  told_so : (verdict : Verdict) → VerdictIs (main ∷ further) words main verdict → models_fault lines (main ∷ further) ≡ verdict_fault lines main (whole_items (main ∷ further) main) verdict
  told_so (verdicts.Nameless line) is = λ j. first_of (is j) joins twice turning many rest
  told_so (verdicts.Misjoined line) is = λ j. first_of (is.0 j) (is.1 j) twice turning many rest
  told_so (verdicts.Twice line) is = λ j. first_of (is.0 j) (is.1 j) (is.2 j) turning many rest
  told_so (verdicts.Comes (outcomes.Turning line)) is = λ j. first_of (is.0 j) (is.1 j) (is.2 j) (is.3 j) many rest
  told_so (verdicts.Comes (outcomes.TooMany line)) is = λ j. first_of (is.0 j) (is.1 j) (is.2 j) (is.3.0 j) (is.3.1 j) rest
  told_so (verdicts.Comes (outcomes.Expanded whole)) is = λ j. first_of (is.0 j) (is.1 j) (is.2 j) (is.3.0 j) (is.3.1 j) rest

-- what is told of models, the main one first, is what is wrong with them
pub verdicts_are_faults : (lines : List Line) (main : Model) (further : List Model) (words : List (List Word)) (verdict : Verdict) → VerdictIs (main ∷ further) words main verdict
    → models_fault lines (main ∷ further) ≡ verdict_fault lines main (whole_items (main ∷ further) main) verdict
verdicts_are_faults lines main further words verdict is = told_so lines main further words verdict is
