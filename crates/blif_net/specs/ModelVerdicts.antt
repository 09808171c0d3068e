-- The fault of a text of several models, where no line is faulty, by what is told of its models.
use Rattle.std.specs.Prelude.{List, Option, Some}
use Rattle.blif_models.specs.declared.expanding.Outcome.{Outcome}
use Rattle.blif_models.specs.declared.expanding.Outcome.TheVariants as outcomes
use Rattle.blif_models.specs.Models.{Item, Model}
use Rattle.blif_drafts.specs.declared.verdicts.Verdict.{Verdict}
use Rattle.blif_drafts.specs.declared.verdicts.Verdict.TheVariants as verdicts
use Rattle.blif_net.specs.declared.faults.BlifFault.{BlifFault}
use Rattle.blif_net.specs.declared.faults.FaultKind.TheVariants as kinds
use Rattle.blif_text.specs.Text.{Line}
use Rattle.blif_net.specs.Faults.{expanded_fault, fault_at}

-- of an outcome: an instance by which a model holds itself, a limit that is passed, or what is wrong with the whole that stands in the main model
abbrev pub outcome_fault : List Line → Model → List Item → Outcome → Option BlifFault
outcome_fault lines main items (outcomes.Turning line) = Some (fault_at kinds.Cycle line)
outcome_fault lines main items (outcomes.TooMany line) = Some (fault_at kinds.TooMany line)
outcome_fault lines main items (outcomes.Expanded whole) = expanded_fault lines main items

-- of a verdict
abbrev pub verdict_fault : List Line → Model → List Item → Verdict → Option BlifFault
verdict_fault lines main items (verdicts.Nameless line) = Some (fault_at kinds.Model line)
verdict_fault lines main items (verdicts.Misjoined line) = Some (fault_at kinds.Formal line)
verdict_fault lines main items (verdicts.Twice line) = Some (fault_at kinds.Twice line)
verdict_fault lines main items (verdicts.Comes outcome) = outcome_fault lines main items outcome
