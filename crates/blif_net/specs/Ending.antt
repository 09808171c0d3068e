-- What comes of models when all lines were read.
use Rattle.std.specs.Prelude.{◌≡◌, ℕ, List, ◌++◌, Option, Some, None}
use Rattle.std.specs.Global.{Vec}
use Rattle.cover_nets.specs.declared.net.Net.{Net}
use Rattle.job_words.specs.Text.{Word}
use Rattle.blif_models.specs.declared.layout.Whole.{Whole}
use Rattle.blif_models.specs.Circuits.{Circuit, defined_in}
use Rattle.blif_models.specs.Models.{Model, circuit_from, whole_items}
use Rattle.blif_text.specs.Text.{Line}
use Rattle.blif_wholes.specs.declared.bodies.CoverRows.{CoverRows}
use Rattle.blif_wholes.specs.declared.uses.SpotUse.{SpotUse}
use Rattle.blif_wholes.specs.Bodies.{KeepRows}
use Rattle.blif_wholes.specs.Defined.{Once}
use Rattle.blif_wholes.specs.Networks.{IsNetOf}
use Rattle.blif_wholes.specs.Uses.{IsNamed, items_laid}
use Rattle.blif_net.specs.declared.faults.BlifError.{BlifError}
use Rattle.blif_net.specs.declared.faults.BlifError.TheVariants as errors
use Rattle.blif_net.specs.declared.faults.BlifFault.{BlifFault}
use Rattle.blif_net.specs.Circuits.{circuit_of}
use Rattle.blif_net.specs.Faults.{expanded_fault, fault_in}

-- the error is want of memory, or this fault
abbrev pub ErrorIs : Option BlifFault → BlifError → Type 0
ErrorIs fault errors.Memory = Unit {0}
ErrorIs fault (errors.Fault told) = fault ≡ Some told

-- the circuit into which a main model is expanded
abbrev pub whole_of : List Model → Model → Circuit
whole_of models main = circuit_from main (whole_items models main)

-- A whole is that of a main model, with the spots of its inputs and outputs and the rows of all covers; no signal of it is defined twice.
pub record IsExpanded (models : List Model) (words : List (List Word)) (main : Model) (whole : Whole) (inputs : List ℕ) (outputs : List SpotUse) (bodies : List (Vec (Option CoverRows))) : Type 0 where
  pub named : IsNamed models words main whole inputs outputs
  pub kept : KeepRows models bodies
  pub items : whole_items models main ≡ items_laid models words whole
  pub once : Once ((whole_of models main).inputs ++ defined_in (whole_of models main).covers)

-- the network is that of the whole, of which nothing is wrong
abbrev pub IsNetOfWhole : List Line → List Model → Model → Net → Type 0
IsNetOfWhole lines models main net = (expanded_fault lines main (whole_items models main) ≡ None) × IsNetOf (whole_of models main) net

-- the network is that of the lines, which have no fault
abbrev pub IsNetFrom : List Line → Net → Type 0
IsNetFrom lines net = (fault_in lines ≡ None) × IsNetOf (circuit_of lines) net
