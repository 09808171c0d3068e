-- Drafts of several models follow the lines of a text.
use Rattle.std.specs.Prelude.{◌≡◌, ℕ, false, []}
use Rattle.blif_drafts.specs.declared.open_models.OpenModels.{OpenModels}
use Rattle.blif_drafts.specs.declared.stops.LineStop.{LineStop}
use Rattle.blif_drafts.specs.declared.stops.LineStop.TheVariants as stops
use Rattle.blif_drafts.specs.declared.stops.Refusal.{Refusal}
use Rattle.blif_drafts.specs.declared.stops.Refusal.TheVariants as refusals
use Rattle.blif_drafts.specs.OpenModels.{AreOpen}
use Rattle.blif_net.specs.declared.faults.BlifStop.{BlifStop}
use Rattle.blif_net.specs.declared.faults.BlifStop.TheVariants as blif_stops
use Rattle.blif_net.specs.declared.faults.FaultKind.{FaultKind}
use Rattle.blif_net.specs.declared.faults.FaultKind.TheVariants as kinds
use Rattle.blif_net.specs.Circuits.{Context, close}

-- the kind of a fault by which a line is refused
abbrev pub kind_of : Refusal → FaultKind
kind_of refusals.Twice = kinds.Twice
kind_of refusals.TooMany = kinds.TooMany

abbrev pub stop_of : LineStop → BlifStop
stop_of stops.Memory = blif_stops.Memory
stop_of (stops.Refused refusal) = blif_stops.Fault (kind_of refusal)

-- The drafts are those of the models that lines before this one leave; where none of the lines had words, no model is closed.
pub record AreLeftBy (line : ℕ) (c : Context) (one : OpenModels) : Type 0 where
  pub are : AreOpen line (close c).closed (close c).current one
  pub main : c.begun ≡ false → (close c).closed ≡ []
