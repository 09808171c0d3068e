-- The circuit of a whole by spots is the one by names, but for the order of covers.
use Rattle.std.specs.Prelude.{◌≡◌, ℕ, ◌++◌, List, IsPermutation, map}
use Rattle.std.specs.List.Sorted.{IsNonDecreasingBy}
use Rattle.job_words.specs.Text.{Word}
use Rattle.blif_models.specs.declared.layout.Whole.{Whole}
use Rattle.blif_models.specs.declared.numbered.NumberedLatch.{NumberedLatch}
use Rattle.blif_models.specs.declared.numbered.Spot.{Spot}
use Rattle.blif_models.specs.Circuits.{Circuit, Cover}
use Rattle.blif_models.specs.Models.{Model, circuit_from}
use Rattle.blif_models.specs.Numberings.{cover_at}
use Rattle.blif_wholes.specs.declared.parting.WholeCover.{WholeCover}
use Rattle.blif_wholes.specs.declared.uses.SpotUse.{SpotUse}
use Rattle.blif_wholes.specs.Parting.{covers_laid, latches_laid}
use Rattle.blif_wholes.specs.Uses.{IsNamed, items_laid, name_at}

-- a cover of the whole by name: with the rows of the model's cover
abbrev pub cover_named : List Model → List (List Word) → List Spot → WholeCover → Cover
cover_named models words spots one = record (cover_at models one.model one.place) { ins = map (name_at words spots) one.cover.ins; name = name_at words spots one.cover.name }

abbrev pub circuit_named : List Model → List (List Word) → List Spot → List ℕ → List SpotUse → List WholeCover → List NumberedLatch → Circuit
circuit_named models words spots inputs outputs covers latches = record {
  inputs = map (name_at words spots) (inputs ++ map (λ latch. latch.output) latches);
  outputs = map (name_at words spots) (map (λ one. one.spot) outputs ++ map (λ latch. latch.input) latches);
  covers = map (cover_named models words spots) covers;
}

-- The circuits have the same inputs and outputs, and the same covers, which the one has in the order of lines.
pub record IsByLine (circuit other : Circuit) : Type 0 where
  pub inputs : circuit.inputs ≡ other.inputs
  pub outputs : circuit.outputs ≡ other.outputs
  pub covers : IsPermutation other.covers circuit.covers
  pub rising : IsNonDecreasingBy (λ cover. cover.line) circuit.covers

abbrev pub CircuitsAreNamed : Type 0
CircuitsAreNamed =
    (models : List Model) (words : List (List Word)) (main : Model) (whole : Whole) (inputs : List ℕ) (outputs : List SpotUse) (covers : List WholeCover) → IsNamed models words main whole inputs outputs
    → IsPermutation (covers_laid whole.laid.items) covers → IsNonDecreasingBy (λ one. one.cover.line) covers
    → IsByLine (circuit_named models words whole.spots.items inputs outputs covers (latches_laid whole.laid.items)) (circuit_from main (items_laid models words whole))
