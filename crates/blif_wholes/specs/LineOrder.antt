-- Covers of a whole in the order of lines.
use Rattle.std.specs.Prelude.{◌≡◌, not, List, IsPermutation, find, option_map}
use Rattle.std.specs.List.Sorted.{IsNonDecreasingBy}
use Rattle.blif_models.specs.Circuits.{Circuit, Cover, is_settled}
use Rattle.blif_models.specs.ModelFaults.{cyclic_line}
use Rattle.blif_models.specs.Models.{Item, Model, circuit_from, covers_among}

abbrev pub with_covers : Circuit → List Cover → Circuit
with_covers circuit covers = record circuit { covers = covers }

-- the first line of covers that are not led back is that of the first one, where covers stand in the order of lines
abbrev pub CyclesByLine : Type 0
CyclesByLine =
    (main : Model) (items : List Item) (covers : List Cover) → IsPermutation (covers_among items) covers → IsNonDecreasingBy (λ cover. cover.line) covers
    → cyclic_line main items ≡ option_map (λ cover. cover.line) (find (λ cover. not (is_settled (with_covers (circuit_from main items) covers) cover)) covers)
