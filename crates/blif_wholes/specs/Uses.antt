-- Signals and uses of a whole by numbers of spots.
use Rattle.std.specs.Prelude.{◌≡◌, ℕ, ◌<◌, Bool, not, List, [], ◌∷◌, ◌++◌, Option, All, filter, flat_map, map, vec_len}
use Rattle.job_words.specs.Text.{Word}
use Rattle.blif_order.specs.Orders.{is_in}
use Rattle.blif_models.specs.declared.layout.Whole.{Whole}
use Rattle.blif_models.specs.declared.numbered.Laid.{Laid}
use Rattle.blif_models.specs.declared.numbered.Laid.TheVariants as laid
use Rattle.blif_models.specs.declared.numbered.Spot.{Spot}
use Rattle.blif_models.specs.Layouts.{placed_in, spot_at}
use Rattle.blif_models.specs.Lined.{IsLined}
use Rattle.blif_models.specs.Models.{Item, Model, Use, names_of, uses_on}
use Rattle.blif_models.specs.ModelFaults as by_name
use Rattle.blif_models.specs.ModelFaults.{least}
use Rattle.blif_models.specs.Numberings.{item_of, word_of, words_at}
use Rattle.blif_formals.specs.Words.{HaveOneNumber}
use Rattle.blif_drafts.specs.Signals.{is_marked}
use Rattle.blif_drafts.specs.Verdicts.{IsLaidOut}
use Rattle.blif_drafts.specs.WholeNames.{ArePlain}
use Rattle.blif_wholes.specs.declared.uses.SpotUse.{SpotUse}

-- what a cover or a latch defines, and its line
abbrev pub laid_name : Laid → ℕ
laid_name (laid.Cover cover model place) = cover.name
laid_name (laid.Latch latch) = latch.output

abbrev pub laid_line : Laid → ℕ
laid_line (laid.Cover cover model place) = cover.line
laid_line (laid.Latch latch) = latch.line

abbrev pub signals_laid : List Laid → List ℕ
signals_laid all = map laid_name all

-- what a cover or a latch reads
abbrev pub laid_reads : Laid → List ℕ
laid_reads (laid.Cover cover model place) = cover.ins
laid_reads (laid.Latch latch) = latch.input ∷ []

abbrev pub uses_at : ℕ → List ℕ → List SpotUse
uses_at line spots = map (λ spot. record { spot = spot; line = line }) spots

abbrev pub uses_laid : List Laid → List SpotUse
uses_laid all = flat_map (λ one. uses_at (laid_line one) (laid_reads one)) all

-- the lines of the uses of spots that are not marked
abbrev pub unmarked_lines : List Bool → List SpotUse → List ℕ
unmarked_lines marks uses = map (λ one. one.line) (filter (λ one. not (is_marked marks one.spot)) uses)

-- the first line of uses of what is not among these spots
abbrev pub undefined_among : List ℕ → List SpotUse → Option ℕ
undefined_among signals uses = least (map (λ one. one.line) (filter (λ one. not (is_in signals one.spot)) uses))

-- the name of a spot of a whole
abbrev pub name_at : List (List Word) → List Spot → ℕ → Word
name_at words spots n = word_of words (spot_at spots n)

abbrev pub use_named : List (List Word) → List Spot → SpotUse → Use
use_named words spots one = record { word = name_at words spots one.spot; line = one.line }

-- A whole of models with these words, and the spots of its main model's inputs and outputs.
pub record IsNamed (models : List Model) (words : List (List Word)) (main : Model) (whole : Whole) (inputs : List ℕ) (outputs : List SpotUse) : Type 0 where
  pub plain : ArePlain words
  pub one_number : (m : ℕ) → HaveOneNumber (words_at words m)
  pub laid_out : IsLaidOut words whole
  pub lined : All (IsLined models) (map (placed_in whole.spots.items) whole.laid.items)
  pub inputs_are : map (name_at words whole.spots.items) inputs ≡ names_of main.inputs
  pub outputs_are : map (use_named words whole.spots.items) outputs ≡ flat_map (λ one. uses_on one.line one.words) main.outputs
  pub inputs_within : All (λ n. n < vec_len whole.spots) inputs
  pub outputs_within : All (λ one. one.spot < vec_len whole.spots) outputs

-- the items of a whole, by name
abbrev pub items_laid : List Model → List (List Word) → Whole → List Item
items_laid models words whole = map (item_of models words) (map (placed_in whole.spots.items) whole.laid.items)

-- the first line that uses what is no signal is the same by spots and by names
abbrev pub UndefinedAgrees : Type 0
UndefinedAgrees =
    (models : List Model) (words : List (List Word)) (main : Model) (whole : Whole) (inputs : List ℕ) (outputs : List SpotUse) → IsNamed models words main whole inputs outputs
    → by_name.undefined_line main (items_laid models words whole) ≡ undefined_among (inputs ++ signals_laid whole.laid.items) (outputs ++ uses_laid whole.laid.items)
