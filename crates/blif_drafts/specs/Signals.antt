-- Which names of a model are signals, while its lines are read.
use Rattle.std.specs.Prelude.{◌≡◌, ℕ, Bool, true, false, List, [], ◌∷◌, ◌++◌, Option, Some, get_or}
use Rattle.std.specs.List.{flat_map}
use Rattle.job_words.specs.Text.{Word}
use Rattle.blif_order.specs.Orders.{is_in}
use Rattle.blif_models.specs.Circuits.{some_again}
use Rattle.blif_models.specs.ModelFaults.{formal_inputs}
use Rattle.blif_models.specs.Models.{Item, Model, covered, latched, held}
use Rattle.blif_models.specs.Numberings.{AreNumbersOf}
use Rattle.blif_formals.specs.Actuals.{Keeps}
use Rattle.blif_formals.specs.Words.{HaveOneNumber}
use Rattle.blif_drafts.specs.declared.drafts.Draft.{Draft}
use Rattle.blif_drafts.specs.declared.drafts.DraftItem.{DraftItem}
use Rattle.blif_drafts.specs.declared.drafts.DraftItem.TheVariants as drafts
use Rattle.blif_drafts.specs.declared.stops.LineStop.{LineStop}
use Rattle.blif_drafts.specs.declared.stops.LineStop.TheVariants as stops
use Rattle.blif_drafts.specs.declared.stops.Refusal.{Refusal}
use Rattle.blif_drafts.specs.declared.stops.Refusal.TheVariants as refusals
use Rattle.blif_drafts.specs.Parts.{names_by}

-- the signals that an item defines on its own line
abbrev pub defined_by : Item → List Word
defined_by (covered cover) = cover.name ∷ []
defined_by (latched latch) = latch.output ∷ []
defined_by (held instance) = []

-- the signals that the lines of a model define: its inputs, and what covers and latches define
abbrev pub signals_of : Model → List Word
signals_of model = formal_inputs model ++ flat_map defined_by model.items

-- the same by number
abbrev pub number_defined : DraftItem → List ℕ
number_defined (drafts.Cover cover) = cover.name ∷ []
number_defined (drafts.Latch latch) = latch.output ∷ []
number_defined (drafts.Instance found) = []

abbrev pub signals_in : Draft → List ℕ
signals_in draft = names_by draft.inputs ++ flat_map number_defined draft.items

-- names are marked by their numbers
abbrev pub is_marked : List Bool → ℕ → Bool
is_marked marks n = get_or marks n false

-- Some signals have these numbers among the names, and those are the numbers that are marked.
pub record AreSignals (names : List Word) (marks : List Bool) (numbers : List ℕ) (signals : List Word) : Type 0 where
  pub one_number : HaveOneNumber names
  pub numbers_are : AreNumbersOf (names ∷ []) 0 numbers signals
  pub marked : (n : ℕ) → is_marked marks n ≡ is_in numbers n

-- These words became signals, which none of them was before it came, and these are their numbers.
pub record Defines (names : List Word) (marks : List Bool) (words : List Word) (numbers : List ℕ) (names' : List Word) (marks' : List Bool) : Type 0 where
  pub keeps : Keeps names names'
  pub numbers_are : AreNumbersOf (names' ∷ []) 0 numbers words
  pub new : (before : List ℕ) (signals : List Word) → AreSignals names marks before signals → some_again signals words ≡ false
  pub after : (before : List ℕ) (signals : List Word) → AreSignals names marks before signals → AreSignals names' marks' (before ++ numbers) (signals ++ words)

-- what is wrong is this, or memory is wanting
abbrev pub StopIs : Option Refusal → LineStop → Type 0
StopIs wrong stops.Memory = Unit {0}
StopIs wrong (stops.Refused refusal) = wrong ≡ Some refusal

-- or they did not, since one of them is a signal or stands twice
abbrev pub DefineStop : List Word → List Bool → List Word → LineStop → Type 0
DefineStop names marks words stops.Memory = Unit {0}
DefineStop names marks words (stops.Refused refusal) =
    (refusal ≡ refusals.Twice) × ((before : List ℕ) (signals : List Word) → AreSignals names marks before signals → some_again signals words ≡ true)
