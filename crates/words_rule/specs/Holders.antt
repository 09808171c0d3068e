-- What an order holder knows of the generations of slots, and a full holder of the swap that it makes.
use Rattle.std.specs.Prelude.{◌≡◌, ℕ, List, Option}
use mathlib.Core.Option.{some}
use lib.ListN.{get_elem?}
use Rattle.handle_count.specs.CountWords.{generation_of}
use Rattle.function_laws.specs.SessionEntries.{Each}
use Rattle.node_store.specs.Contents.{Pair}
use Rattle.words_rule.specs.declared.view.Hold.TheVariants.{Holding}
use Rattle.words_rule.specs.declared.view.SlotGeneration.{SlotGeneration}
use Rattle.words_rule.specs.declared.view.View.{View}
use Rattle.words_rule.specs.Halves.{half_in}

-- the slot has this generation
abbrev pub IsAge : (ℕ → ℕ) → SlotGeneration → Type 0
IsAge count g = generation_of (count g.slot) ≡ g.generation

-- the generations that it noted; the two variables whose swap is half made, and the order words that are still to be stored
abbrev pub IsHolder : (ℕ → ℕ) → Option Pair → List ℕ → View → Type 0
IsHolder count half pending v = (v.shares.order ≡ Holding → Each (IsAge count) v.known.ages) × (v.shares.full ≡ Holding → (half_in v.known ≡ half) × (v.known.pending ≡ pending))

abbrev pub AreHolders : (ℕ → ℕ) → Option Pair → List ℕ → List View → Type 0
AreHolders count half pending vs = (id : ℕ) (v : View) → get_elem? vs id ≡ some v → IsHolder count half pending v
