-- How far a layout of models has come.
use Rattle.std.specs.Prelude.{◌≡◌, ℕ, zero, suc, ◌+◌, ◌-◌, ◌<◌, ◌≤◌, List, [], ◌∷◌, ◌++◌, Some, All, drop, length, map, slice_get, sum_by}
use Rattle.blif_models.specs.declared.numbered.NumberedInstance.{NumberedInstance}
use Rattle.blif_models.specs.declared.numbered.Entry.{Entry}
use Rattle.blif_models.specs.declared.numbered.Entry.TheVariants as entries
use Rattle.blif_models.specs.declared.numbered.NumberedModel.{NumberedModel}
use Rattle.blif_models.specs.declared.numbered.Spot.{Spot}
use Rattle.blif_models.specs.declared.numbered.Laid.{Laid}
use Rattle.blif_models.specs.declared.numbered.Laid.TheVariants as laid
use Rattle.blif_models.specs.declared.layout.Frame.{Frame}
use Rattle.blif_models.specs.declared.layout.Layout.{Layout}
use Rattle.blif_models.specs.SpotsApart.{AreEnough, AreNames, HaveOneSpot, copies_over}
use Rattle.blif_models.specs.Layouts.{Counted, IsRanked, Placed, laid_within, model_at, placed_in, spots_of, up_to}

-- The frame is a copy of a model, whose names have spots.
pub record IsFrame (models : List NumberedModel) (spots : List Spot) (frame : Frame) : Type 0 where
  pub model : frame.model < length models
  pub many : length frame.table.items ≡ (model_at models frame.model).names
  pub within : All (λ n. n < length spots) frame.table.items

abbrev pub entries_left : List NumberedModel → Frame → List Entry
entries_left models frame = drop frame.next (model_at models frame.model).entries

-- what is still to be laid out of a copy, through so many levels of models
abbrev pub left_of : List NumberedModel → Counted → ℕ → List Spot → Frame → List Placed
left_of models counted levels spots frame = laid_within models counted levels (spots_of spots frame.table.items) frame.model frame.copies frame.next (entries_left models frame)

-- and of copies of which each stands in the one before it
abbrev pub unfinished : List NumberedModel → Counted → ℕ → List Spot → List Frame → List Placed
unfinished models counted levels spots [] = []
unfinished models counted levels spots (frame ∷ frames) = unfinished models counted (levels - 1) spots frames ++ left_of models counted levels spots frame

-- there are as many levels as the models need
abbrev pub AreRanked : (ℕ → ℕ) → ℕ → List Frame → Type 0
AreRanked rank levels [] = Unit {0}
AreRanked rank levels (frame ∷ frames) = (rank frame.model ≤ levels) × AreRanked rank (levels - 1) frames

-- the numbers of spots in what was laid out
abbrev pub LaidIs : ℕ → Laid → Type 0
LaidIs count (laid.Cover cover model place) = All (λ n. n < count) cover.ins × (cover.name < count)
LaidIs count (laid.Latch latch) = (latch.input < count) × (latch.output < count)

-- What was laid out and what is still to be are the whole.
pub record IsLayout (models : List NumberedModel) (counted : Counted) (rank : ℕ → ℕ) (levels : ℕ) (whole : List Placed) (spots : List Spot) (placed : List Laid) (stack : List Frame) : Type 0 where
  pub frames : All (IsFrame models spots) stack
  pub ranked : AreRanked rank levels stack
  pub within : All (LaidIs (length spots)) placed
  pub whole_is : whole ≡ map (placed_in spots) placed ++ unfinished models counted levels spots stack

-- how many steps entries take
abbrev pub entry_steps : (NumberedInstance → ℕ) → Entry → ℕ
entry_steps inside (entries.Instance instance) = inside instance + 1
entry_steps inside _ = 1

unfoldable pub steps_within : List NumberedModel → ℕ → List Entry → ℕ
steps_within models zero others = sum_by (entry_steps (λ instance. 0)) others
steps_within models (suc levels) others = sum_by (entry_steps (λ instance. steps_within models levels (model_at models instance.model).entries + 1)) others

abbrev pub steps_left : List NumberedModel → ℕ → List Frame → ℕ
steps_left models levels [] = 0
steps_left models levels (frame ∷ frames) = steps_left models (levels - 1) frames + (steps_within models levels (entries_left models frame) + 1)

abbrev pub LayoutIs : List NumberedModel → Counted → (ℕ → ℕ) → ℕ → List Placed → Layout → Type 0
LayoutIs models counted rank levels whole layout = IsLayout models counted rank levels whole layout.spots.items layout.laid.items layout.stack.items

-- the frame behind its next entry, with so many copies before
abbrev pub onward : Frame → ℕ → Frame
onward frame copies = record frame { next = frame.next + 1; copies = copies }

-- some spots were added
abbrev pub AreMore : List Spot → List Spot → Type 0
AreMore old new = (more : List Spot) × (new ≡ old ++ more)

-- the copies before the next entry of the last frame, or this many
abbrev pub top_copies : ℕ → List Frame → ℕ
top_copies most [] = most
top_copies most (frame ∷ frames) = top_copies frame.copies frames

-- the copies that a frame still makes come before the next ones of the frame before it
abbrev pub HaveRoom : List NumberedModel → List ℕ → ℕ → List Frame → Type 0
HaveRoom models copies most [] = Unit {0}
HaveRoom models copies most (frame ∷ frames) = (frame.copies + copies_over copies (entries_left models frame) ≤ most) × HaveRoom models copies frame.copies frames

-- Copies that are still to come are new.
pub record AreFresh (models : List NumberedModel) (copies : List ℕ) (most : ℕ) (spots : List Spot) (stack : List Frame) : Type 0 where
  pub one_spot : HaveOneSpot spots
  pub named : AreNames models spots
  pub low : (i : ℕ) (one : Spot) → slice_get spots i ≡ Some one → one.copy ≤ top_copies most stack
  pub room : HaveRoom models copies most stack

-- A layout went on with the last frame of its stack, which had been taken off.
pub record GoesOn (models : List NumberedModel) (counted : Counted) (old : Layout) (frame : Frame) (new : Layout) : Type 0 where
  pub spots : AreMore old.spots.items new.spots.items
  pub layout : (rank : ℕ → ℕ) (levels : ℕ) (whole : List Placed) → IsRanked models rank → IsLayout models counted rank levels whole old.spots.items old.laid.items (old.stack.items ++ frame ∷ [])
      → LayoutIs models counted rank levels whole new × (steps_left models levels new.stack.items < steps_left models levels (old.stack.items ++ frame ∷ []))
  pub fresh : (most : ℕ) → AreEnough models counted.copies → AreFresh models counted.copies most old.spots.items (old.stack.items ++ frame ∷ []) → AreFresh models counted.copies most new.spots.items new.stack.items

-- the entry stands next
abbrev pub IsNext : List NumberedModel → Frame → Entry → Type 0
IsNext models frame entry = slice_get (model_at models frame.model).entries frame.next ≡ Some entry

-- the stack has the main model's frame alone, whose names have the first spots
abbrev pub IsStart : ℕ → ℕ → List Frame → Type 0
IsStart main names stack = (frame : Frame) × (stack ≡ frame ∷ []) × (frame.model ≡ main) × (frame.next ≡ 0) × (frame.copies ≡ 0) × (frame.table.items ≡ up_to names)
