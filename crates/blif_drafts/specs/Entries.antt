-- What stands in models by number, where it is known of which models their instances are.
use Rattle.std.specs.Prelude.{◌≡◌, ℕ, ◌+◌, ◌<◌, true, false, Bool, List, [], ◌∷◌, Option, Some, get_or, length, slice_get}
use Rattle.std.specs.Borrow.{Bor}
use Rattle.blif_models.specs.declared.numbered.Entry.{Entry}
use Rattle.blif_models.specs.declared.numbered.Entry.TheVariants as entries
use Rattle.blif_models.specs.declared.numbered.NumberedInstance.{NumberedInstance}
use Rattle.blif_models.specs.declared.numbered.NumberedModel.{NumberedModel}
use Rattle.blif_models.specs.Graphs.{is_met}
use Rattle.blif_models.specs.Layouts.{model_at}
use Rattle.blif_models.specs.Numberings.{words_at}
use Rattle.blif_formals.specs.declared.calls.Call.{Call}
use Rattle.blif_drafts.specs.declared.drafts.DraftItem.{DraftItem}
use Rattle.blif_drafts.specs.declared.drafts.DraftItem.TheVariants as drafts
use Rattle.blif_formals.specs.declared.formals.Callees.{Callees}
use Rattle.blif_formals.specs.Calls.{model_by}
use Rattle.blif_formals.specs.Formals.{words_in}
use Rattle.blif_formals.specs.Instances.{IsInstanceBy, joins_known}
use Rattle.blif_formals.specs.Titles.{IsTitleBelow}

-- what an item counts for among instances
abbrev pub step_of : DraftItem → ℕ
step_of (drafts.Instance actuals) = 1
step_of _ = 0

-- how many instances stand among items
abbrev pub instances_among : List DraftItem → ℕ
instances_among [] = 0
instances_among (item ∷ items) = step_of item + instances_among items

-- This instance, of which so many stand before, is of a model that is there, and each word behind its name joins a name of that model to an
-- actual one.
pub record IsKnown (callees : Callees) (calls : List Call) (joined : List (List (Bor (List ℕ)))) (place : ℕ) (found : Option (List ℕ)) : Type 0 where
  pub call : Call
  pub words : List (Bor (List ℕ))
  pub actuals : List ℕ
  pub call_is : slice_get calls place ≡ Some call
  pub words_are : slice_get joined place ≡ Some words
  pub found_is : found ≡ Some actuals
  pub as_many : length actuals ≡ length words
  pub title : IsTitleBelow (length callees.titles.now) call.title
  pub known : joins_known callees (model_by callees.titles.now call.title) (words_in words) ≡ true

abbrev pub IsKnownItem : Callees → List Call → List (List (Bor (List ℕ))) → ℕ → DraftItem → Type 0
IsKnownItem callees calls joined place (drafts.Instance found) = IsKnown callees calls joined place found
IsKnownItem callees calls joined place _ = Unit {0}

-- and so is each of these
abbrev pub AreKnown : Callees → List Call → List (List (Bor (List ℕ))) → ℕ → List DraftItem → Type 0
AreKnown callees calls joined place [] = Unit {0}
AreKnown callees calls joined place (item ∷ items) = IsKnownItem callees calls joined place item × AreKnown callees calls joined (place + step_of item) items

-- The instance by number of the call at this place, with the words behind it.
pub record IsInstanceAt (callees : Callees) (calls : List Call) (joined : List (List (Bor (List ℕ)))) (place : ℕ) (found : Option (List ℕ)) (one : NumberedInstance) : Type 0 where
  pub call : Call
  pub words : List (Bor (List ℕ))
  pub actuals : List ℕ
  pub call_is : slice_get calls place ≡ Some call
  pub words_are : slice_get joined place ≡ Some words
  pub found_is : found ≡ Some actuals
  pub instance : IsInstanceBy callees call (words_in words) actuals one

-- what stands in a model, by number: covers and latches as they are, and instances of models
abbrev pub IsEntryBy : Callees → List Call → List (List (Bor (List ℕ))) → ℕ → DraftItem → Entry → Type 0
IsEntryBy callees calls joined place (drafts.Cover cover) entry = entry ≡ entries.Cover cover
IsEntryBy callees calls joined place (drafts.Latch latch) entry = entry ≡ entries.Latch latch
IsEntryBy callees calls joined place (drafts.Instance found) (entries.Instance one) = IsInstanceAt callees calls joined place found one
IsEntryBy callees calls joined place (drafts.Instance found) _ = ⊥

-- one by one, where so many instances stand before
abbrev pub AreEntriesBy : Callees → List Call → List (List (Bor (List ℕ))) → ℕ → List DraftItem → List Entry → Type 0
AreEntriesBy callees calls joined place [] [] = Unit {0}
AreEntriesBy callees calls joined place (item ∷ items) (entry ∷ others) = IsEntryBy callees calls joined place item entry × AreEntriesBy callees calls joined (place + step_of item) items others
AreEntriesBy callees calls joined place _ _ = ⊥

-- what is known of the instances of each model that was met
abbrev pub AreKnownIn : Callees → List (List DraftItem) → List (List Call) → List (List (List (Bor (List ℕ)))) → List Bool → Type 0
AreKnownIn callees items calls joined met = (m : ℕ) → is_met met m ≡ true → AreKnown callees (get_or calls m []) (get_or joined m []) 0 (get_or items m [])

-- The models by number: each has its names, and those that were met have what stands in them.
pub record AreModelsBy (callees : Callees) (items : List (List DraftItem)) (calls : List (List Call)) (joined : List (List (List (Bor (List ℕ))))) (met : List Bool) (models : List NumberedModel) : Type 0 where
  pub as_many : length models ≡ length items
  pub names : (m : ℕ) → m < length models → (model_at models m).names ≡ length (words_at callees.names.now m)
  pub own : (m : ℕ) → m < length models → is_met met m ≡ true → AreEntriesBy callees (get_or calls m []) (get_or joined m []) 0 (get_or items m []) (model_at models m).entries
  pub others : (m : ℕ) → is_met met m ≡ false → (model_at models m).entries ≡ []
