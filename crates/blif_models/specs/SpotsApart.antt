-- Different numbers of spots are different names: a copy has one model, and each of its names one spot.
use Rattle.std.specs.Prelude.{◌≡◌, ℕ, ◌+◌, ◌<◌, ◌≤◌, List, [], ◌∷◌, Some, get_or, length, slice_get}
use Rattle.blif_models.specs.declared.numbered.Entry.{Entry}
use Rattle.blif_models.specs.declared.numbered.Entry.TheVariants as entries
use Rattle.blif_models.specs.declared.numbered.NumberedModel.{NumberedModel}
use Rattle.blif_models.specs.declared.numbered.Spot.{Spot}
use Rattle.blif_models.specs.Layouts.{model_at}

-- how many copies entries make, where each model has so many inside
abbrev pub copies_over : List ℕ → List Entry → ℕ
copies_over copies [] = 0
copies_over copies (entries.Instance instance ∷ others) = get_or copies instance.model 0 + 1 + copies_over copies others
copies_over copies (_ ∷ others) = copies_over copies others

-- each model has at least as many copies inside as its entries make
abbrev pub AreEnough : List NumberedModel → List ℕ → Type 0
AreEnough models copies = (m : ℕ) → copies_over copies (model_at models m).entries ≤ get_or copies m 0

-- spots of one copy are of one model, and those of one name are one
abbrev pub HaveOneSpot : List Spot → Type 0
HaveOneSpot spots = (i j : ℕ) (one other : Spot) → slice_get spots i ≡ Some one → slice_get spots j ≡ Some other → one.copy ≡ other.copy → (one.model ≡ other.model) × (one.name ≡ other.name → i ≡ j)

-- and each is of a name of one of the models
abbrev pub AreNames : List NumberedModel → List Spot → Type 0
AreNames models spots = (i : ℕ) (one : Spot) → slice_get spots i ≡ Some one → (one.model < length models) × (one.name < (model_at models one.model).names)
