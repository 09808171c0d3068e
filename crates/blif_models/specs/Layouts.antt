-- The whole of numbered models: its covers and latches, where each name is told by the copy in which it stands.
use Rattle.std.specs.Prelude.{◌≡◌, ℕ, zero, suc, ◌+◌, ◌==◌, ◌<◌, List, [], ◌∷◌, ◌++◌, Option, Some, None, All, find, get_or, length, map, slice_get, if◌then◌else◌}
use Rattle.std.specs.Option.{option_map}
use Rattle.blif_models.specs.declared.numbered.NumberedCover.{NumberedCover}
use Rattle.blif_models.specs.declared.numbered.NumberedLatch.{NumberedLatch}
use Rattle.blif_models.specs.declared.numbered.NumberedJoin.{NumberedJoin}
use Rattle.blif_models.specs.declared.numbered.NumberedInstance.{NumberedInstance}
use Rattle.blif_models.specs.declared.numbered.Entry.{Entry}
use Rattle.blif_models.specs.declared.numbered.Entry.TheVariants as entries
use Rattle.blif_models.specs.declared.numbered.NumberedModel.{NumberedModel}
use Rattle.blif_models.specs.declared.numbered.Spot.{Spot}
use Rattle.blif_models.specs.declared.numbered.Laid.{Laid}
use Rattle.blif_models.specs.declared.numbered.Laid.TheVariants as laid

-- A cover of the whole, by spots: its line, what it reads, what it defines, and the place of its model at which it stands.
pub record PlacedCover : Type 0 where
  pub line : ℕ
  pub ins : List Spot
  pub name : Spot
  pub model : ℕ
  pub place : ℕ

-- A latch of the whole.
pub record PlacedLatch : Type 0 where
  pub line : ℕ
  pub input : Spot
  pub output : Spot

pub data Placed : Type 0 where
  covered : PlacedCover → Placed
  latched : PlacedLatch → Placed

abbrev pub spot : ℕ → ℕ → ℕ → Spot
spot copy model name = record { copy = copy; model = model; name = name }

abbrev pub no_spot : Spot
no_spot = spot 0 0 0

abbrev pub spot_at : List Spot → ℕ → Spot
spot_at spots n = get_or spots n no_spot

-- the spots of a copy's names, from this number on: a joined one has its actual's, any other its own
abbrev pub spot_by : List Spot → Spot → Option NumberedJoin → Spot
spot_by outer own None = own
spot_by outer own (Some join) = spot_at outer join.actual

abbrev pub spot_within : List Spot → ℕ → ℕ → List NumberedJoin → ℕ → Spot
spot_within outer copy model joins name = spot_by outer (spot copy model name) (find (λ join. join.formal == name) joins)

abbrev pub up_to : ℕ → List ℕ
up_to zero = []
up_to (suc n) = up_to n ++ n ∷ []

abbrev pub table_within : List Spot → ℕ → ℕ → List NumberedJoin → ℕ → List Spot
table_within outer copy model joins names = map (spot_within outer copy model joins) (up_to names)

abbrev pub no_model : NumberedModel
no_model = record { names = 0; entries = [] }

abbrev pub model_at : List NumberedModel → ℕ → NumberedModel
model_at models m = get_or models m no_model

abbrev pub cover_laid : List Spot → ℕ → ℕ → NumberedCover → Placed
cover_laid table model place cover = covered (record { line = cover.line; ins = map (spot_at table) cover.ins; name = spot_at table cover.name; model = model; place = place })

abbrev pub latch_laid : List Spot → NumberedLatch → Placed
latch_laid table latch = latched (record { line = latch.line; input = spot_at table latch.input; output = spot_at table latch.output })

-- entries with each instance put by its copy's; copies are numbered on, a copy before those inside it
abbrev pub laid_by : (ℕ → List Spot → NumberedInstance → List Placed) → (ℕ → ℕ) → List Spot → ℕ → ℕ → ℕ → List Entry → List Placed
laid_by copy inside table model copies place [] = []
laid_by copy inside table model copies place (entries.Cover cover ∷ others) = cover_laid table model place cover ∷ laid_by copy inside table model copies (place + 1) others
laid_by copy inside table model copies place (entries.Latch latch ∷ others) = latch_laid table latch ∷ laid_by copy inside table model copies (place + 1) others
laid_by copy inside table model copies place (entries.Instance instance ∷ others) =
    copy (copies + 1) table instance ++ laid_by copy inside table model (copies + 1 + inside instance.model) (place + 1) others

-- Of each model how many copies are inside one of it, and how many signals it has in all.
pub record Counted : Type 0 where
  pub copies : List ℕ
  pub signals : List ℕ

abbrev pub counted : List ℕ → List ℕ → Counted
counted copies signals = record { copies = copies; signals = signals }

abbrev pub copies_in : Counted → ℕ → ℕ
copies_in counts m = get_or counts.copies m 0

-- a model without signals has nothing that is laid out
abbrev pub unless_empty : Counted → ℕ → List Placed → List Placed
unless_empty counts m placed = if get_or counts.signals m 0 == 0 then [] else placed

-- the entries of a model through so many levels of models, from a place on, where so many copies stand before
unfoldable pub laid_within : List NumberedModel → Counted → ℕ → List Spot → ℕ → ℕ → ℕ → List Entry → List Placed
laid_within models counts zero table model copies place others = laid_by (λ number outer instance. []) (copies_in counts) table model copies place others
laid_within models counts (suc levels) table model copies place others =
    laid_by
    (λ number outer instance.
    unless_empty counts instance.model
    (laid_within models counts levels (table_within outer number instance.model instance.joins (model_at models instance.model).names) instance.model number 0
    (model_at models instance.model).entries))
    (copies_in counts) table model copies place others

-- the spots of the main model's names
abbrev pub main_table : ℕ → ℕ → List Spot
main_table main names = map (spot 0 main) (up_to names)

-- the whole of a main model
abbrev pub laid_whole : List NumberedModel → Counted → ℕ → ℕ → List Placed
laid_whole models counts levels main = laid_within models counts levels (main_table main (model_at models main).names) main 0 0 (model_at models main).entries

-- what is laid out by numbers of spots
abbrev pub placed_in : List Spot → Laid → Placed
placed_in spots (laid.Cover cover model place) = cover_laid spots model place cover
placed_in spots (laid.Latch latch) = latch_laid spots latch

-- what code keeps while it lays out

-- the number of the spot of a joined name, if it is joined
abbrev pub joined_to : List ℕ → List NumberedJoin → ℕ → Option ℕ
joined_to outer joins name = option_map (λ join. get_or outer join.actual 0) (find (λ join. join.formal == name) joins)

-- the numbers of an entry are those of names, and its model is there
abbrev pub EntryIs : List NumberedModel → ℕ → Entry → Type 0
EntryIs models names (entries.Cover cover) = All (λ n. n < names) cover.ins × (cover.name < names)
EntryIs models names (entries.Latch latch) = (latch.input < names) × (latch.output < names)
EntryIs models names (entries.Instance instance) =
    (instance.model < length models) × All (λ join. (join.actual < names) × (join.formal < (model_at models instance.model).names)) instance.joins

abbrev pub AreNumbered : List NumberedModel → Type 0
AreNumbered models = All (λ model. All (EntryIs models model.names) model.entries) models

-- each model has a higher rank than those that it holds
abbrev pub IsRanked : List NumberedModel → (ℕ → ℕ) → Type 0
IsRanked models rank = (m place : ℕ) (instance : NumberedInstance) → slice_get (model_at models m).entries place ≡ Some (entries.Instance instance) → rank instance.model < rank m

-- a table of numbers of spots, as one of spots
abbrev pub spots_of : List Spot → List ℕ → List Spot
spots_of spots numbers = map (spot_at spots) numbers

-- These spots are of one copy and of names of its model below this number, no two of one name.
pub record AreOwn (copy model names : ℕ) (spots : List Spot) : Type 0 where
  pub each : (i : ℕ) (one : Spot) → slice_get spots i ≡ Some one → (one.copy ≡ copy) × (one.model ≡ model) × (one.name < names)
  pub once : (i j : ℕ) (one other : Spot) → slice_get spots i ≡ Some one → slice_get spots j ≡ Some other → one.name ≡ other.name → i ≡ j

-- The table of a copy was made: some spots were added, all its own, and the table's numbers are those of the copy's spots.
pub record IsTable (old : List Spot) (outer : List ℕ) (copy model : ℕ) (joins : List NumberedJoin) (names : ℕ) (new : List Spot) (table : List ℕ) : Type 0 where
  pub more : List Spot
  pub grown : new ≡ old ++ more
  pub own : AreOwn copy model names more
  pub many : length table ≡ names
  pub within : All (λ n. n < length new) table
  pub spots : spots_of new table ≡ table_within (spots_of old outer) copy model joins names

-- a cover and a latch with the numbers that stand in a table
abbrev pub numbered_cover : List ℕ → NumberedCover → NumberedCover
numbered_cover table cover = record cover { ins = map (λ n. get_or table n 0) cover.ins; name = get_or table cover.name 0 }

abbrev pub numbered_latch : List ℕ → NumberedLatch → NumberedLatch
numbered_latch table latch = record latch { input = get_or table latch.input 0; output = get_or table latch.output 0 }
