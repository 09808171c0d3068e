-- Ranks of models: none holds one of a higher rank.
use Rattle.std.specs.Prelude.{◌≡◌, ℕ, ◌+◌, ◌<◌, ◌≤◌, Bool, true, false, List, [], ◌∷◌, All, count_by, get_or, length, map, nat_lt, if◌then◌else◌}
use Rattle.blif_order.specs.Orders.{is_in, reads_of}
use Rattle.blif_models.specs.declared.tour.Tour.{Tour}
use Rattle.blif_models.specs.declared.tour.Turn.{Turn}
use Rattle.blif_models.specs.declared.tour.Turn.TheVariants as turns

abbrev pub rank_of : List ℕ → ℕ → ℕ
rank_of ranks m = get_or ranks m 0

abbrev pub AreRanks : List (List ℕ) → List ℕ → Type 0
AreRanks holds ranks = (m n : ℕ) → is_in (reads_of holds m) n ≡ true → rank_of ranks n ≤ rank_of ranks m

-- how many have a higher rank
abbrev pub count_above : ℕ → List ℕ → ℕ
count_above rank ranks = count_by (nat_lt rank) ranks

-- These models were given a rank, each unless it has no higher one; what was given it stands among what is left.
pub record Lowers (rank : ℕ) (ranks left models ranks' left' : List ℕ) : Type 0 where
  pub as_many : length ranks' ≡ length ranks
  pub lower : (m : ℕ) → rank_of ranks' m ≤ rank_of ranks m
  pub each : (m : ℕ) → is_in models m ≡ true → rank_of ranks' m ≤ rank
  pub steady : (m : ℕ) → is_in left' m ≡ false → rank_of ranks' m ≡ rank_of ranks m
  pub kept : (m : ℕ) → is_in left m ≡ true → is_in left' m ≡ true
  pub floor : ((m : ℕ) → is_in left m ≡ true → rank ≤ rank_of ranks m) → (m : ℕ) → is_in left' m ≡ true → rank ≤ rank_of ranks' m
  pub work : count_above rank ranks' + length left' ≤ count_above rank ranks + length left
  pub within : (count : ℕ) → All (λ m. m < count) left → All (λ m. m < count) models → All (λ m. m < count) left'

-- How far a ranking is: no model that is not left holds one of a higher rank, and none that is left has a lower rank than this.
pub record IsRanking (holds : List (List ℕ)) (rank : ℕ) (ranks left : List ℕ) : Type 0 where
  pub as_many : length ranks ≡ length holds
  pub steps : (m n : ℕ) → is_in left m ≡ false → is_in (reads_of holds m) n ≡ true → rank_of ranks n ≤ rank_of ranks m
  pub floor : (m : ℕ) → is_in left m ≡ true → rank ≤ rank_of ranks m
  pub within : All (λ m. m < length holds) left

-- what a walk over models keeps

-- the model of a turn is there
abbrev pub TurnIs : ℕ → Turn → Type 0
TurnIs count (turns.Into m) = m < count
TurnIs count (turns.Leave m) = m < count

abbrev pub into_each : List ℕ → List Turn
into_each models = map turns.Into models

-- how many turns come from the models that were not gone into, each with those next to it
abbrev pub weight_left : List (List ℕ) → List Bool → ℕ
weight_left [] met = 0
weight_left (models ∷ next) [] = 0
weight_left (models ∷ next) (was ∷ met) = (if was then 0 else length models + 1) + weight_left next met

pub record IsTourOf (next : List (List ℕ)) (met : List Bool) (to_come : List Turn) (left : List ℕ) : Type 0 where
  pub as_many : length met ≡ length next
  pub coming : All (TurnIs (length next)) to_come
  pub gone : All (λ m. m < length next) left

abbrev pub IsTour : List (List ℕ) → Tour → Type 0
IsTour next tour = IsTourOf next tour.met.items tour.turns.items tour.left.items
