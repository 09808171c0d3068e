-- Sets of numbers as bits, in layers.
use Rattle.std.specs.Prelude.{◌≡◌, ◌≢◌, ℕ, ◌*◌, ◌/◌, ◌%◌, ◌<◌, ◌≤◌, ◌^◌, ◌==◌, ◌||◌, Bool, true, false, not, List, length, slice_index, Option, Some, None}
use Rattle.std.specs.Int.{bit_at}

-- the bit of a number, among words of 64
abbrev pub is_in : List ℕ → ℕ → Bool
is_in bits place = bit_at (slice_index bits (place / 64)) (place % 64) == 1

-- a word has a bit
abbrev pub has_some : List ℕ → ℕ → Bool
has_some bits word = not (slice_index bits word == 0)

-- the least number from this one on that passes, or none
abbrev pub IsNext : (ℕ → Bool) → ℕ → Option ℕ → Type 0
IsNext passes from (Some place) = (from ≤ place) × (passes place ≡ true) × ((q : ℕ) → from ≤ q → q < place → passes q ≡ false)
IsNext passes from None = (q : ℕ) → from ≤ q → passes q ≡ false

-- the same of the numbers whose bits stand in one word with it
abbrev pub IsNextInWord : List ℕ → ℕ → Option ℕ → Type 0
IsNextInWord bits from (Some place) = IsNext (is_in bits) from (Some place) × (place / 64 ≡ from / 64)
IsNextInWord bits from None = (q : ℕ) → from ≤ q → q / 64 ≡ from / 64 → is_in bits q ≡ false

-- the upper layer has a bit for each word of the lower one that has some
abbrev pub IsSummary : List ℕ → List ℕ → Type 0
IsSummary lower upper = (w : ℕ) → is_in upper w ≡ has_some lower w

-- a set of numbers below a limit
pub record Members : Type 0 where
  pub limit : ℕ
  pub bits : List ℕ

abbrev pub has : Members → ℕ → Bool
has set slot = is_in set.bits slot

-- three layers with room for so many numbers
pub record AreLayers (limit : ℕ) (slots words blocks : List ℕ) : Type 0 where
  pub words_sum_up : IsSummary slots words
  pub blocks_sum_up : IsSummary words blocks
  pub room : limit ≤ 64 * length slots
  pub room_above : length slots ≤ 64 * length words
  pub room_on_top : length words ≤ 64 * length blocks
  pub below : (s : ℕ) → is_in slots s ≡ true → s < limit
  pub few : length slots ≤ 2 ^ 18
  pub few_above : length words ≤ 2 ^ 18
  pub few_on_top : length blocks ≤ 2 ^ 18

-- the slots with a node of one variable; or of no variable, and none
pub record Gathered : Type 0 where
  pub variable : Option ℕ
  pub slots : Members

-- whether both are a variable, and the same
abbrev pub is_same : Option ℕ → Option ℕ → Bool
is_same (Some v) (Some u) = v == u
is_same (Some v) None = false
is_same None u = false

-- whether the slots of a variable are gathered, in one of two sets
abbrev pub is_gathered : Gathered → Gathered → ℕ → Bool
is_gathered older newer v = is_same older.variable (Some v) || is_same newer.variable (Some v)

-- a slot is one of them from now on, as it has a node of this variable, or none
pub record IsPut (slot : ℕ) (now : Option ℕ) (old new : Gathered) : Type 0 where
  pub here : has new.slots slot ≡ is_same old.variable now
  pub others : (s : ℕ) → s ≢ slot → has new.slots s ≡ has old.slots s
  pub variable : new.variable ≡ old.variable
  pub limit : new.slots.limit ≡ old.slots.limit
