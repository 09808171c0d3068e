-- Models by number: for each model the numbers of those that it holds, in the order of its lines.
use Rattle.std.specs.Prelude.{◌≡◌, ℕ, zero, suc, ◌+◌, ◌-◌, ◌^◌, ◌==◌, ◌<◌, ◌≤◌, ◌||◌, ◌⊎◌, min, Bool, true, false, List, All, length, get_or, sum_by, count_by}
use Rattle.std.specs.List.{list_any}
use Rattle.blif_models.specs.declared.cycles.Holding.{Holding}
use Rattle.blif_order.specs.Orders.{is_in, reads_of}

-- what a model has in all: its own, and what each one has that it holds, through so many levels of models
unfoldable pub total_within : List (List ℕ) → List ℕ → ℕ → ℕ → ℕ
total_within holds own zero m = get_or own m 0
total_within holds own (suc levels) m = get_or own m 0 + sum_by (total_within holds own levels) (reads_of holds m)

-- a number as one of 64 bits, of which the greatest stands for all from there on
abbrev pub capped : ℕ → ℕ
capped n = min n (2 ^ 64 - 1)

-- for each model of the order, what it has in all, through however many levels from the length of the order on
abbrev pub AreTotals : List (List ℕ) → List ℕ → List ℕ → List ℕ → Type 0
AreTotals holds own order totals =
    (levels m : ℕ) → length order ≤ levels → is_in order m ≡ true → get_or totals m 0 ≡ capped (total_within holds own levels m)

-- a model is another one, or holds it through so many levels at most
unfoldable pub is_reached : List (List ℕ) → ℕ → ℕ → ℕ → Bool
is_reached holds zero from m = from == m
is_reached holds (suc levels) from m = from == m || list_any (λ next. is_reached holds levels next m) (reads_of holds from)

-- the numbers are models'
abbrev pub AreWithin : ℕ → List (List ℕ) → Type 0
AreWithin count holds = All (λ held. All (λ m. m < count) held) holds

-- the model was met
abbrev pub is_met : List Bool → ℕ → Bool
is_met met m = get_or met m false

-- how many were met
abbrev pub met_count : List Bool → ℕ
met_count met = count_by (λ b. b) met

-- what was met is reached through fewer levels than were met
abbrev pub IsSound : List (List ℕ) → ℕ → List Bool → Type 0
IsSound holds from met = (m : ℕ) → is_met met m ≡ true → is_reached holds (met_count met - 1) from m ≡ true

-- The search met these models too; those that are new stand among what is left.
pub record Meets (met : List Bool) (left held : List ℕ) (met' : List Bool) (left' : List ℕ) : Type 0 where
  pub as_many : length met' ≡ length met
  pub stays : (m : ℕ) → is_met met m ≡ true → is_met met' m ≡ true
  pub kept : (m : ℕ) → is_in left m ≡ true → is_in left' m ≡ true
  pub added : (m : ℕ) → is_met met' m ≡ true → is_met met m ≡ false → is_in left' m ≡ true
  pub origin : (m : ℕ) → is_in left' m ≡ true → (is_in left m ≡ true) ⊎ (is_met met' m ≡ true)
  pub each : (m : ℕ) → is_in held m ≡ true → is_met met' m ≡ true
  pub more : met_count met ≤ met_count met'
  pub work : met_count met' + length left ≡ met_count met + length left'
  pub within : (count : ℕ) → All (λ m. m < count) left → All (λ m. m < count) held → All (λ m. m < count) left'
  pub sound : (holds : List (List ℕ)) (from levels : ℕ) → levels ≤ met_count met → IsSound holds from met → ((m : ℕ) → is_in held m ≡ true → is_reached holds levels from m ≡ true) → IsSound holds from met'

-- How far a search is: what was met, and whose models were gone through but of those that are left.
pub record IsSearch (holds : List (List ℕ)) (from : ℕ) (met : List Bool) (left : List ℕ) : Type 0 where
  pub as_many : length met ≡ length holds
  pub start : is_met met from ≡ true
  pub closed : (m c : ℕ) → is_met met m ≡ true → is_in left m ≡ false → is_in (reads_of holds m) c ≡ true → is_met met c ≡ true
  pub within : All (λ m. m < length holds) left
  pub left_met : (m : ℕ) → is_in left m ≡ true → is_met met m ≡ true
  pub sound : IsSound holds from met

-- for each model, whether it is reached from this one: through as many levels as there are models, and so through any number
pub record AreReached (holds : List (List ℕ)) (from : ℕ) (met : List Bool) : Type 0 where
  pub as_many : length met ≡ length holds
  pub reached : (m : ℕ) → is_met met m ≡ is_reached holds (length holds) from m
  pub however_far : (levels m : ℕ) → is_reached holds levels from m ≡ true → is_met met m ≡ true

-- the model of this instance reaches the model in which it stands
abbrev pub turns_back : List (List ℕ) → Holding → Bool
turns_back holds one = is_reached holds (length holds) one.model one.by
