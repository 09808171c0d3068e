-- What may come of a call.
use Rattle.std.specs.Prelude.{ℕ, Bool, true, false, ℤ, List, Option, Some, None}
use Rattle.function_laws.specs.declared.history.Function.{Function}
use Rattle.function_laws.specs.declared.history.Function.TheVariants.{Bdd, Add, Zdd}

-- What comes of a call that is allowed
pub data Outcome : Type 0 where
  -- a new name with this function
  makes : Function → Outcome
  -- a new name with one of the functions that restrict may answer for f and c
  restricts : List Bool → List Bool → Outcome
  -- a new name with an irredundant cover that reaches the first function and stays within the second
  covers : List Bool → List Bool → Outcome
  -- a new name with this function, from the board or not
  fetches : Function → Bool → Outcome
  -- a new name with this function, and this number
  counts : Function → ℕ → Outcome
  -- a value out of range; two functions between which there is no cover; the greatest number reached already
  overflows : Outcome
  is_apart : Outcome
  is_most : Outcome
  -- yes exactly if these are equal; yes or no; a value; ok
  compares : Function → Function → Outcome
  tells : Bool → Outcome
  shows : ℤ → Outcome
  is_done : Outcome

-- what a name stands for, where that is a function of the kind
abbrev pub as_bdd : Option Function → Option (List Bool)
as_bdd (Some (Bdd f)) = Some f
as_bdd _ = None

abbrev pub as_add : Option Function → Option (List ℤ)
as_add (Some (Add f)) = Some f
as_add _ = None

abbrev pub as_zdd : Option Function → Option (List Bool)
as_zdd (Some (Zdd p)) = Some p
as_zdd _ = None

module _ {X : Type 0} where
  abbrev pub with_one : Option X → (X → Outcome) → Option Outcome
  with_one (Some x) f = Some (f x)
  with_one None f = None

  abbrev pub when : Bool → Option X → Option X
  when true o = o
  when false o = None

abbrev pub with_two : {X Y : Type 0} → Option X → Option Y → (X → Y → Outcome) → Option Outcome
with_two (Some x) o f = with_one o (f x)
with_two None o f = None

abbrev pub with_three : {X Y Z : Type 0} → Option X → Option Y → Option Z → (X → Y → Z → Outcome) → Option Outcome
with_three (Some x) o p f = with_two o p (f x)
with_three None o p f = None

-- a result in range, or overflow
abbrev pub in_range : Option (List ℤ) → Outcome
in_range (Some f) = makes (Add f)
in_range None = overflows
