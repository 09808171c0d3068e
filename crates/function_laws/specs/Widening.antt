-- Functions that were noted when there were fewer variables or elements, as they stand in a later table.
use Rattle.std.specs.Prelude.{◌≡◌, ℕ, ◌^◌, ◌≤◌, ◌%◌, length, Option, option_map}
use Rattle.function_laws.specs.declared.history.Name.{Name}
use Rattle.function_laws.specs.declared.history.Function.{Function}
use Rattle.function_laws.specs.declared.history.Function.TheVariants.{Bdd, Add, Zdd}
use Rattle.function_laws.specs.Lists.{list_of, truth, whole}
use Rattle.function_laws.specs.Tables.{Sizes}

-- a list of 2 ^ i values, followed by itself up to 2 ^ n values; of a family, followed by falses
abbrev pub at_sizes : Sizes → Function → Function
at_sizes z (Bdd f) = Bdd (list_of (2 ^ z.variables) (λ k. truth f (k % length f)))
at_sizes z (Add f) = Add (list_of (2 ^ z.variables) (λ k. whole f (k % length f)))
at_sizes z (Zdd p) = Zdd (list_of (2 ^ z.elements) (truth p))

-- the function is of at most so many variables and elements: its list has 2 ^ i values
abbrev pub IsNotedAt : Sizes → Function → Type 0
IsNotedAt z (Bdd f) = (i : ℕ) × (i ≤ z.variables) × (length f ≡ 2 ^ i)
IsNotedAt z (Add f) = (i : ℕ) × (i ≤ z.variables) × (length f ≡ 2 ^ i)
IsNotedAt z (Zdd p) = (i : ℕ) × (i ≤ z.elements) × (length p ≡ 2 ^ i)

-- names that were noted when there were fewer, as the table has them
abbrev pub AgreesAt : Sizes → (Name → Option Function) → (Name → Option Function) → Type 0
AgreesAt z noted live = (name : Name) → live name ≡ option_map (at_sizes z) (noted name)
