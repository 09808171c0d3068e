-- Which functions are pinned, up to complement, decides what a sift leaves.
use Rattle.std.specs.Prelude.{◌≡◌, ◌<◌, ◌^◌, ◌==◌, ℕ, Bool, true, if◌then◌else◌, List, [], ◌∷◌, length, All, Contains}
use Rattle.std.specs.List.{range_with_len}
use Rattle.function_laws.specs.declared.history.Function.TheVariants.{Bdd}
use Rattle.function_laws.specs.declared.orders.Mode.TheVariants.{Default}
use Rattle.function_laws.specs.declared.orders.Order.TheVariants.{Variables}
use Rattle.function_laws.specs.Kinds.{Denoted, BddFunction, AddFunction, ZddFamily}
use Rattle.function_laws.specs.Lists.{list_of}
use Rattle.function_laws.specs.SiftEntries.{AreOne}
use Rattle.function_laws.specs.SiftedOrders.{Block, sifted}
use Rattle.function_laws.specs.Sizes.{Orders, is_one}

-- each of some functions is one with one of others
abbrev pub AllAmong : Orders → List Denoted → List Denoted → Type 0
AllAmong orders fs gs = All (λ (f : Denoted). (g : Denoted) × Contains gs g × (is_one orders f g ≡ true)) fs

-- both lists have the same functions, up to complement
abbrev pub AreAlike : Orders → List Denoted → List Denoted → Type 0
AreAlike orders fs gs = AllAmong orders fs gs × AllAmong orders gs fs

-- Where the function is a family, the elements of the order are below their number. Only then are the parts of two families one that are one
-- themselves.
abbrev pub FitsElements : List ℕ → Denoted → Type 0
FitsElements elements (BddFunction f) = Unit {0}
FitsElements elements (AddFunction f) = Unit {0}
FitsElements elements (ZddFamily p) = All (λ e. e < length elements) elements

-- all n places in one block that is sifted
abbrev pub whole_block : ℕ → List Block
whole_block n = if n == 0 then [] else record { end = n; mode = Default } ∷ []

-- the variables 0, 1, 2, .. from the top
abbrev pub rising_orders : ℕ → List ℕ → Orders
rising_orders n elements = record { variables = range_with_len 0 n; elements = elements }

-- Two lists that have the same functions are sifted alike: to one order, with one size before, one after and one number of swaps.
abbrev pub SiftsGoByFunctions : Type 0
SiftsGoByFunctions = (n : ℕ) (elements : List ℕ) (limit : ℕ) (fs gs : List Denoted) → All (FitsElements elements) fs
    → AreAlike (rising_orders n elements) fs gs
    → sifted (rising_orders n elements) Variables (whole_block n) limit fs ≡ sifted (rising_orders n elements) Variables (whole_block n) limit gs

-- Functions of the n variables are one if the lists of their values are equal, or one is the other's complement.
abbrev pub WholesAreAlike : Type 0
WholesAreAlike = (orders : Orders) (n : ℕ) (f g : ℕ → Bool) → length orders.variables ≡ n
    → AreOne (Bdd (list_of (2 ^ n) f)) (Bdd (list_of (2 ^ n) g)) → is_one orders (BddFunction f) (BddFunction g) ≡ true
