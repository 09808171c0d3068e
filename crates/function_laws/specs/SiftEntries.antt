-- What the entry of a sift carries: both orders, and the functions that it pinned.
use Rattle.std.specs.Prelude.{◌≡◌, ◌⊎◌, ℕ, List, [], ◌∷◌, Some}
use Rattle.function_laws.specs.declared.history.Name.{Name}
use Rattle.function_laws.specs.declared.history.Function.{Function}
use Rattle.function_laws.specs.declared.history.Function.TheVariants.{Bdd}
use Rattle.function_laws.specs.declared.history.Sifting.{Sifting}
use Rattle.function_laws.specs.declared.history.Call.{Call}
use Rattle.function_laws.specs.declared.history.Call.TheVariants.{Sift, SiftElements}
use Rattle.function_laws.specs.declared.history.Entry.{Entry}
use Rattle.function_laws.specs.Functions.{not_of}
use Rattle.function_laws.specs.SessionEntries.{Each}
use Rattle.function_laws.specs.Sizes.{Orders}
use Rattle.function_laws.specs.Tables.{Table}

-- one node denotes both: they are equal, or of two BDDs one is the other's complement
abbrev pub AreOne : Function → Function → Type 0
AreOne (Bdd f) (Bdd g) = (f ≡ g) ⊎ (f ≡ not_of g)
AreOne f g = f ≡ g

-- no two of the list are one
abbrev pub AreApart : List Function → Type 0
AreApart [] = Unit {0}
AreApart (f ∷ fs) = Each (λ (g : Function). AreOne f g → ⊥) fs × AreApart fs

-- some function of the list is one with it
abbrev pub IsAmong : List Function → Function → Type 0
IsAmong [] f = ⊥
IsAmong (g ∷ gs) f = AreOne g f ⊎ IsAmong gs f

-- a row, or a cell, that the table has, has the function
abbrev pub IsOfRow : Table → Function → Type 0
IsOfRow t f = (s : ℕ) × (name : Name) × (g : Function) × (t.live s name ≡ Some g) × AreOne f g

abbrev pub IsOfCell : Table → Function → Type 0
IsOfCell t f = (i : ℕ) × (g : Function) × (t.cells i ≡ Some g) × AreOne f g

-- What a sift of the session found, where the table and the orders are these: both orders; functions of which no two are one, each of a
-- row or a cell; and among them those of all names of the session.
pub record IsSiftOf (t : Table) (orders : Orders) (s : ℕ) (told : Sifting) : Type 0 where
  pub variables_are : told.variables ≡ orders.variables
  pub elements_are : told.elements ≡ orders.elements
  pub apart : AreApart told.functions
  pub of_table : Each (λ (f : Function). IsOfRow t f ⊎ IsOfCell t f) told.functions
  pub own : (name : Name) (f : Function) → t.live s name ≡ Some f → IsAmong told.functions f

-- a call of the session carries what it found, if it is a sift
abbrev pub CarriesCall : Table → Orders → ℕ → Call → Type 0
CarriesCall t orders s (Sift told) = IsSiftOf t orders s told
CarriesCall t orders s (SiftElements told) = IsSiftOf t orders s told
CarriesCall t orders s _ = Unit {0}

abbrev pub Carries : Table → Orders → Entry → Type 0
Carries t orders e = CarriesCall t orders e.session e.call
