-- Rows that are there already, and rows that are made on the way to a cover's function and let go when they were used.
use Rattle.std.specs.Prelude.{◌≡◌, ℕ, Bool, Option, None, Some, Result}
use Rattle.function_laws.specs.declared.history.Entry.{Entry}
use Rattle.function_laws.specs.declared.history.Name.{Name}
use Rattle.net_builds.specs.Asked.{ComesBack, TakesOver}
use Rattle.net_builds.specs.declared.factors.Factor.{Factor}
use Rattle.net_builds.specs.declared.factors.Factor.TheVariants.{Given, Made}
use Rattle.net_builds.specs.declared.host.HostRefusal.{HostRefusal}
use Rattle.net_builds.specs.Products.{Replaces}
use Rattle.net_builds.specs.Standings.{Holds, IsHeld, IsLive, LetsGo, Makes, Standing}

-- the row
abbrev pub name_of : Factor → Name
name_of (Given name) = name
name_of (Made name) = name

-- the row lives
abbrev pub IsLiveFactor : Standing → Factor → Type 0
IsLiveFactor s factor = IsLive s (name_of factor)

-- the row was let go where it was made on the way, and else nothing was called
abbrev pub IsLet : Standing → Standing → Factor → Type 0
IsLet old new (Given name) = new ≡ old
IsLet old new (Made name) = LetsGo old new name

-- The row stands for the function. It was made, or was there and nothing was called.
abbrev pub Gives : Standing → Standing → Factor → (ℕ → Bool) → Type 0
Gives old new (Given name) f = (new ≡ old) × Holds old name f
Gives old new (Made name) f = Makes old new name f

-- The same in place of a row, which was let go where it was made on the way.
abbrev pub GivesFor : Standing → Standing → Factor → Factor → (ℕ → Bool) → Type 0
GivesFor old new (Given gone) factor f = Gives old new factor f
GivesFor old new (Made gone) (Given name) f = ⊥
GivesFor old new (Made gone) (Made name) f = Replaces old new gone name f

-- What a function leaves that takes a row over: where it was refused, it let that one go where it was made on the way.
abbrev pub TakesUp : {M S F X : Type 0} → (M → S → Type 0) → (S → Standing) → (M → F → Entry → Type 0) → M → S → S → Factor → Result X (HostRefusal F) → Type 0
TakesUp has standing tells manager old new (Given gone) result = ComesBack has standing tells manager old new result
TakesUp has standing tells manager old new (Made gone) result = TakesOver has standing tells manager old new gone result

-- The same where there may be no row yet, which stands for the function that is everywhere as is told here: the empty product or the empty sum.
abbrev pub HoldsIf : Bool → Standing → Option Factor → (ℕ → Bool) → Type 0
HoldsIf empty s None f = (k : ℕ) → f k ≡ empty
HoldsIf empty s (Some factor) f = Holds s (name_of factor) f

abbrev pub IsHeldIf : Standing → Option Factor → Type 0
IsHeldIf s None = Unit {0}
IsHeldIf s (Some factor) = IsHeld s (name_of factor)

abbrev pub GivesIf : Bool → Standing → Standing → Option Factor → (ℕ → Bool) → Type 0
GivesIf empty old new None f = (new ≡ old) × ((k : ℕ) → f k ≡ empty)
GivesIf empty old new (Some factor) f = Gives old new factor f

abbrev pub GivesForIf : Bool → Standing → Standing → Option Factor → Option Factor → (ℕ → Bool) → Type 0
GivesForIf empty old new None next f = GivesIf empty old new next f
GivesForIf empty old new (Some factor) None f = ⊥
GivesForIf empty old new (Some factor) (Some next) f = GivesFor old new factor next f

abbrev pub TakesUpIf : {M S F X : Type 0} → (M → S → Type 0) → (S → Standing) → (M → F → Entry → Type 0) → M → S → S → Option Factor → Result X (HostRefusal F) → Type 0
TakesUpIf has standing tells manager old new None result = ComesBack has standing tells manager old new result
TakesUpIf has standing tells manager old new (Some factor) result = TakesUp has standing tells manager old new factor result
