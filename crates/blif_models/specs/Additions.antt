-- What the lines of a main model add to the whole.
use Rattle.std.specs.Prelude.{ℕ, suc, ◌<◌, ◌≤◌, nat_lt, Bool, true, false, not, List, [], ◌∷◌, Option, Some, None, map}
use Rattle.blif_models.specs.declared.limits.Adding.{Adding}
use Rattle.blif_models.specs.declared.numbered.Entry.{Entry}
use Rattle.blif_models.specs.declared.numbered.Entry.TheVariants as entries

-- signals and inputs of an entry, where each model has so many signals and latches in all
abbrev pub adding_by : (ℕ → ℕ) → (ℕ → ℕ) → Entry → Adding
adding_by signals latches (entries.Cover cover) = record { line = cover.line; signals = 1; inputs = 0 }
adding_by signals latches (entries.Latch latch) = record { line = latch.line; signals = 1; inputs = 1 }
adding_by signals latches (entries.Instance instance) = record { line = instance.line; signals = signals instance.model; inputs = latches instance.model }

-- the model of an instance is one of so many
abbrev pub HoldsWithin : ℕ → Entry → Type 0
HoldsWithin count (entries.Instance instance) = instance.model < count
HoldsWithin count _ = Unit {0}

-- no line is lower than this
abbrev pub AreFrom : ℕ → List Adding → Type 0
AreFrom line [] = Unit {0}
AreFrom line (one ∷ ones) = (line ≤ one.line) × AreFrom line ones

-- each line is higher than those before it
abbrev pub AreRising : List Adding → Type 0
AreRising [] = Unit {0}
AreRising (one ∷ ones) = AreFrom (suc one.line) ones × AreRising ones

-- the one comes before the other
abbrev pub goes_first : Option Adding → Option Adding → Bool
goes_first None other = false
goes_first (Some one) None = true
goes_first (Some one) (Some other) = not (nat_lt other.line one.line)

-- the lines of entries
abbrev pub lines_of : List Entry → List Adding
lines_of others = map (adding_by (λ m. 0) (λ m. 0)) others
