-- Signals of a model that are defined twice, by number.
use Rattle.std.specs.Prelude.{ℕ, ◌==◌, nat_lt, List, [], ◌∷◌, ◌++◌, Option, Some, None, if◌then◌else◌}
use Rattle.std.specs.List.{flat_map}
use Rattle.blif_models.specs.ModelFaults.{lesser}
use Rattle.blif_formals.specs.declared.clashes.Definition.{Definition}

-- the later line of two
abbrev pub later : ℕ → ℕ → ℕ
later line other = if nat_lt line other then other else line

-- the lower one of two lines, where either may lack
abbrev pub least_of : Option ℕ → Option ℕ → Option ℕ
least_of None other = other
least_of (Some line) other = Some (lesser line other)

-- the later line of two definitions of one signal
abbrev pub clash_with : Definition → Definition → List ℕ
clash_with one other = if one.name == other.name then later one.line other.line ∷ [] else []

-- and of each two of some definitions
abbrev pub clashes : List Definition → List ℕ
clashes [] = []
clashes (one ∷ others) = flat_map (clash_with one) others ++ clashes others
