-- How many `_` a prefix needs, name by name.
use Rattle.std.specs.Prelude.{ℕ, ◌+◌, ◌==◌, not, List, [], ◌∷◌, fold, max, if◌then◌else◌}
use Rattle.std.specs.List.{position_or_len}
use Rattle.job_words.specs.Text.{Word}

-- how many `_` a name begins with
abbrev pub marks_before : Word → ℕ
marks_before bytes = position_or_len (λ b. not (b == 95)) bytes

-- with fewer `_` than these an `n` begins the name
abbrev pub marks_of : Word → ℕ
marks_of [] = 0
marks_of (first ∷ rest) = if first == 110 then 1 + marks_before rest else 0

-- the most of these numbers
abbrev pub most_marks : ℕ → List Word → ℕ
most_marks least names = fold (λ most name. max most (marks_of name)) least names
