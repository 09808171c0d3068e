-- Patterns, and the values of functions at them.
use Rattle.std.specs.Prelude.{◌≡◌, ℕ, Bool, List, map, take, All}
use Rattle.function_laws.specs.Values.{assignment_of}
use Rattle.net_reports.specs.Classes.{Function}
use Rattle.net_reports.specs.declared.patterns.Evaluation.{Evaluation}

-- the assignment of a pattern: input i takes bit i, inputs past its end are 0, further bits have no effect
abbrev pub assignment : ℕ → List Bool → ℕ
assignment n pattern = assignment_of (take n pattern)

-- the value of each function at a pattern
abbrev pub values_at : ℕ → List Function → List Bool → List Bool
values_at n functions pattern = map (λ f. f (assignment n pattern)) functions

-- a pattern with the values of these functions
abbrev pub evaluation_at : ℕ → List Function → List Bool → Evaluation
evaluation_at n functions pattern = record { pattern = pattern; values = values_at n functions pattern }

-- each pattern has the values of these functions
abbrev pub AreValues : ℕ → List Function → List Evaluation → Type 0
AreValues n functions evaluations = All (λ one. one.values ≡ values_at n functions one.pattern) evaluations

abbrev pub patterns_of : List Evaluation → List (List Bool)
patterns_of evaluations = map (λ one. one.pattern) evaluations
