-- What is read of the functions of names.
use Rattle.std.specs.Prelude.{◌≡◌, ℕ, Bool, false, List, Option, Some, map}
use Rattle.function_laws.specs.declared.history.Function.{Function}
use Rattle.function_laws.specs.declared.history.Function.TheVariants.{Bdd}
use Rattle.function_laws.specs.declared.history.Name.{Name}
use Rattle.function_laws.specs.Lists.{truth}
use Rattle.net_reports.specs.Classes.{AreClasses}
use Rattle.net_reports.specs.Evaluations.{assignment}
use Rattle.net_reports.specs.declared.classes.Class.{Class}
use Rattle.net_reports.specs.declared.patterns.Evaluation.{Evaluation}
use Rattle.net_builds.specs.Standings.{Standing, values_of}

-- the value at assignment k of what a name stands for, where that is a function of truth values
abbrev pub value_in : ℕ → Option Function → Bool
value_in k (Some (Bdd f)) = truth f k
value_in k _ = false

-- the values of what some names stand for, in their order
abbrev pub values_in : Standing → List Name → ℕ → List Bool
values_in s names k = map (λ name. value_in k (s.stands name)) names

-- a pattern, and the values there of what the names stand for
abbrev pub evaluation_in : Standing → List Name → List Bool → Evaluation
evaluation_in s names pattern = record { pattern = pattern; values = values_in s names (assignment s.vars pattern) }

-- the names stand for functions of the variables, whose classes these are
pub record AreClassed (s : Standing) (names : List Name) (classes : List Class) : Type 0 where
  pub functions : List (ℕ → Bool)
  pub stand : map s.stands names ≡ map (values_of s.vars) functions
  pub are : AreClasses s.vars functions classes
