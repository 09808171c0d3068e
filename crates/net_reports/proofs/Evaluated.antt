-- What was evaluated is told by its patterns.
use Rattle.std.proofs.Common.{◌≡◌, ℕ, suc, Bool, List, [], ◌∷◌, map, refl, ap, ◌∙◌, arith}
use Rattle.net_reports.specs.Classes.{Function}
use Rattle.net_reports.specs.Evaluations.{AreValues, evaluation_at, patterns_of, values_at}
use Rattle.net_reports.specs.declared.patterns.Evaluation.{Evaluation}

pub evaluated : (n : ℕ) (functions : List Function) (evaluations : List Evaluation) → AreValues n functions evaluations
    → evaluations ≡ map (evaluation_at n functions) (patterns_of evaluations)
evaluated n functions [] are = refl
evaluated n functions (one ∷ rest) are =
    let here : one.values ≡ values_at n functions one.pattern = are 0 one (omega arith) in
    let with_values : List Bool → List Evaluation = λ values. record { pattern = one.pattern; values = values } ∷ rest in
    ap with_values here ∙ ap (λ (others : List Evaluation). evaluation_at n functions one.pattern ∷ others) (evaluated n functions rest (λ i d inside. are (suc i) d (omega (arith, inside))))
