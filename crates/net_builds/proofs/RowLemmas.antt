-- The rows of a cover's signals.
use Rattle.std.proofs.Common.{◌≡◌, ℕ, ◌<◌, ◌^◌, Bool, false, List, length, get_or, Option, Some, sym, ap, subst, ◌∙◌}
use Rattle.std.specs.Prelude.{slice_get}
use Rattle.function_laws.specs.declared.history.Function.{Function}
use Rattle.function_laws.specs.declared.history.Function.TheVariants.{Bdd}
use Rattle.function_laws.specs.declared.history.Name.{Name}
use Rattle.function_laws.specs.Lists.{truth}
use Rattle.function_laws.proofs.ListLemmas.{list_of-same, truth-list_of}
use Rattle.net_builds.specs.Signals.{HaveRows, HaveValues}
use Rattle.net_builds.specs.Standings.{Holds, Makes, Standing}
use Rattle.net_builds.proofs.StandingLemmas.{kept_holds}

-- the function whose values a list has, and that of a row
abbrev truths : Option Function → ℕ → Bool
truths (Some (Bdd values)) k = truth values k
truths _ k = false

abbrev of_row : Standing → Option (Option Name) → ℕ → Bool
of_row s (Some (Some name)) = truths (s.stands name)
of_row s _ = λ k. false

holds_truths : (s : Standing) (name : Name) (f : ℕ → Bool) → Holds s name f → Holds s name (truths (s.stands name))
holds_truths s name f holds = record {
  stands = holds.stands ∙ ap (λ values. Some (Bdd values)) (sym (list_of-same (2 ^ s.vars) (truths (s.stands name)) f
      (λ k below. ap (λ o. truths o k) holds.stands ∙ truth-list_of (2 ^ s.vars) k f below)));
  given = holds.given;
}

-- signals that have rows have values
pub some_values : (s : Standing) (rows : List (Option Name)) (signals : List ℕ) → HaveRows s rows signals → (values : ℕ → ℕ → Bool) × HaveValues s rows values signals
some_values s rows signals have = (
  (λ signal. of_row s (slice_get rows signal)),
  (λ k d below. let h = have k d below in
      (h.0, h.1, subst (λ o. Holds s h.0 (of_row s o)) (sym h.1) (holds_truths s h.0 h.2.0 h.2.1))),
)

-- the row that was found stands for its signal's value
pub row_holds : (s : Standing) (rows : List (Option Name)) (signals : List ℕ) (values : ℕ → ℕ → Bool) (at : ℕ) (row : Name)
    → HaveValues s rows values signals → at < length signals → slice_get rows (get_or signals at 0) ≡ Some (Some row) → Holds s row (values (get_or signals at 0))
row_holds s rows signals values at row have below is =
    let h = have at 0 below in
    let same : h.0 ≡ row = cc (h.1, is) in
    subst (λ name. Holds s name (values (get_or signals at 0))) same h.2

-- after a row was made they have their rows and values
pub rows_later : (old new : Standing) (rows : List (Option Name)) (signals : List ℕ) (name : Name) (f : ℕ → Bool) → Makes old new name f → HaveRows old rows signals → HaveRows new rows signals
rows_later old new rows signals name f makes have = λ k d below.
    let h = have k d below in
    (h.0, h.1, (h.2.0, kept_holds old new name h.0 f h.2.0 makes h.2.1))

pub values_later : (old new : Standing) (rows : List (Option Name)) (signals : List ℕ) (values : ℕ → ℕ → Bool) (name : Name) (f : ℕ → Bool)
    → Makes old new name f → HaveValues old rows values signals → HaveValues new rows values signals
values_later old new rows signals values name f makes have = λ k d below.
    let h = have k d below in
    (h.0, h.1, kept_holds old new name h.0 f (values (get_or signals k d)) makes h.2)
