-- Where copies are counted without a cap, each model has as many inside as its instances make.
use Rattle.std.proofs.Common.{◌≡◌, ℕ, suc, ◌+◌, ◌-◌, ◌^◌, ◌<◌, ◌≤◌, Bool, true, false, List, [], ◌∷◌, get_or, length, map, nat_lt, refl, ap, arith}
use Rattle.std.specs.Prelude.{sum_by}
use Rattle.std.proofs.lemmas.Bool.Decides.{nat_tests}
use Rattle.std.proofs.lemmas.List.{get_or-map, get_or_past}
use Rattle.std.proofs.lemmas.List.Sums.{sum_by-cons}
use Rattle.blif_order.specs.Orders.{reads_of}
use Rattle.blif_models.specs.declared.numbered.Entry.{Entry}
use Rattle.blif_models.specs.declared.numbered.Entry.TheVariants as entries
use Rattle.blif_models.specs.declared.numbered.NumberedModel.{NumberedModel}
use Rattle.blif_models.specs.Arrangements.{IsArranged}
use Rattle.blif_models.specs.Expanding.{CountsAre}
use Rattle.blif_models.specs.Graphs.{capped, total_within}
use Rattle.blif_models.specs.Layouts.{model_at, no_model}
use Rattle.blif_models.specs.NumberedGraphs.{all_held, copies_of, held_by, own_of}
use Rattle.blif_models.specs.SpotsApart.{AreEnough, copies_over}
use Rattle.blif_models.proofs.NumberedGraphs.{held_of}

abbrev own_copies : Entry → ℕ
own_copies entry = (own_of entry).copies

-- what entries make, where each model has no more than so many
entries_make : (copies : List ℕ) (most : ℕ → ℕ) → ((n : ℕ) → get_or copies n 0 ≤ most n) → (es : List Entry) → copies_over copies es ≤ sum_by own_copies es + sum_by most (held_by es)
entries_make copies most low [] = omega arith
entries_make copies most low (entries.Cover cover ∷ es) = omega (arith, entries_make copies most low es, sum_by-cons own_copies (entries.Cover cover) es)
entries_make copies most low (entries.Latch latch ∷ es) = omega (arith, entries_make copies most low es, sum_by-cons own_copies (entries.Latch latch) es)
entries_make copies most low (entries.Instance instance ∷ es) =
    omega (arith, entries_make copies most low es, low instance.model, sum_by-cons own_copies (entries.Instance instance) es, sum_by-cons most instance.model (held_by es))

pub enough : (models : List NumberedModel) (order copies : List ℕ) → IsArranged models order → CountsAre models order copies_of copies → ((m : ℕ) → get_or copies m 0 < 2 ^ 64 - 1) → AreEnough models copies
unfolding total_within
enough models order copies arranged counts few m = by_cases (nat_lt m (length models)) refl
  where
    holds : List (List ℕ)
    holds = all_held models

    most : ℕ → ℕ
    most n = total_within holds (map copies_of models) (length order) n

    low : (n : ℕ) → get_or copies n 0 ≤ most n
    low n = by_test (nat_lt n (length models)) refl
      where
        by_test : (t : Bool) → nat_lt n (length models) ≡ t → get_or copies n 0 ≤ most n
        by_test true e =
            let within : n < length models = grind (arith, nat_tests) in
            let is = counts.1 (length order) n (omega arith) (arranged.each n within) in
            omega (arith, is)
        by_test false e =
            let past : length copies ≤ n = grind (arith, nat_tests, counts.0) in
            omega (arith, get_or_past copies n 0 past)

    by_cases : (t : Bool) → nat_lt m (length models) ≡ t → copies_over copies (model_at models m).entries ≤ get_or copies m 0
    by_cases false e =
        let past : length models ≤ m = grind (arith, nat_tests) in
        omega (arith, ap (λ (one : NumberedModel). copies_over copies one.entries) (get_or_past models m no_model past))
    by_cases true e =
        let within : m < length models = grind (arith, nat_tests) in
        let is : get_or copies m 0 ≡ capped (get_or (map copies_of models) m 0 + sum_by most (reads_of holds m)) = counts.1 (suc (length order)) m (omega arith) (arranged.each m within) in
        let own : get_or (map copies_of models) m 0 ≡ sum_by own_copies (model_at models m).entries = get_or-map copies_of models m no_model 0 within in
        let held : sum_by most (reads_of holds m) ≡ sum_by most (held_by (model_at models m).entries) = ap (sum_by most) (held_of models m) in
        omega (arith, is, own, held, few m, entries_make copies most low (model_at models m).entries)
