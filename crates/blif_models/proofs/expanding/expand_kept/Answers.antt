use Rattle.std.proofs.Common.{◌≡◌, ◌∙◌, ◌<◌, List, arith, get_or, length, nat_lt, subst, sym, ap, true, ℕ}
use Rattle.std.specs.List.{list_all}
use Rattle.blif_models.specs.declared.numbered.Entry.{Entry}
use Rattle.blif_models.specs.declared.numbered.NumberedModel.{NumberedModel}
use Rattle.blif_models.specs.Additions.{AreRising, lines_of}
use Rattle.blif_models.specs.Arrangements.{ArrangementIs, IsArranged}
use Rattle.blif_models.specs.Expanding.{AreCounts}
use Rattle.blif_models.specs.Layouts.{counted, laid_whole, model_at, no_model}
use Rattle.blif_models.specs.Orderings.{place_in}
use Rattle.blif_models.specs.SpotsApart.{AreEnough}
use Rattle.blif_models.proofs.EnoughCopies.{enough}
use Rattle.blif_models.proofs.Composing.{all_lower, any_default, limit_told, place_low, places_ranked, rising_alike}
use Rattle.blif_models.proofs.expanding.expand_kept.Goals as goal

pub limit_line-requires-clause-entries : goal.limit_line-requires-clause-entries
limit_line-requires-clause-entries c =
    let models = c.args.models.now in
    let main = c.args.main in
    let there : c.as_slice-entries.result.now ≡ (model_at models main).entries = c.as_slice-entries.ensures ∙ ap (λ (one : NumberedModel). one.entries) (any_default models main c.index-models-main.result no_model c.requires.main) in
    rising_alike (λ m. 0) (λ m. 0) (λ m. get_or c.deref-2.result.now m 0) (λ m. get_or c.deref-3.result.now m 0) c.as_slice-entries.result.now (subst (λ (es : List Entry). AreRising (lines_of es)) (sym there) c.requires.entries)

pub returns-in-Some : goal.returns-in-Some
returns-in-Some c =
    let models = c.args.models.now in
    let main = c.args.main in
    let inputs = c.args.inputs.now in
    let order = c.in-Ordered.order.items in
    let counts = c.in_ok-counts.counts in
    let arranged : IsArranged models order = subst (ArrangementIs models) c.in-Ordered.is c.in_ok-line.ensures in
    let told : AreCounts models order counts = subst (λ (ms : List ℕ). AreCounts models ms counts) c.deref.ensures.value c.in_ok-counts.ensures in
    let there : c.as_slice-entries.result.now ≡ (model_at models main).entries = c.as_slice-entries.ensures ∙ ap (λ (one : NumberedModel). one.entries) (any_default models main c.index-models-main.result no_model c.requires.main) in
    let limit = limit_told models order main inputs counts c.deref-2.result.now c.deref-3.result.now c.as_slice-entries.result.now c.in_ok-line-2.field-0 arranged told c.requires.main c.requires.numbered c.deref-2.ensures.value c.deref-3.ensures.value there c.in_ok-line-2.ensures in
    (order, arranged, sym limit ∙ c.in-Some.is)

pub lay_out-requires-clause-ranked : goal.lay_out-requires-clause-ranked
lay_out-requires-clause-ranked c =
    let models = c.args.models.now in
    let order = c.in-Ordered.order.items in
    let arranged : IsArranged models order = subst (ArrangementIs models) c.in-Ordered.is c.in_ok-line.ensures in
    (place_in order, places_ranked models order arranged, place_low models order c.args.main arranged)

pub returns : goal.returns
returns c =
    let models = c.args.models.now in
    let main = c.args.main in
    let inputs = c.args.inputs.now in
    let order = c.in-Ordered.order.items in
    let counts = c.in_ok-counts.counts in
    let arranged : IsArranged models order = subst (ArrangementIs models) c.in-Ordered.is c.in_ok-line.ensures in
    let told : AreCounts models order counts = subst (λ (ms : List ℕ). AreCounts models ms counts) c.deref.ensures.value c.in_ok-counts.ensures in
    let there : c.as_slice-entries.result.now ≡ (model_at models main).entries = c.as_slice-entries.ensures ∙ ap (λ (one : NumberedModel). one.entries) (any_default models main c.index-models-main.result no_model c.requires.main) in
    let limit = limit_told models order main inputs counts c.deref-2.result.now c.deref-3.result.now c.as_slice-entries.result.now c.in_ok-line-2.field-0 arranged told c.requires.main c.requires.numbered c.deref-2.ensures.value c.deref-3.ensures.value there c.in_ok-line-2.ensures in
    let lower : list_all (λ n. nat_lt n 18446744073709551615) counts.copies.items ≡ true = ap (list_all (λ n. nat_lt n 18446744073709551615)) (sym c.deref-4.ensures.value) ∙ sym c.are_lower.ensures ∙ c.if-not-are_lower.false in
    let few : (m : ℕ) → get_or counts.copies.items m 0 < 18446744073709551615 = all_lower 18446744073709551615 counts.copies.items (omega arith) lower in
    let apart = c.in_ok-whole.ensures.apart (subst (AreEnough models) (sym c.deref-5.ensures.value) (enough models order counts.copies.items arranged told.of_copies few)) in (
      sym limit ∙ c.in_default.is,
      record {
        order = order;
        copies = counts.copies.items;
        signals = counts.signals.items;
        arranged = arranged;
        of_copies = told.of_copies;
        of_signals = told.of_signals;
        few = few;
        whole_is = c.in_ok-whole.ensures.whole ∙ (λ j. laid_whole models (counted (c.deref-5.ensures.value j) (c.deref-6.ensures.value j)) (length models) main);
        within = c.in_ok-whole.ensures.within;
        own_names = c.in_ok-whole.ensures.main;
        one_spot = apart.0;
        named = apart.1;
      },
    )
