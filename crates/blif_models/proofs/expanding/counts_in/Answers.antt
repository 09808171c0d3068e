use Rattle.std.proofs.Common.{◌≡◌, ◌<◌, ◌∙◌, All, List, length, subst, sym, ap, ℕ}
use Rattle.blif_models.specs.Graphs.{AreWithin}
use Rattle.blif_models.specs.NumberedGraphs.{all_held}
use Rattle.blif_models.proofs.Arranged.{how_many, numbers_within}
use Rattle.blif_models.proofs.Composing.{order_below}
use Rattle.blif_models.proofs.expanding.counts_in.Goals as goal

pub totals_of-requires-clause-within : goal.totals_of-requires-clause-within
totals_of-requires-clause-within c =
    let models = c.args.models.now in
    let same : c.deref.result.now ≡ all_held models = c.deref.ensures.value ∙ c.in_ok-holds.ensures in
    subst (λ (ks : List (List ℕ)). AreWithin (length ks) ks) (sym same) (numbers_within models c.requires.numbered)

pub totals_of-requires-clause-order : goal.totals_of-requires-clause-order
totals_of-requires-clause-order c =
    let models = c.args.models.now in
    let same : c.deref.result.now ≡ all_held models = c.deref.ensures.value ∙ c.in_ok-holds.ensures in
    subst (λ n. All (λ m. m < n) c.args.order.now) (sym (ap length same ∙ how_many models)) (order_below models c.args.order.now c.requires.order)

pub totals_of-requires-2-clause-within : goal.totals_of-requires-2-clause-within
totals_of-requires-2-clause-within c =
    let models = c.args.models.now in
    let same : c.deref-3.result.now ≡ all_held models = c.deref-3.ensures.value ∙ c.in_ok-holds.ensures in
    subst (λ (ks : List (List ℕ)). AreWithin (length ks) ks) (sym same) (numbers_within models c.requires.numbered)

pub totals_of-requires-2-clause-order : goal.totals_of-requires-2-clause-order
totals_of-requires-2-clause-order c =
    let models = c.args.models.now in
    let same : c.deref-3.result.now ≡ all_held models = c.deref-3.ensures.value ∙ c.in_ok-holds.ensures in
    subst (λ n. All (λ m. m < n) c.args.order.now) (sym (ap length same ∙ how_many models)) (order_below models c.args.order.now c.requires.order)

pub totals_of-requires-3-clause-within : goal.totals_of-requires-3-clause-within
totals_of-requires-3-clause-within c =
    let models = c.args.models.now in
    let same : c.deref-5.result.now ≡ all_held models = c.deref-5.ensures.value ∙ c.in_ok-holds.ensures in
    subst (λ (ks : List (List ℕ)). AreWithin (length ks) ks) (sym same) (numbers_within models c.requires.numbered)

pub totals_of-requires-3-clause-order : goal.totals_of-requires-3-clause-order
totals_of-requires-3-clause-order c =
    let models = c.args.models.now in
    let same : c.deref-5.result.now ≡ all_held models = c.deref-5.ensures.value ∙ c.in_ok-holds.ensures in
    subst (λ n. All (λ m. m < n) c.args.order.now) (sym (ap length same ∙ how_many models)) (order_below models c.args.order.now c.requires.order)
