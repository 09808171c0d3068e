use Rattle.std.proofs.Common.{List, ℕ, All, None, arith, length, sym, ap, subst, true, ◌<◌, ◌≡◌, ◌∙◌}
use Rattle.std.specs.Prelude.{find, nat_lt}
use Rattle.std.specs.List.{list_all}
use Rattle.std.specs.Option.{option_map}
use Rattle.blif_order.specs.declared.Arranged.TheVariants.{Cyclic, Ordering}
use Rattle.blif_order.specs.Orders.{ArrangedIs, IsSmall}
use Rattle.blif_models.specs.declared.cycles.Holding.{Holding}
use Rattle.blif_models.specs.Arrangements.{holdings_from, turning_in}
use Rattle.blif_models.specs.Graphs.{AreWithin, turns_back}
use Rattle.blif_models.specs.NumberedGraphs.{all_held}
use Rattle.blif_models.proofs.Arranged.{holdings_within, how_many, is_small, nothing_mapped, numbers_within, order_is_straight, some_turn}
use Rattle.blif_models.proofs.arranging.arrange_models.Goals as goal

pub arrange-requires : goal.arrange-requires
arrange-requires c =
    let models = c.args.models.now in
    let same : c.deref-2.result.now ≡ all_held models = c.deref-2.ensures.value ∙ c.in_ok-holds.ensures in
    let few : list_all (λ held. nat_lt (length held) 4294967295) (all_held models) ≡ true =
    ap (list_all (λ held. nat_lt (length held) 4294967295)) (sym (c.deref.ensures.value ∙ c.in_ok-holds.ensures)) ∙ sym c.are_few.ensures ∙ c.if-not-are_few.false in
    subst IsSmall (sym same) (is_small (all_held models) (numbers_within models c.requires) few (omega (arith, how_many models, c.in_ok-_count.ensures)))

pub returns-in-Ordering : goal.returns-in-Ordering
returns-in-Ordering c =
    let models = c.args.models.now in
    let order = c.in-Ordering.order in
    let same : c.deref-2.result.now ≡ all_held models = c.deref-2.ensures.value ∙ c.in_ok-holds.ensures in
    let told : ArrangedIs (all_held models) (Ordering order) = subst (λ (ks : List (List ℕ)). ArrangedIs ks (Ordering order)) same (subst (ArrangedIs c.deref-2.result.now) c.in-Ordering.is c.in_ok-order.ensures) in
    record {
      ordered = told.0;
      once = told.1;
      each = λ m lt. told.2 m (omega (arith, lt, how_many models));
      within = λ m e. omega (arith, told.3 m e, how_many models);
      straight = order_is_straight models order.items told.0 told.2;
    }

pub first_turning-requires-clause-by : goal.first_turning-requires-clause-by
first_turning-requires-clause-by c =
    let models = c.args.models.now in
    let same : c.deref-in-Cyclic.result.now ≡ all_held models = c.deref-in-Cyclic.ensures.value ∙ c.in_ok-holds.ensures in
    let there : c.deref-in-Cyclic-2.result.now ≡ holdings_from 0 models = c.deref-in-Cyclic-2.ensures.value ∙ c.in_ok-holdings-in-Cyclic.ensures in
    subst (λ (hs : List Holding). All (λ one. one.by < length c.deref-in-Cyclic.result.now) hs) (sym there) (subst (λ (ks : List (List ℕ)). All (λ (one : Holding). one.by < length ks) (holdings_from 0 models)) (sym same)
    (holdings_within (length (all_held models)) 0 models (omega (arith, how_many models)) (numbers_within models c.requires)).0)

pub first_turning-requires-clause-model : goal.first_turning-requires-clause-model
first_turning-requires-clause-model c =
    let models = c.args.models.now in
    let same : c.deref-in-Cyclic.result.now ≡ all_held models = c.deref-in-Cyclic.ensures.value ∙ c.in_ok-holds.ensures in
    let there : c.deref-in-Cyclic-2.result.now ≡ holdings_from 0 models = c.deref-in-Cyclic-2.ensures.value ∙ c.in_ok-holdings-in-Cyclic.ensures in
    subst (λ (hs : List Holding). All (λ one. one.model < length c.deref-in-Cyclic.result.now) hs) (sym there) (subst (λ (ks : List (List ℕ)). All (λ (one : Holding). one.model < length ks) (holdings_from 0 models)) (sym same)
    (holdings_within (length (all_held models)) 0 models (omega (arith, how_many models)) (numbers_within models c.requires)).1)

pub first_turning-requires-clause-within : goal.first_turning-requires-clause-within
first_turning-requires-clause-within c =
    let models = c.args.models.now in
    let same : c.deref-in-Cyclic.result.now ≡ all_held models = c.deref-in-Cyclic.ensures.value ∙ c.in_ok-holds.ensures in
    subst (λ (ks : List (List ℕ)). AreWithin (length ks) ks) (sym same) (numbers_within models c.requires)

pub unreachable-requires : goal.unreachable-requires
unreachable-requires c =
    let models = c.args.models.now in
    let root = c.in-Cyclic.field-0 in
    let before : c.deref-2.result.now ≡ all_held models = c.deref-2.ensures.value ∙ c.in_ok-holds.ensures in
    let same : c.deref-in-Cyclic.result.now ≡ all_held models = c.deref-in-Cyclic.ensures.value ∙ c.in_ok-holds.ensures in
    let there : c.deref-in-Cyclic-2.result.now ≡ holdings_from 0 models = c.deref-in-Cyclic-2.ensures.value ∙ c.in_ok-holdings-in-Cyclic.ensures in
    let told : ArrangedIs (all_held models) (Cyclic root) = subst (λ (ks : List (List ℕ)). ArrangedIs ks (Cyclic root)) before (subst (ArrangedIs c.deref-2.result.now) c.in-Cyclic.is c.in_ok-order.ensures) in
    let none : turning_in models ≡ None = nothing_mapped (turning_in models) ((λ j. option_map (λ one. one.line) (find (turns_back (sym same j)) (sym there j))) ∙ sym c.in_ok-line-in-Cyclic.ensures ∙ c.in_default.is) in
    some_turn models root (numbers_within models c.requires) told.0 (told.1 (length (all_held models))) none
