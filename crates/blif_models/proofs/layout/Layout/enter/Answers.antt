use Rattle.std.proofs.Common.{arith, ap, sym, ◌∙◌, ◌≡◌, ◌<◌, ◌+◌, ◌++◌, ◌∷◌, [], List, get_or, length}
use Rattle.blif_models.specs.declared.layout.Frame.{Frame}
use Rattle.std.proofs.lemmas.List.{get_or_read}
use Rattle.blif_models.specs.declared.layout.Layout.{Layout}
use Rattle.blif_models.specs.declared.numbered.NumberedModel.{NumberedModel}
use Rattle.blif_models.specs.Layouts.{copies_in, counted, model_at, no_model}
use Rattle.blif_models.proofs.GoingOn.{goes_open, goes_skip, number_is, number_is_not, table_moved}
use Rattle.blif_models.proofs.layout.Layout.enter.Goals as goal

pub returns-then-signals-model-eq0 : goal.returns-then-signals-model-eq0
returns-then-signals-model-eq0 c =
    let old = c.args.self.now in
    let counts = counted c.args.copies.now c.args.signals.now in
    let model = c.args.instance.now.model in
    let within : model < length c.args.models.now = c.requires.entry.0 in
    let behind : c.in_ok-behind.behind ≡ c.args.frame.copies + 1 + copies_in counts model = omega (arith, c.in_ok-behind.ensures, c.in_ok-copy.ensures) in
    goes_skip c.args.models.now counts old c.go_on.new.self c.args.frame c.args.instance.now c.in_ok-behind.behind c.requires.next (number_is (get_or c.args.signals.now model 0) c.if-signals-model-eq0.true) behind
    (ap (λ v. v.items) c.in_ok-go_on.ensures.spots) (ap (λ v. v.items) c.in_ok-go_on.ensures.laid) c.in_ok-go_on.ensures.stack

pub returns : goal.returns
returns c =
    let old = c.args.self.now in
    let counts = counted c.args.copies.now c.args.signals.now in
    let model = c.args.instance.now.model in
    let within : model < length c.args.models.now = c.requires.entry.0 in
    let behind : c.in_ok-behind.behind ≡ c.args.frame.copies + 1 + copies_in counts model = omega (arith, c.in_ok-behind.ensures, c.in_ok-copy.ensures) in
    let new : Layout = record { spots = c.go_on-2.new.self.spots; laid = c.go_on-2.new.self.laid; stack = c.push.new.self } in
    let names : (get_or c.args.models.now model c.index-models-model.result).names ≡ (model_at c.args.models.now model).names = ap (λ (one : NumberedModel). one.names) (sym c.index-models-model.is ∙ get_or_read c.args.models.now model c.index-models-model.result within c.index-models-model.is no_model) in
    goes_open c.args.models.now counts old new c.args.frame c.args.instance.now c.in_ok-behind.behind c.in_ok-copy.copy c.in_ok-table.table c.requires.next (number_is_not (get_or c.args.signals.now model 0) c.if-signals-model-eq0.false) within behind c.in_ok-copy.ensures
    (table_moved old.spots.items c.deref.result.now c.args.frame.table.items c.in_ok-copy.copy model c.as_slice-joins.result.now c.args.instance.now.joins (get_or c.args.models.now model c.index-models-model.result).names (model_at c.args.models.now model).names c.new_table.new.spots.items new.spots.items c.in_ok-table.table.items
    c.deref.ensures.value c.as_slice-joins.ensures names (sym (ap (λ v. v.items) c.in_ok-go_on-2.ensures.spots)) c.in_ok-table.ensures)
    (ap (λ v. v.items) c.in_ok-go_on-2.ensures.laid) (c.in_ok-push.ensures.items ∙ ap (λ (xs : List Frame). xs ++ record { model = model; next = 0; copies = c.in_ok-copy.copy; table = c.in_ok-table.table } ∷ []) c.in_ok-go_on-2.ensures.stack)
