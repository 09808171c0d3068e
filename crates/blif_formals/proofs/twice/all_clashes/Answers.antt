use Rattle.std.proofs.Common.{◌≡◌, ◌<◌, ◌+◌, ◌++◌, ◌∷◌, [], All, List, get_or, length, ap, subst, sym, ◌∙◌, add-one}
use Rattle.std.specs.List.{flat_map}
use Rattle.std.proofs.lemmas.List.{get_or_default, map-append}
use Rattle.std.proofs.lemmas.List.Elements.{All-append}
use Rattle.blif_models.specs.declared.numbered.NumberedModel.{NumberedModel}
use Rattle.blif_models.specs.Layouts.{model_at, no_model, up_to}
use Rattle.blif_models.specs.ModelFaults.{least}
use Rattle.blif_formals.specs.declared.clashes.Definition.{Definition}
use Rattle.blif_formals.specs.Clashes.{clashes}
use Rattle.blif_formals.specs.Definitions.{definitions_by}
use Rattle.blif_formals.specs.Twice.{clash_first, clash_firsts, definitions_in}
use Rattle.blif_formals.proofs.DefinedTwice.{all_define}
use Rattle.blif_formals.proofs.twice.all_clashes.Goals as goal

pub clash_in-requires-clause-names : goal.clash_in-requires-clause-names
clash_in-requires-clause-names c =
    let interfaces = c.args.interfaces.now in
    let models = c.args.models.now in
    let m = c.loop-model.model in
    let lt = c.loop-model-test.true in
    let low : m < length c.args.inputs.now = subst (λ n. m < n) (sym c.requires.inputs_many) lt in
    let model : c.index-models-model.result ≡ model_at models m = c.index-models-model.is ∙ get_or_default models m c.index-models-model.result no_model lt in
    let own : c.as_slice-own.result.now ≡ get_or c.args.inputs.now m [] = c.as_slice-own.ensures ∙ c.index-inputs-model.is ∙ get_or_default c.args.inputs.now m c.index-inputs-model.result [] low in
    let names = (model_at models m).names in
    let all = All-append (λ (one : Definition). one.name < names) (get_or c.args.inputs.now m []) (flat_map (definitions_by interfaces) (model_at models m).entries) (c.requires.names m lt)
    (all_define interfaces models c.requires.interfaces_many c.requires.ports names (model_at models m).entries (c.requires.numbered m no_model lt)) in
    subst (λ (ones : List Definition). All (λ one. one.name < c.index-models-model.result.names) (definitions_in interfaces ones c.index-models-model.result)) (sym own)
    (subst (λ (of : NumberedModel). All (λ one. one.name < of.names) (definitions_in interfaces (get_or c.args.inputs.now m []) of)) (sym model) all)

pub loop-model-preserved : goal.loop-model-preserved
loop-model-preserved c =
    let interfaces = c.args.interfaces.now in
    let inputs = c.args.inputs.now in
    let models = c.args.models.now in
    let m = c.loop-model.model in
    let lt = c.loop-model-test.true in
    let low : m < length inputs = subst (λ n. m < n) (sym c.requires.inputs_many) lt in
    let model : c.index-models-model.result ≡ model_at models m = c.index-models-model.is ∙ get_or_default models m c.index-models-model.result no_model lt in
    let own : c.as_slice-own.result.now ≡ get_or inputs m [] = c.as_slice-own.ensures ∙ c.index-inputs-model.is ∙ get_or_default inputs m c.index-inputs-model.result [] low in
    let line : c.in_ok-clash_in.field-0 ≡ clash_first interfaces inputs models m = c.in_ok-clash_in.ensures ∙ (λ j. least (clashes (definitions_in interfaces (own j) (model j)))) in
    let more : clash_firsts interfaces inputs models (m + 1) ≡ clash_firsts interfaces inputs models m ++ clash_first interfaces inputs models m ∷ [] =
    ap (clash_firsts interfaces inputs models) (add-one m) ∙ map-append (clash_first interfaces inputs models) (up_to m) (m ∷ []) in
    c.in_ok-push.ensures.items ∙ (λ j. c.loop-model.invariant j ++ line j ∷ []) ∙ sym more
