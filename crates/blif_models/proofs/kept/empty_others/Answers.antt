use Rattle.std.proofs.Common.{◌<◌, ◌∙◌, arith, length, rules, ap}
use Rattle.blif_models.specs.Graphs.{is_met}
use Rattle.blif_models.specs.Layouts.{no_model}
use Rattle.blif_models.proofs.KeptModels.{emptied_step, kept_step}
use Rattle.blif_models.proofs.kept.empty_others.Goals as goal
use Rattle.blif_models.proofs.kept.empty_others.Goals.{then-not-met-place, else-not-met-place}

pub loop-place-preserved : goal.loop-place-preserved
loop-place-preserved c =
    let i = c.loop-place.place in
    let models = c.args.models.now.items in
    let met = c.args.met.now in
    let lt : i < length models = omega (arith, c.loop-place-test.true, c.len-place-end.ensures) in
    elim c.if-not-met-place.branch [
      | then-not-met-place w ↦
          emptied_step (is_met met) models c.loop-place.models.items i no_model lt c.loop-place.invariant (search (rules, w.if-not-met-place.true)) w.index_mut-model.result.now (search (rules, w.index_mut-model.ensures.value)) w.new.result w.new.ensures
          c.if-not-met-place.models.items (ap (λ v. v.items) w.models-is)
      | else-not-met-place w ↦ ap (λ v. v.items) w.models-is ∙ kept_step (is_met met) models c.loop-place.models.items i no_model lt c.loop-place.invariant w.if-not-met-place.false
    ]
