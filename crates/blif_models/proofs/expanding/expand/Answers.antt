use Rattle.std.proofs.Common.{◌≡◌, ◌<◌, ◌∙◌, List, length, subst, sym, ap}
use Rattle.blif_models.specs.declared.numbered.NumberedModel.{NumberedModel}
use Rattle.blif_models.specs.Additions.{AreRising, lines_of}
use Rattle.blif_models.specs.Graphs.{is_reached}
use Rattle.blif_models.specs.Kept.{reached_models}
use Rattle.blif_models.specs.Layouts.{AreNumbered, model_at}
use Rattle.blif_models.specs.NumberedGraphs.{all_held}
use Rattle.blif_models.proofs.Composing.{main_kept}
use Rattle.blif_models.proofs.KeptModels.{kept_many, kept_numbered}
use Rattle.blif_models.proofs.expanding.expand.Goals as goal

pub expand_kept-requires-clause-main : goal.expand_kept-requires-clause-main
expand_kept-requires-clause-main c =
    let models = c.args.models.now.items in
    let main = c.args.main in
    let same : c.deref.result.now ≡ reached_models models main = c.deref.ensures.value ∙ c.in_ok-keep_reached.ensures in
    let many = kept_many (is_reached (all_held models) (length models) main) 0 models in
    subst (λ n. main < n) (sym (ap length same ∙ many)) c.requires.main

pub expand_kept-requires-clause-numbered : goal.expand_kept-requires-clause-numbered
expand_kept-requires-clause-numbered c =
    let models = c.args.models.now.items in
    let main = c.args.main in
    let same : c.deref.result.now ≡ reached_models models main = c.deref.ensures.value ∙ c.in_ok-keep_reached.ensures in
    subst AreNumbered (sym same) (kept_numbered (is_reached (all_held models) (length models) main) models c.requires.numbered)

pub expand_kept-requires-clause-entries : goal.expand_kept-requires-clause-entries
expand_kept-requires-clause-entries c =
    let models = c.args.models.now.items in
    let main = c.args.main in
    let same : c.deref.result.now ≡ reached_models models main = c.deref.ensures.value ∙ c.in_ok-keep_reached.ensures in
    subst (λ (one : NumberedModel). AreRising (lines_of one.entries)) (sym (ap (λ (ms : List NumberedModel). model_at ms main) same ∙ main_kept models main)) c.requires.entries
