use Rattle.std.proofs.Common.{◌≡◌, ◌∙◌, List, length, subst, sym, ap, ℕ}
use Rattle.blif_models.specs.Graphs.{AreWithin}
use Rattle.blif_models.specs.NumberedGraphs.{all_held}
use Rattle.blif_models.proofs.Arranged.{numbers_within}
use Rattle.blif_models.proofs.kept.keep_reached.Goals as goal

pub reached_from-requires-clause-within : goal.reached_from-requires-clause-within
reached_from-requires-clause-within c =
    let models = c.args.models.now.items in
    let same : c.deref-2.result.now ≡ all_held models = c.deref-2.ensures.value ∙ c.in_ok-holds.ensures ∙ ap all_held c.deref.ensures.value in
    subst (λ (ks : List (List ℕ)). AreWithin (length ks) ks) (sym same) (numbers_within models c.requires.numbered)
