use Rattle.std.proofs.Common.{◌+◌, ◌<◌, arith, get_or, length, take, sym, ap, ◌≡◌, ◌∙◌, ◌++◌}
use Rattle.std.proofs.lemmas.List.{length-take, take_more}
use Rattle.blif_models.specs.Arrangements.{holdings_by, holdings_from}
use Rattle.blif_models.proofs.Arranged.{holdings_again}
use Rattle.blif_models.proofs.arranging.holdings_of.Goals as goal

pub loop-by-preserved : goal.loop-by-preserved
loop-by-preserved c =
    let i = c.loop-by.by in
    let models = c.args.models.now in
    let model = c.index-models-by.result in
    let lt : i < length models = omega (arith, c.loop-by-test.true, c.in_ok-count.ensures) in
    let many : 0 + length (take i models) ≡ i = omega (arith, lt, length-take i models) in
    c.in_ok-add_holdings.ensures
    ∙ (λ j. c.loop-by.invariant j ++ holdings_by (sym many j) (c.as_slice.ensures j))
    ∙ sym (holdings_again 0 (take i models) (get_or models i model))
    ∙ ap (holdings_from 0) (sym (take_more models i model lt))
