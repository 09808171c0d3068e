use Rattle.std.proofs.Common.{◌≡◌, ◌∙◌, ◌+◌, ap, arith, drop, length, sym}
use Rattle.std.proofs.Math.Seq.{drop-length}
use Rattle.net_builds.specs.Shares.{stop_of, told_first}
use Rattle.net_builds.proofs.Stops.{told_next, told_right}
use Rattle.net_builds.proofs.sharing.first_stop.Goals as goal

pub loop-share-preserved : goal.loop-share-preserved
loop-share-preserved g c =
    let i = c.loop-share.share-index in
    let shares = c.args.shares.now in
    ap (λ f. told_first f (stop_of (drop (i + 1) shares))) (c.told_first-first.ensures ∙ ap (λ one. told_first c.loop-share.first one.stop) c.share-item.is)
    ∙ told_next c.loop-share.first shares i c.share-item.result c.loop-share-test.true ∙ c.loop-share.invariant

pub returns : goal.returns
returns g c =
    let first = c.loop-share.first in
    let shares = c.args.shares.now in
    let end : length shares ≡ c.loop-share.share-index = omega (arith, c.loop-share.auto.share-index-end, c.loop-share-test.false) in
    sym (told_right first) ∙ ap (λ rest. told_first first (stop_of rest)) (sym (drop-length shares) ∙ ap (λ i. drop i shares) end) ∙ c.loop-share.invariant
