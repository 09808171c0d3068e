use Rattle.std.proofs.Common.{arith, get_or, ◌∙◌}
use Rattle.std.proofs.lemmas.List.{length-set}
use Rattle.std.proofs.lemmas.Option.{slice_get_within}
use Rattle.blif_wholes.proofs.Placing.{placed_more}
use Rattle.blif_wholes.proofs.building.cover_signals.Goals as goal

pub loop-cover-preserved : goal.loop-cover-preserved
loop-cover-preserved c =
    let i = c.loop-cover.cover-index in
    let order = c.args.order.now in
    let invariant = c.loop-cover.invariant in
    record {
      many = length-set c.loop-cover.signals.items (get_or order i 0) c.loop-cover.signal ∙ invariant.many;
      signal = omega (arith, c.in-Some.ensures, invariant.signal);
      placed = placed_more order c.loop-cover.signals.items i c.args.first c.loop-cover.signal c.requires.once c.loop-cover-test.true (omega (arith, c.requires.within i 0 c.loop-cover-test.true, invariant.many)) invariant.signal invariant.placed;
    }

pub returns-clause-placed : goal.returns-clause-placed
returns-clause-placed c = λ p d h. c.loop-cover.invariant.placed p d (omega (arith, slice_get_within c.args.order.now p d h, c.loop-cover-test.false)) h
