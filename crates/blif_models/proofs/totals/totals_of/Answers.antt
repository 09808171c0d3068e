use Rattle.std.proofs.Common.{arith, get_or, sym, ◌∙◌}
use Rattle.std.proofs.lemmas.List.{length-set}
use Rattle.blif_models.proofs.CappedSums.{held_at, totals_more}
use Rattle.blif_models.proofs.totals.totals_of.Goals as goal

pub loop-model-preserved : goal.loop-model-preserved
loop-model-preserved c =
    let i = c.loop-model.model-index in
    let order = c.args.order.now in
    let invariant = c.loop-model.invariant in
    let lt = c.loop-model-test.true in
    record {
      many = length-set c.loop-model.totals.items (get_or order i 0) c.total_of.result ∙ invariant.many;
      totals = totals_more c.args.holds.now c.args.own.now order c.loop-model.totals.items c.deref.result.now c.as_slice.result.now i c.total_of.result lt c.requires.ordered (omega (arith, c.requires.order i 0 lt, invariant.many))
          c.deref.ensures.value (c.as_slice.ensures ∙ c.index-holds-place.is ∙ sym (held_at c.args.holds.now (get_or order i 0) c.index-holds-place.result (c.requires.order i 0 lt))) c.total_of.ensures invariant.totals;
    }
