use Rattle.std.proofs.Common.{sym, take}
use Rattle.std.proofs.lemmas.List.{take_all}
use Rattle.std.proofs.lemmas.List.Elements.{All-more, All-same}
use Rattle.store_rows.specs.RowStores.{IsLive}
use Rattle.dd_manager.proofs.faults.are_live.Goals as goal

pub loop-pair-preserved : goal.loop-pair-preserved
loop-pair-preserved c = All-more (λ pair. IsLive c.args.rows.now.rows.live pair.1) c.args.pairs.now c.loop-pair.pair-index (0, record { row = 0; generation = 0 }) c.loop-pair-test.true c.loop-pair.invariant
    (c.is_live.ensures.0 c.if-not-is_live.false)

pub returns : goal.returns
returns c = All-same (λ pair. IsLive c.args.rows.now.rows.live pair.1) c.args.pairs.now (take c.loop-pair.pair-index c.args.pairs.now) (sym (take_all c.loop-pair.pair-index c.args.pairs.now c.loop-pair-test.false)) c.loop-pair.invariant
