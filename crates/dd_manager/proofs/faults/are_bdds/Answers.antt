use Rattle.std.proofs.Common.{sym, take}
use Rattle.std.proofs.lemmas.List.{take_all}
use Rattle.std.proofs.lemmas.List.Elements.{All-more, All-same}
use Rattle.edge_bits.specs.declared.edges.Kind.TheVariants as kinds
use Rattle.store_rows.specs.RowStores.{IsLiveAs}
use Rattle.dd_manager.proofs.Comparing.{matched}
use Rattle.dd_manager.proofs.faults.are_bdds.Goals as goal

pub loop-pair-preserved : goal.loop-pair-preserved
loop-pair-preserved c = All-more (λ pair. IsLiveAs kinds.Bdd c.args.rows.now.rows.live pair.1) c.args.pairs.now c.loop-pair.pair-index (0, record { row = 0; generation = 0 }) c.loop-pair-test.true c.loop-pair.invariant
    (matched c.has_kind.result _ _ c.has_kind.ensures c.if-not-has_kind.false)

pub returns : goal.returns
returns c = All-same (λ pair. IsLiveAs kinds.Bdd c.args.rows.now.rows.live pair.1) c.args.pairs.now (take c.loop-pair.pair-index c.args.pairs.now) (sym (take_all c.loop-pair.pair-index c.args.pairs.now c.loop-pair-test.false)) c.loop-pair.invariant
