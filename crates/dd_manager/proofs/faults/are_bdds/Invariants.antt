use Rattle.std.proofs.Common.{All, take}
use Rattle.edge_bits.specs.declared.edges.Kind.TheVariants as kinds
use Rattle.store_rows.specs.RowStores.{IsLiveAs}
use Rattle.dd_manager.proofs.faults.are_bdds.Given as goal

abbrev pub invariant-loop-pair : goal.invariant-loop-pair
invariant-loop-pair l = All (λ pair. IsLiveAs kinds.Bdd l.rows.rows.live pair.1) (take l.pair-index l.pairs)
