use Rattle.std.proofs.Common.{All, take}
use Rattle.store_rows.specs.RowStores.{IsLive}
use Rattle.dd_manager.proofs.faults.are_live.Given as goal

abbrev pub invariant-loop-pair : goal.invariant-loop-pair
invariant-loop-pair l = All (λ pair. IsLive l.rows.rows.live pair.1) (take l.pair-index l.pairs)
