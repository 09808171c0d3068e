use Rattle.store_upkeep.proofs.Recounted.{recounted}
use Rattle.store_upkeep.proofs.Used.{counted_used}
use Rattle.store_upkeep.proofs.counting.lower.Goals as goal

pub lower-requires-clause-used : goal.lower-requires-clause-used
lower-requires-clause-used c = rw c.index.ensures (counted_used c.args.store.now c.tell_sound.ensures.sound c.args.edge.index c.requires)

pub returns-clause-rest : goal.returns-clause-rest
returns-clause-rest c = recounted c.args.store.now _ c.index.result _ c.lower.ensures.rest c.lower.ensures.generation
