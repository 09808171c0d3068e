use Rattle.store_upkeep.proofs.Recounted.{recounted}
use Rattle.store_upkeep.proofs.Used.{function_used}
use Rattle.store_upkeep.proofs.counting.raise.Goals as goal

pub raise-requires-clause-used : goal.raise-requires-clause-used
raise-requires-clause-used c = rw c.index.ensures (function_used c.args.store.now c.tell_sound.ensures.sound c.args.edge c.requires.function)

pub returns-clause-rest : goal.returns-clause-rest
returns-clause-rest c = recounted c.args.store.now _ c.index.result _ c.raise.ensures.rest c.raise.ensures.generation
