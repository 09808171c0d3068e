use Rattle.std.proofs.Common.{arith}
use Rattle.std.proofs.lemmas.Grind.{elements}
use Rattle.node_slots.proofs.held_store.exchange_places.Goals as goal

pub returns-clause-inverse : goal.returns-clause-inverse
returns-clause-inverse c = grind (arith, elements)
