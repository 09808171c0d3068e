use Rattle.std.proofs.Common.{subst}
use Rattle.node_store.specs.Views.{Permanent}
use Rattle.node_slots.specs.Stores.{plain_view}
use Rattle.node_slots.specs.contracts.plain_store.PlainStore.{the_view}
use Rattle.node_slots.proofs.Calls.{permanent_is}
use Rattle.node_slots.proofs.plain_store.PlainStoreGrow.levels.Goals as goal

pub returns-clause-permanent : goal.returns-clause-permanent
returns-clause-permanent c = subst (λ p. Permanent (plain_view p)) c.self.view_is (permanent_is (the_view c.self.inside) c.self.invariant)
