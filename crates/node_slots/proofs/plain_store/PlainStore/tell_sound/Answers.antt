use Rattle.std.proofs.Common.{subst}
use Rattle.node_store.specs.Contents.{IsSound}
use Rattle.node_slots.specs.Wholes.{content_view}
use Rattle.node_slots.specs.contracts.plain_store.PlainStore.{the_view}
use Rattle.node_slots.proofs.Settling.{settled_sound}
use Rattle.node_slots.proofs.plain_store.PlainStore.tell_sound.Goals as goal

pub returns-clause-sound : goal.returns-clause-sound
returns-clause-sound c = subst (λ x. IsSound (content_view x)) c.self.view_is (settled_sound (the_view c.self.inside) c.self.invariant)
