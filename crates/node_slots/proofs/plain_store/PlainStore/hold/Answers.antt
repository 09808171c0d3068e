use Rattle.std.proofs.Common.{ap, ◌∙◌}
use Rattle.held_slots.specs.Notes.{Notes}
use Rattle.node_slots.specs.Wholes.{content_view}
use Rattle.node_slots.specs.contracts.plain_store.PlainStore.{the_view}
use Rattle.node_slots.proofs.HeldReturning.{handed_over}
use Rattle.node_slots.proofs.plain_store.PlainStore.hold.Goals as goal

pub invariant_of-result : goal.invariant_of-result
invariant_of-result c = handed_over (the_view c.self.inside) c.self.invariant c.clear.new.self c.clear.ensures.empty c.unlink.new.self c.self.inside.notes.chain c.unlink.ensures

pub returns-clause-content : goal.returns-clause-content
returns-clause-content c = ap (λ (n : Notes). content_view (record (the_view c.self.inside) { marks = n.marks; pins = n.pins })) c.unlink.ensures ∙ ap content_view c.self.view_is
