use Rattle.std.proofs.Common.{inl, refl, ap, ◌∙◌, Some}
use Rattle.step_store.specs.Knowing.{Knowledge, handed}
use Rattle.step_store.proofs.Placements.{store_placed}
use Rattle.step_store.proofs.placing.store.Goals as goal

pub store_next-requires-clause-owns : goal.store_next-requires-clause-owns
store_next-requires-clause-owns g c = inl (record { slot = c.take_slot-slot.result; bits = c.args.bits }, ap (λ (x : Knowledge). x.hand.taken) c.take_slot-slot.ensures.taken, refl)

pub returns-clause-placed : goal.returns-clause-placed
returns-clause-placed g c = store_placed (g.S.Steps.known c.args.seat.now) (g.S.Steps.known c.store_next.new.self) (g.S.Steps.known c.store_node.new.self) (g.S.Steps.known c.push.new.seat) _ _ c.args.job.now c.args.bits c.take_slot-slot.result
    (c.store_next.ensures.stored ∙ ap (λ (x : Knowledge). handed x (record x.hand { link = Some (record { slot = c.take_slot-slot.result; next = c.peek_head-link.result }) })) c.take_slot-slot.ensures.taken)
    c.store_node.ensures.grows c.take_slot-slot.ensures.within c.requires.wanted.absent.reads c.store_node.ensures.stored c.store_node.ensures.made c.store_node.ensures.due c.push.ensures.pushed
