use Rattle.std.proofs.Common.{◌≡◌, None, Some, ap, sym, ◌∙◌, subst}
use Rattle.node_slots.specs.Stores.{lent_room}
use Rattle.words_rule.specs.Passes.{view}
use Rattle.words_rule.specs.Steppers.{IsOperating, knows}
use Rattle.words_rule.proofs.Steppers.{besides_same, slot_taken_on, slot_told}
use Rattle.step_store.specs.declared.hand.Taken.{Taken}
use Rattle.step_store.specs.Knowing.{handed}
use Rattle.words_rule.proofs.stepper.StepperSteps.take_slot.Goals as goal

pub returns-clause-own : goal.returns-clause-own
returns-clause-own g c =
    let s = c.args.self.now in
    let there = sym c.take.ensures.value ∙ c.in-Some.is in
    let took = c.take_slot.ensures.taken c.next_slot-slot.result (g.S.Content.free_slots c.next_slot-slot.new.self).slots (slot_told g.S.Content.free_slots g.S.Content.memo s.guard.now s.pass s.pass s.free s.memo (lent_room s.scratch) c.requires.own c.in-Some.content there c.next_slot-slot.result (g.S.Content.free_slots c.next_slot-slot.new.self).slots c.next_slot-slot.ensures.first) in
    subst (λ o. IsOperating g.S.Content.free_slots g.S.Content.memo s.guard.now c.take_slot.new.pass o s.memo (lent_room s.scratch)) (sym c.take.ensures.after)
    (slot_taken_on g.S.Content.free_slots g.S.Content.memo s.guard.now s.pass c.take_slot.new.pass s.free s.memo (lent_room s.scratch) c.requires.own c.take_slot.ensures.own c.in-Some.content there c.args.bits c.next_slot-slot.result took)

pub returns-clause-home : goal.returns-clause-home
returns-clause-home g c =
    let s = c.args.self.now in
    let q = c.take_slot.new.pass in
    let took = c.take_slot.ensures.taken c.next_slot-slot.result (g.S.Content.free_slots c.next_slot-slot.new.self).slots (slot_told g.S.Content.free_slots g.S.Content.memo s.guard.now s.pass s.pass s.free s.memo (lent_room s.scratch) c.requires.own c.in-Some.content (sym c.take.ensures.value ∙ c.in-Some.is) c.next_slot-slot.result (g.S.Content.free_slots c.next_slot-slot.new.self).slots c.next_slot-slot.ensures.first) in
    let same : q.seat.table_id ≡ s.pass.seat.table_id = c.take_slot.ensures.own ∙ sym c.requires.own.own.0 in
    (ap (λ i. i.views_name) same, besides_same s.pass.seat.table_id q.seat.table_id (view s.pass) (view q) same (ap (λ m. m.0.draws) took.is) (ap (λ m. m.0.shares) took.is) (ap (λ m. m.0.counts) took.is))

pub returns-clause-within : goal.returns-clause-within
returns-clause-within g c =
    let s = c.args.self.now in
    (c.take_slot.ensures.taken c.next_slot-slot.result (g.S.Content.free_slots c.next_slot-slot.new.self).slots (slot_told g.S.Content.free_slots g.S.Content.memo s.guard.now s.pass s.pass s.free s.memo (lent_room s.scratch) c.requires.own c.in-Some.content (sym c.take.ensures.value ∙ c.in-Some.is) c.next_slot-slot.result (g.S.Content.free_slots c.next_slot-slot.new.self).slots c.next_slot-slot.ensures.first)).within

pub returns-clause-taken : goal.returns-clause-taken
returns-clause-taken g c =
    let s = c.args.self.now in
    let k = knows (view s.pass) (lent_room s.scratch) in
    let took = c.take_slot.ensures.taken c.next_slot-slot.result (g.S.Content.free_slots c.next_slot-slot.new.self).slots (slot_told g.S.Content.free_slots g.S.Content.memo s.guard.now s.pass s.pass s.free s.memo (lent_room s.scratch) c.requires.own c.in-Some.content (sym c.take.ensures.value ∙ c.in-Some.is) c.next_slot-slot.result (g.S.Content.free_slots c.next_slot-slot.new.self).slots c.next_slot-slot.ensures.first) in
    ap (λ m. knows m.0 (lent_room s.scratch)) took.is ∙ ap (λ (t : Taken). handed k (record k.hand { free = None; taken = Some t; link = None })) (λ i. record { slot = took.slot_is i; bits = took.packs i })

pub take_slot-requires-clause-roomy : goal.take_slot-requires-clause-roomy
take_slot-requires-clause-roomy g c = c.next_slot-slot.ensures.room ∙ c.requires.own.roomy c.in-Some.content (sym c.take.ensures.value ∙ c.in-Some.is)
