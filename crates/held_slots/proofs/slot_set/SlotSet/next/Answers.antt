use Rattle.std.proofs.Common.{◌+◌, ◌/◌, sym, subst}
use Rattle.held_slots.specs.SlotSets.{IsNext, has_some, is_in}
use Rattle.held_slots.proofs.Layers.{next_by_summary}
use Rattle.held_slots.proofs.slot_set.SlotSet.next.Goals as goal

pub next_behind-requires-clause-word : goal.next_behind-requires-clause-word
next_behind-requires-clause-word c = subst (λ bits. IsNext (has_some bits) (c.args.from / 64 + 1) c.next_below.result) (sym c.deref-in-None.ensures.value)
    (next_by_summary c.self.inside.slots.items c.self.inside.words.items (c.args.from / 64 + 1) c.next_below.result c.self.invariant.words_sum_up
    (subst (λ bits. IsNext (is_in bits) (c.args.from / 64 + 1) c.next_below.result) c.deref-in-None-2.ensures.value c.next_below.ensures))
