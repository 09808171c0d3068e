use Rattle.std.proofs.Common.{refl}
use Rattle.node_slots.proofs.Opening.{IsStore-new}
use Rattle.node_slots.proofs.plain_store.PlainStore.remembering.Goals as goal

pub invariant_of-result : goal.invariant_of-result
invariant_of-result c =
    let r = c.requires in let w = c.in_ok-nodes.ensures in
    IsStore-new _ c.args.vars c.args.elements c.args.limit r.vars r.elements r.least r.most
    (record {
      variable_levels = c.in_ok-variable_levels.ensures;
      element_levels = c.in_ok-element_levels.ensures;
      variables_at = c.in_ok-variables_at.ensures;
      elements_at = c.in_ok-elements_at.ensures;
      slots_are = w.slots_are;
      permanent = w.permanent;
      free = w.free;
      counts = c.in_ok-counts.ensures;
      marks = c.in_ok-notes.ensures.marks;
      pins = c.in_ok-notes.ensures.pins;
      sweeping = refl;
      fulls = refl;
      due = refl;
      memo = c.in_ok-memo.ensures.empty;
    })
