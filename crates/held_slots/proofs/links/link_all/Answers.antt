use Rattle.std.proofs.Common.{◌≡◌, ℕ, suc, ◌-◌, ◌<◌, inl, inr, length, get_or, refl, ap, sym, ◌∙◌, subst, arith}
use Rattle.std.specs.Prelude.{◌^◌}
use Rattle.std.proofs.lemmas.Bool.{cases_eq, cases_lt}
use Rattle.std.proofs.lemmas.List.{get_or_past, length-replicate}
use Rattle.edge_bits.specs.Reading.{slots_of}
use Rattle.held_slots.specs.Linked.{Leads, chain_of}
use Rattle.held_slots.specs.Notes.{link_in, mark_in, pin_in}
use Rattle.held_slots.proofs.Padding.{zero_at}
use Rattle.held_slots.proofs.Leading.{first_linked, link_small, next_linked, none_yet}
use Rattle.held_slots.proofs.links.link_all.Goals as goal

pub loop-slot-init : goal.loop-slot-init
loop-slot-init c =
    let ws = c.args.words.now in
    record {
      room = refl;
      within = omega arith;
      long = refl;
      variables = ap length c.requires.empty ∙ (let none : ℕ = 0 in length-replicate (2 ^ 15) none);
      marks = λ s. refl;
      pins = λ s. refl;
      first = λ v few. none_yet ws (chain_of (slots_of ws)) v (get_or c.args.firsts.now.items v 0) (zero_at c.args.firsts.now.items (2 ^ 15) v c.requires.empty);
      next = λ s le lt. absurd (omega (arith, le, lt));
    }

pub link_slot-requires-clause-small : goal.link_slot-requires-clause-small
link_slot-requires-clause-small c = λ v. elim (cases_lt v (2 ^ 15)) [
  | inl lt ↦ (
      let ws = c.args.words.now in
      link_small (slots_of ws) (chain_of (slots_of ws)) (length ws) v c.loop-slot.slot (get_or c.loop-slot.firsts.items v 0) (c.loop-slot.invariant.first v lt) c.requires.few)
  | inr ge ↦ (let e = get_or_past c.loop-slot.firsts.items v 0 (let l = c.loop-slot.invariant.variables in omega (arith, ge, l)) in omega (arith, e))
]

pub loop-slot-preserved : goal.loop-slot-preserved
loop-slot-preserved c =
    let ws = c.args.words.now in
    let told = c.link_slot.ensures in
    let kept = c.loop-slot.invariant in
    let slot = c.loop-slot.slot - 1 in
    let some = c.loop-slot-test.true in
    let inside = kept.within in
    let within : slot < length ws = omega (arith, some, inside) in
    let here : suc slot ≡ c.loop-slot.slot = omega (arith, some) in
    let first : (v : ℕ) → v < 2 ^ 15 → Leads (slots_of ws) (chain_of (slots_of ws)) (length ws) v (suc slot) (get_or c.loop-slot.firsts.items v 0) =
    λ v few. subst (λ f. Leads (slots_of ws) (chain_of (slots_of ws)) (length ws) v f (get_or c.loop-slot.firsts.items v 0)) (sym here) (kept.first v few) in
    record {
      room = told.room ∙ kept.room;
      within = omega (arith, inside);
      long = told.length ∙ kept.long;
      variables = told.many ∙ kept.variables;
      marks = λ s. elim (cases_eq s slot) [
        | inl e ↦ ap (λ t. mark_in (get_or c.link_slot.new.notes.items t 0)) e ∙ told.mark ∙ kept.marks slot ∙ ap (λ t. mark_in (get_or c.args.notes.now.items t 0)) (sym e)
        | inr ne ↦ ap mark_in (told.others s ne) ∙ kept.marks s
      ];
      pins = λ s. elim (cases_eq s slot) [
        | inl e ↦ ap (λ t. pin_in (get_or c.link_slot.new.notes.items t 0)) e ∙ told.pin ∙ kept.pins slot ∙ ap (λ t. pin_in (get_or c.args.notes.now.items t 0)) (sym e)
        | inr ne ↦ ap pin_in (told.others s ne) ∙ kept.pins s
      ];
      first = first_linked ws slot (link_in (get_or c.link_slot.new.notes.items slot 0)) c.loop-slot.firsts.items c.link_slot.new.firsts.items within kept.variables told.node (λ empty. (told.no_node empty).1) first;
      next = λ s le lt few. elim (cases_eq s slot) [
        | inl e ↦ subst (λ t. chain_of (slots_of ws) t < 2 ^ 15 → Leads (slots_of ws) (chain_of (slots_of ws)) (length ws) (chain_of (slots_of ws) t) (suc t) (link_in (get_or c.link_slot.new.notes.items t 0))) (sym e)
            (next_linked ws slot (link_in (get_or c.link_slot.new.notes.items slot 0)) c.loop-slot.firsts.items c.link_slot.new.firsts.items within kept.variables told.node (λ empty. (told.no_node empty).1) first) few
        | inr ne ↦ subst (Leads (slots_of ws) (chain_of (slots_of ws)) (length ws) (chain_of (slots_of ws) s) (suc s)) (sym (ap link_in (told.others s ne))) (kept.next s (omega (arith, le, ne)) lt few)
      ];
    }
