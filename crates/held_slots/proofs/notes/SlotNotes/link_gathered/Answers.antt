use Rattle.std.proofs.Common.{◌≡◌, ◌≤◌, suc, Some, length, refl, ap, sym, ◌∙◌, subst, arith}
use Rattle.std.specs.Prelude.{◌^◌, ◌<◌, IfSome, map}
use Rattle.level_table.specs.Slotted.{padded}
use Rattle.held_slots.specs.Notes.{Notes, link_in, mark_in, pin_in}
use Rattle.held_slots.specs.Linked.{IsLinkedTo, led_to}
use Rattle.held_slots.specs.SlotSets.{IsNext, has}
use Rattle.held_slots.proofs.Padding.{field-length, field-same, read}
use Rattle.held_slots.proofs.Gathering.{linked_again, none_exact}
use Rattle.held_slots.proofs.notes.SlotNotes.link_gathered.Goals as goal

fits : (c : goal.After-clear-2) → length c.link-first.new.notes.items ≤ c.self.inside.slots
fits c =
    let within = c.link-first.ensures.within in
    let limit = c.self.invariant.newer_fits in
    let was = c.self.invariant.within in
    omega (arith, within, limit, was)

pub returns-clause-marks : goal.returns-clause-marks
returns-clause-marks c = field-same mark_in refl c.self.inside.slots c.self.inside.notes.items c.link-first.new.notes.items c.self.invariant.within (fits c) c.link-first.ensures.linked.marks ∙ ap (λ (n : Notes). n.marks) c.self.view_is

pub returns-clause-pins : goal.returns-clause-pins
returns-clause-pins c = field-same pin_in refl c.self.inside.slots c.self.inside.notes.items c.link-first.new.notes.items c.self.invariant.within (fits c) c.link-first.ensures.linked.pins ∙ ap (λ (n : Notes). n.pins) c.self.view_is

pub returns-clause-linked : goal.returns-clause-linked
returns-clause-linked c = λ word is flag.
    let was = c.self.inside in
    let old = was.notes.items in
    let new = c.link-first.new.notes.items in
    let l = subst (λ (n : Notes). IsLinkedTo word n.chain) (sym c.self.view_is) is flag in
    let again = c.link-first.ensures.linked in
    let variable : was.newer.variable ≡ Some c.in-Some.var = sym c.in-Some.ensures in
    let long = field-length link_in refl was.slots new (fits c) in (
      linked_again word was.older was.newer l.2 c.in-Some.var variable (subst (λ o. IfSome o (λ v. v < 2 ^ 15)) variable c.self.invariant.few_newer)
          (map link_in (padded was.slots old)) (map link_in (padded was.slots new)) was.firsts.items c.link-first.result was.stale was.cursor l.0
          (long ∙ sym (field-length link_in refl was.slots old c.self.invariant.within))
          (λ s inside. (let lt = c.link-first.ensures.below s inside in let limit = c.self.invariant.newer_fits in omega (arith, lt, limit, long)))
          c.self.invariant.variables again.first
          (λ s inside. subst (λ k. IsNext (has was.newer.slots) (suc s) (led_to k)) (sym (read link_in refl was.slots new s)) (again.links s inside))
          (λ s out. read link_in refl was.slots new s ∙ again.others s out ∙ sym (read link_in refl was.slots old s)) c.clear-2.new.self c.clear-2.ensures.variable,
      l.1,
      none_exact word c.clear-2.new.self c.clear-2.ensures.variable c.clear-2.ensures.none,
    )
