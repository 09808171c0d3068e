use Rattle.std.proofs.Common.{◌≡◌, ◌+◌, ◌-◌, ◌∷◌, ◌++◌, length, List, [], Option, ℕ, ap, sym, ◌∙◌, arith}
use Rattle.std.specs.Prelude.{option_to_list}
use Rattle.free_list.specs.FreeSlots.{FreeSlots, free_slots}
use Rattle.free_list.proofs.Stacks.{first_freed, first_next, none_both}
use Rattle.free_list.proofs.list.FreeList.take_first.Goals as goal

pub returns-in-Some-clause-some : goal.returns-in-Some-clause-some
returns-in-Some-clause-some c =
    let l = c.self.inside in
    ap (λ (v : FreeSlots). v.slots) (sym c.self.view_is) ∙ first_freed l.freed.items c.pop.new.self.items c.in-Some.slot l.next l.end (c.pop.ensures.items ∙ ap (λ (o : Option ℕ). c.pop.new.self.items ++ option_to_list o) c.in-Some.is)

pub returns-clause-some : goal.returns-clause-some
returns-clause-some c =
    let l = c.self.inside in
    let e = c.in_default.ensures.cases in
    let n = none_both l.freed.items c.pop.new.self.items (sym l.freed.ok.0 ∙ e.0) (sym c.pop.new.self.ok.0 ∙ e.1) in
    let ends = c.if-slot-self.false in
    let within = c.self.invariant.0 in
    ap (λ (v : FreeSlots). v.slots) (sym c.self.view_is) ∙ first_next l.freed.items l.next l.end n.0 (omega (arith, ends, within)) ∙ ap (λ (xs : List ℕ). l.next ∷ free_slots xs (l.next + 1) l.end) (n.0 ∙ sym n.1)
