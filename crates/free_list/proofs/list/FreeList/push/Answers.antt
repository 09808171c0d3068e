use Rattle.std.proofs.Common.{◌≡◌, ◌+◌, ◌-◌, ◌∷◌, length, List, ℕ, ap, sym, ◌∙◌, arith}
use Rattle.std.specs.List.{range_with_len}
use Rattle.free_list.specs.FreeSlots.{FreeSlots, free_slots}
use Rattle.free_list.proofs.Stacks.{length_free, stacked_more}
use Rattle.free_list.proofs.list.FreeList.push.Goals as goal

pub push_reserved-requires : goal.push_reserved-requires
push_reserved-requires c =
    let l = c.self.inside in
    let long : length c.args.self.now.slots ≡ length l.freed.items + (l.end - l.next) = ap (λ (v : FreeSlots). length v.slots) (sym c.self.view_is) ∙ length_free l.freed.items l.next l.end in
    let room : c.args.self.now.room ≡ l.end = ap (λ (v : FreeSlots). v.room) (sym c.self.view_is) in
    let few = c.requires.room in
    let within = c.self.invariant.0 in
    let fits = c.self.invariant.1 in
    let many = l.freed.ok.0 in
    omega (arith, long, room, few, within, fits, many)

pub returns-clause-first : goal.returns-clause-first
returns-clause-first c =
    let l = c.self.inside in
    ap (λ (xs : List ℕ). free_slots xs l.next l.end) c.push_reserved.ensures.items ∙ stacked_more l.freed.items c.args.slot (range_with_len l.next (l.end - l.next)) ∙ ap (λ (v : FreeSlots). c.args.slot ∷ v.slots) c.self.view_is
