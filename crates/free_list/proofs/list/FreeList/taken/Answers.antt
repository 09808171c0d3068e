use Rattle.std.proofs.Common.{◌≡◌, ◌-◌, ◌++◌, ℕ, List, [], subst}
use Rattle.std.specs.List.{range_with_len}
use Rattle.free_list.specs.FreeSlots.{FreeSlots, stacked}
use Rattle.free_list.proofs.Stacks.{stacked_before}
use Rattle.free_list.proofs.list.FreeList.taken.Goals as goal

pub returns-clause-beyond : goal.returns-clause-beyond
returns-clause-beyond c =
    let l = c.self.inside in
    subst (λ (v : FreeSlots). (freed : List ℕ) × (v.slots ≡ freed ++ range_with_len l.next (v.room - l.next))) c.self.view_is (stacked l.freed.items [], stacked_before l.freed.items (range_with_len l.next (l.end - l.next)))
