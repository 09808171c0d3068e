use Rattle.std.proofs.Common.{◌≡◌, ℕ, ◌-◌, ◌<◌, false}
use Rattle.held_slots.specs.SlotSets.{has}
use Rattle.held_slots.proofs.slot_set.SlotSet.clear.Given as goal

abbrev pub invariant-loop-slot : goal.invariant-loop-slot
invariant-loop-slot l = record {
  limit : l.self.limit ≡ l.initial.self.limit;
  behind : (s : ℕ) → s < l.from → has l.self s ≡ false;
}

abbrev pub decreases-loop-slot : goal.decreases-loop-slot
decreases-loop-slot l = l.self.limit - l.from
