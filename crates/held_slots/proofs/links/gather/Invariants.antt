use Rattle.std.proofs.Common.{◌≡◌, ℕ, suc, ◌-◌, ◌<◌, ◌≤◌, ◌^◌, nat_eq, true, false}
use Rattle.std.specs.Prelude.{if◌then◌else◌}
use Rattle.edge_bits.specs.Reading.{slots_of}
use Rattle.held_slots.specs.Linked.{HasNode, LeadsThrough}
use Rattle.held_slots.specs.SlotSets.{has}
use Rattle.held_slots.proofs.links.gather.Given as goal

abbrev pub invariant-loop-link : goal.invariant-loop-link
invariant-loop-link l = record {
  limit : l.set.limit ≡ l.initial.set.limit;
  members : (s : ℕ) → has l.set s ≡ true → HasNode (slots_of l.words) l.var s;
  on : (from : LeadsThrough (slots_of l.words) l.notes l.initial.set.limit l.var l.initial.link) (slot : ℕ) → l.link ≡ suc slot → (slot < l.initial.set.limit) × (from.chain slot ≡ l.var);
  ahead : LeadsThrough (slots_of l.words) l.notes l.initial.set.limit l.var l.initial.link → (s : ℕ) → HasNode (slots_of l.words) l.var s → has l.set s ≡ false → (0 < l.link) × (l.link ≤ suc s);
}

abbrev pub decreases-loop-link : goal.decreases-loop-link
decreases-loop-link l = if nat_eq l.link 0 then 0 else 2 ^ 32 - l.link
