use Rattle.std.proofs.Common.{◌<◌, ◌≤◌, ℕ}
use Rattle.edge_bits.specs.Reading.{slots_of}
use Rattle.held_slots.specs.Linked.{HasNode}
use Rattle.held_slots.proofs.links.walk.Given as goal

abbrev pub invariant-loop-slot : goal.invariant-loop-slot
invariant-loop-slot l = (t : ℕ) → l.from ≤ t → t < l.slot → HasNode (slots_of l.words) l.var t → ⊥
