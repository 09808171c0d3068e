use Rattle.std.proofs.Common.{◌≡◌, ℕ, ◌<◌, ◌≤◌, true}
use Rattle.edge_bits.specs.Reading.{slots_of}
use Rattle.node_store.specs.Contents.{is_leaf}
use Rattle.hold_store.proofs.held_words.next_number.Given as goal

abbrev pub invariant-loop-slot : goal.invariant-loop-slot
invariant-loop-slot l = (t : ℕ) → l.from ≤ t → t < l.slot → is_leaf (slots_of l.words t) ≡ true → ⊥
