use Rattle.std.proofs.Common.{◌≡◌, ℕ, ◌<◌, ◌≤◌, Some}
use Rattle.edge_bits.specs.Reading.{slots_of}
use Rattle.store_tests.proofs.walks.find.Given as goal

abbrev pub invariant-loop-slot : goal.invariant-loop-slot
invariant-loop-slot l = (t : ℕ) → 3 ≤ t → t < l.slot → slots_of l.words t ≡ Some l.wanted → ⊥
