use Rattle.std.proofs.Common.{ℕ, ◌≤◌, length}
use Rattle.level_table.specs.Chains.{IsChained}
use Rattle.level_table.proofs.Latest.{IsDownTo}
use Rattle.level_table.proofs.chains.next_above.Given as goal

abbrev pub invariant-loop-next : goal.invariant-loop-next
invariant-loop-next l = record {
  within : l.link ≤ length l.links;
  down : (at : ℕ → ℕ) → IsChained at l.heads l.links → IsDownTo at l.bucket (length l.links) l.place l.above l.link;
}

abbrev pub decreases-loop-next : goal.decreases-loop-next
decreases-loop-next l = l.link
