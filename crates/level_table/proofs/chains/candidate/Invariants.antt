use Rattle.std.proofs.Common.{ℕ, ◌%◌, ◌≤◌, List, length}
use Rattle.level_table.specs.Chains.{bucket_of, IsLatest, AreChains}
use Rattle.level_table.proofs.Latest.{IsSought}
use Rattle.level_table.proofs.chains.candidate.Given as goal

abbrev pub invariant-loop-place : goal.invariant-loop-place
invariant-loop-place l = record {
  within : l.link ≤ length l.links;
  sought : (heads : List ℕ) (n : ℕ) → AreChains l.hashes l.links heads → IsLatest (bucket_of l.hashes (length heads)) (l.hash % length heads) n l.first → IsSought l.hashes (length heads) l.hash n l.link;
}

abbrev pub decreases-loop-place : goal.decreases-loop-place
decreases-loop-place l = l.link
