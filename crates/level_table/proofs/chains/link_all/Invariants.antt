use Rattle.std.proofs.Common.{ℕ, ◌<◌, length, slice_index}
use Rattle.level_table.specs.Chains.{bucket_of, IsLatest}
use Rattle.level_table.proofs.chains.link_all.Given as goal

abbrev pub invariant-loop-place : goal.invariant-loop-place
invariant-loop-place l = record {
  heads_are : (b : ℕ) → b < length l.heads → IsLatest (bucket_of l.hashes (length l.heads)) b l.place (slice_index l.heads b);
  links_are : (k : ℕ) → k < l.place → IsLatest (bucket_of l.hashes (length l.heads)) (bucket_of l.hashes (length l.heads) k) k (slice_index l.links k);
}
