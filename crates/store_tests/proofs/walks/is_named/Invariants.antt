use Rattle.std.proofs.Common.{◌≡◌, ◌≢◌, ℕ, ◌<◌, slice_index, Some}
use Rattle.edge_bits.specs.Words.{unpack_of}
use Rattle.edge_bits.specs.declared.words.Node.{Node}
use Rattle.edge_bits.specs.declared.words.Word.TheVariants.{Inner}
use Rattle.store_tests.proofs.walks.is_named.Given as goal

abbrev pub invariant-loop-bits : goal.invariant-loop-bits
invariant-loop-bits l = (s : ℕ) (node : Node) → s < l.bits-index → unpack_of (slice_index l.bits-items s) ≡ Some (Inner node) → (node.hi ≢ l.slot) × (node.lo.index ≢ l.slot)
