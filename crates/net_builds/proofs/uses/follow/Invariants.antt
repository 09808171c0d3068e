use Rattle.std.proofs.Common.{◌≡◌, ◌≢◌, ◌≤◌, length, ℕ, slice_index}
use Rattle.std.specs.Prelude.{◌⊎◌}
use Rattle.net_builds.specs.Uses.{IsReader, KnowsReads}
use Rattle.cover_nets.specs.Bounds.{signal_count}
use Rattle.net_builds.proofs.uses.follow.Given as goal

abbrev pub invariant-loop-left : goal.invariant-loop-left
invariant-loop-left l = record {
  within : l.left ≤ length l.net.gates;
  inputs : l.inputs ≡ length l.net.inputs;
  long : length l.last ≡ signal_count l.net;
  raised : (signal : ℕ) → slice_index l.fn.last signal ≤ slice_index l.last signal;
  reads : KnowsReads l.net l.left l.last;
  told : (signal : ℕ) → slice_index l.last signal ≢ 0 → (slice_index l.last signal ≡ slice_index l.fn.last signal) ⊎ IsReader l.net l.last signal (slice_index l.last signal);
}

abbrev pub decreases-loop-left : goal.decreases-loop-left
decreases-loop-left l = l.left
