use Rattle.std.proofs.Common.{◌≡◌, ◌<◌, ℕ, get_or, length}
use Rattle.dddmp_text.proofs.writer.internals_of.Given as goal

abbrev pub invariant-loop-rank : goal.invariant-loop-rank
invariant-loop-rank l = record {
  long : length l.internals.items ≡ l.dump.nvars;
  so_far : (r : ℕ) → r < l.rank → get_or l.internals.items (get_or l.dump.ids (get_or l.places.items r 0) 0) 0 ≡ r;
}
