use Rattle.std.proofs.Common.{◌≡◌, ◌+◌, ◌<◌, ℕ, Some, length}
use Rattle.std.specs.Prelude.{slice_get}
use Rattle.blif_wholes.proofs.building.cover_signals.Given as goal

abbrev pub invariant-loop-cover : goal.invariant-loop-cover
invariant-loop-cover l = record {
  many : length l.signals.items ≡ l.covers;
  signal : l.signal ≡ l.first + l.cover-index;
  placed : (p c : ℕ) → p < l.cover-index → slice_get l.order p ≡ Some c → slice_get l.signals.items c ≡ Some (l.first + p);
}
