use Rattle.std.proofs.Common.{◌≡◌, ◌<◌, ℕ, length, get_or, Some}
use Rattle.function_laws.specs.declared.history.Name.{Name}
use Rattle.net_builds.specs.Building.{row_at}
use Rattle.net_builds.proofs.rows.note_names.Given as goal

abbrev pub invariant-loop-number : goal.invariant-loop-number
invariant-loop-number l = record {
  long : length l.names ≡ length l.own;
  noted : (i : ℕ) (d : ℕ) (e : Name) → i < l.number → row_at l.rows (get_or l.own i d) ≡ Some (get_or l.names i e);
}
