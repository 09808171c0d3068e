use Rattle.std.proofs.Common.{◌≡◌, ◌==◌, ◌<◌, ℕ, false, get_or, length, take}
use Rattle.std.specs.List.{list_any}
use Rattle.diagram_dumps.proofs.listings.marks_of.Given as goal

abbrev pub invariant-loop-line : goal.invariant-loop-line
invariant-loop-line l = record {
  as_many : length l.marks.items ≡ l.vars;
  told : (v : ℕ) → v < l.vars → get_or l.marks.items v false ≡ list_any (λ line. line.var == v) (take l.line-index l.lines);
}
