use Rattle.std.proofs.Common.{◌≡◌, ℕ, None, get_or, length, take}
use Rattle.blif_formals.specs.Titles.{title_of}
use Rattle.blif_formals.proofs.titles.titles_of.Given as goal

abbrev pub invariant-loop-model : goal.invariant-loop-model
invariant-loop-model l = record {
  many : length l.titles.items ≡ l.names;
  titles : (n : ℕ) → get_or l.titles.items n None ≡ title_of (take l.model l.headings) n;
}
