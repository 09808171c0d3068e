use Rattle.std.proofs.Common.{◌≡◌, ℕ, None, get_or, length, take}
use Rattle.blif_models.specs.ModelFaults.{least}
use Rattle.blif_formals.specs.Clashes.{clashes}
use Rattle.blif_formals.proofs.Clashing.{lines_of}
use Rattle.blif_formals.proofs.clashes.clash_line.Given as goal

abbrev pub invariant-loop-one : goal.invariant-loop-one
invariant-loop-one l = record {
  many : length l.lines.items ≡ l.names;
  lines : (n : ℕ) → get_or l.lines.items n None ≡ least (lines_of n (take l.one-index l.definitions));
  clash : l.clash ≡ least (clashes (take l.one-index l.definitions));
}
