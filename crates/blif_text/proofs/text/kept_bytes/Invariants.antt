use Rattle.std.proofs.Common.{◌≡◌, ◌++◌, length}
use Rattle.blif_text.specs.Text.{kept_bytes, kept_from, lines_of}
use Rattle.blif_text.proofs.text.kept_bytes.Given as goal

abbrev pub invariant-loop-rest : goal.invariant-loop-rest
invariant-loop-rest l = kept_bytes l.text ≡ l.kept.items ++ kept_from l.onward (lines_of l.rest)

abbrev pub decreases-loop-rest : goal.decreases-loop-rest
decreases-loop-rest l = length l.rest
