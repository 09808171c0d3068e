use Rattle.std.proofs.Common.{◌≡◌, ◌≤◌, ◌+◌, ◌++◌, ℕ, List, length}
use Rattle.job_words.specs.Text.{lines_of}
use Rattle.job_text.proofs.Reading.{IsRead}
use Rattle.job_text.proofs.reader.parse.Given as goal

abbrev pub invariant-loop-rest : goal.invariant-loop-rest
invariant-loop-rest l = record {
  read : (lines : List (List ℕ)) × (lines_of l.text ≡ lines ++ lines_of l.rest) × IsRead lines l.draft × (l.line ≡ length lines);
  budget : l.line + length l.rest ≤ length l.text;
}

abbrev pub decreases-loop-rest : goal.decreases-loop-rest
decreases-loop-rest l = length l.rest
