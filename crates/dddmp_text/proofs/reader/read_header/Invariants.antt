use Rattle.std.proofs.Common.{◌≤◌, ◌+◌, length}
use Rattle.job_words.specs.Text.{lines_of}
use Rattle.dddmp_text.specs.Faults.{at_start, heading}
use Rattle.dddmp_text.specs.Reading.{AreLeft}
use Rattle.dddmp_text.proofs.reader.read_header.Given as goal

abbrev pub invariant-loop-rest : goal.invariant-loop-rest
invariant-loop-rest l = record {
  left : AreLeft 1 at_start (lines_of l.text) l.number (heading l.given) l.rest;
  budget : l.number + length l.rest ≤ 1 + length l.text;
}

abbrev pub decreases-loop-rest : goal.decreases-loop-rest
decreases-loop-rest l = length l.rest
