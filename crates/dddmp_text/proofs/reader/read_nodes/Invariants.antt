use Rattle.std.proofs.Common.{◌≤◌, ◌+◌, [], length, false}
use Rattle.job_words.specs.Text.{lines_of}
use Rattle.dddmp_text.specs.Faults.{listing}
use Rattle.dddmp_text.specs.Reading.{AreLeft, IsEmptyAtStart}
use Rattle.dddmp_text.proofs.reader.read_nodes.Given as goal

abbrev pub invariant-loop-rest : goal.invariant-loop-rest
invariant-loop-rest l = record {
  left : AreLeft l.headed.number (listing l.headed.given false []) (lines_of l.headed.rest.now) l.number (listing l.headed.given l.listed.started l.listed.nodes) l.rest;
  empty : IsEmptyAtStart l.listed;
  budget : l.number + length l.rest ≤ l.headed.number + length l.headed.rest.now;
}

abbrev pub decreases-loop-rest : goal.decreases-loop-rest
decreases-loop-rest l = length l.rest
