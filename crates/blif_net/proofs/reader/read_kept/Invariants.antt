use Rattle.std.proofs.Common.{◌≡◌, ◌≤◌, ◌+◌, length}
use Rattle.blif_text.specs.Text.{kept_bytes}
use Rattle.blif_net.proofs.TextLines.{IsReadOf}
use Rattle.blif_net.proofs.reader.read_kept.Given as goal

abbrev pub invariant-loop-rest : goal.invariant-loop-rest
invariant-loop-rest l = record {
  kept : l.kept ≡ kept_bytes l.rest;
  read : IsReadOf l.text l.rest l.number l.last l.reading;
  budget : l.number + length l.rest ≤ 1 + length l.text;
}

abbrev pub decreases-loop-rest : goal.decreases-loop-rest
decreases-loop-rest l = length l.rest
