use Rattle.std.proofs.Common.{vec_len, ◌-◌, ◌+◌, ◌≡◌, ◌≤◌}
use Rattle.std.specs.Io.KnownBytes.{Consumes}
use Rattle.byte_streams.proofs.reading.read_to_end.Given as goal

abbrev pub invariant-loop-text : goal.invariant-loop-text
invariant-loop-text g l = record {
  chunk : vec_len l.chunk ≡ 16384;
  within : vec_len l.text ≤ l.limit + 1;
  front : Consumes (g.S.Source.left l.fn.source) (g.S.Source.left l.source) l.text.items;
  later : g.S.Source.faults l.fn.source ≤ g.S.Source.faults l.source;
}

abbrev pub decreases-loop-text : goal.decreases-loop-text
decreases-loop-text g l = l.limit + 1 - vec_len l.text
