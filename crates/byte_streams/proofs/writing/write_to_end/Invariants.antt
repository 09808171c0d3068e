use Rattle.std.proofs.Common.{length, ◌-◌, ◌≤◌, take}
use Rattle.std.specs.Io.KnownBytes.{Appends}
use Rattle.byte_streams.proofs.writing.write_to_end.Given as goal

abbrev pub invariant-loop-done : goal.invariant-loop-done
invariant-loop-done g l = record {
  within : l.done ≤ length l.bytes;
  front : Appends (g.K.Sink.written l.fn.sink) (g.K.Sink.written l.sink) (take l.done l.bytes);
  later : g.K.Sink.faults l.fn.sink ≤ g.K.Sink.faults l.sink;
}

abbrev pub decreases-loop-done : goal.decreases-loop-done
decreases-loop-done g l = length l.bytes - l.done
