use Rattle.std.proofs.Common.{◌≡◌, ◌++◌, length}
use Rattle.std.specs.Vec.Iter.{into_iter_items, into_iter_len}
use Rattle.blif_wholes.specs.Parting.{covers_laid, latches_laid}
use Rattle.blif_wholes.proofs.parting.parts_of.Given as goal

abbrev pub invariant-loop-one : goal.invariant-loop-one
invariant-loop-one l = record {
  all : l.fn.laid.items ≡ l.yielded ++ into_iter_items l.one-iterator;
  many : length (into_iter_items l.one-iterator) ≡ into_iter_len l.one-iterator;
  covers : l.covers.items ≡ covers_laid l.yielded;
  latches : l.latches.items ≡ latches_laid l.yielded;
}
