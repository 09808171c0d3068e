use Rattle.std.proofs.Common.{◌≡◌, take}
use Rattle.blif_wholes.specs.Arranged.{reads_in}
use Rattle.blif_wholes.proofs.reads.reads_of.Given as goal

abbrev pub invariant-loop-number : goal.invariant-loop-number
invariant-loop-number l = l.reads ≡ reads_in l.names (take l.number-index l.ins)
