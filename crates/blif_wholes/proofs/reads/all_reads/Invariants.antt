use Rattle.std.proofs.Common.{◌≡◌, ◌-◌, ◌<◌, ◌^◌, length, map, take}
use Rattle.std.specs.List.{All}
use Rattle.blif_wholes.specs.Arranged.{reads_in}
use Rattle.blif_wholes.proofs.reads.all_reads.Given as goal

abbrev pub invariant-loop-one : goal.invariant-loop-one
invariant-loop-one l = record {
  reads : l.reads.items ≡ map (λ one. reads_in l.names one.cover.ins) (take l.one-index l.covers);
  few : All (λ one. length one < 2 ^ 32 - 1) l.reads.items;
}
