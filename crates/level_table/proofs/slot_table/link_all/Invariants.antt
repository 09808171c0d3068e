use Rattle.std.proofs.Common.{length}
use Rattle.level_table.specs.Chains.{IsChained}
use Rattle.level_table.proofs.Slots.{buckets_below}
use Rattle.level_table.proofs.slot_table.link_all.Given as goal

abbrev pub invariant-loop-slot : goal.invariant-loop-slot
invariant-loop-slot l = IsChained (buckets_below l.words (length l.heads) l.slot) l.heads l.links
