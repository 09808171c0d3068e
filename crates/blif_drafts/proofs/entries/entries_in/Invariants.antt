use Rattle.std.proofs.Common.{◌≡◌, ◌++◌, ◌≤◌, length}
use Rattle.std.specs.Vec.Iter.{into_iter_items, into_iter_len}
use Rattle.blif_drafts.specs.Entries.{AreEntriesBy, instances_among}
use Rattle.blif_drafts.proofs.entries.entries_in.Given as goal

abbrev pub invariant-loop-item : goal.invariant-loop-item
invariant-loop-item l =
    (l.fn.items ≡ l.yielded ++ into_iter_items l.item-iterator) × (length (into_iter_items l.item-iterator) ≡ into_iter_len l.item-iterator) × (l.place ≡ instances_among l.yielded) × (l.place ≤ length l.calls)
    × AreEntriesBy l.callees l.calls l.joined 0 l.yielded l.entries
