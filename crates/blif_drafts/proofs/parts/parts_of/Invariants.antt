use Rattle.std.proofs.Common.{◌≡◌, ◌++◌, length}
use Rattle.std.specs.Vec.Iter.{into_iter_items, into_iter_len}
use Rattle.blif_drafts.specs.Parts.{ArePartsOf}
use Rattle.blif_drafts.proofs.parts.parts_of.Given as goal

abbrev pub invariant-loop-draft : goal.invariant-loop-draft
invariant-loop-draft l = (l.fn.drafts.items ≡ l.yielded ++ into_iter_items l.draft-iterator) × (length (into_iter_items l.draft-iterator) ≡ into_iter_len l.draft-iterator) × ArePartsOf l.yielded l.parts
