use Rattle.std.proofs.Common.{sym, subst}
use Rattle.words_holder.specs.Holders.{IsSpareRoom}
use Rattle.table_shelves.proofs.shelf.TableShelfShelf.next_slot.Goals as goal

pub invariant_of-shelf : goal.invariant_of-shelf
invariant_of-shelf c = record { some = c.in-Free.shelf.some; spare = λ r is. subst (λ n. IsSpareRoom n r) (sym c.take_first.ensures.room) (c.in-Free.shelf.spare r is) }
