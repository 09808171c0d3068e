use Rattle.std.proofs.Common.{◌≡◌, take}
use Rattle.blif_dump.specs.Calls.{names_in}
use Rattle.blif_dump.specs.Marks.{most_marks}
use Rattle.blif_dump.proofs.names.most_marks.Given as goal

abbrev pub invariant-loop-name : goal.invariant-loop-name
invariant-loop-name l = l.most ≡ most_marks l.least (names_in (take l.name-index l.names))
