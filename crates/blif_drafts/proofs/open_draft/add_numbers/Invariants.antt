use Rattle.std.proofs.Common.{◌≡◌, ◌++◌, take}
use Rattle.blif_drafts.proofs.open_draft.add_numbers.Given as goal

abbrev pub invariant-loop-number : goal.invariant-loop-number
invariant-loop-number l = l.numbers ≡ l.initial.numbers ++ take l.number-index l.more
