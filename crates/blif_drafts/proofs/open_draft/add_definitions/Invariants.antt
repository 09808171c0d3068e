use Rattle.std.proofs.Common.{◌≡◌, ◌++◌, map, take}
use Rattle.blif_formals.specs.Definitions.{defined}
use Rattle.blif_drafts.proofs.open_draft.add_definitions.Given as goal

abbrev pub invariant-loop-number : goal.invariant-loop-number
invariant-loop-number l = l.inputs ≡ l.initial.inputs ++ map (defined l.line) (take l.number-index l.numbers)
