use Rattle.std.proofs.Common.{◌≡◌, take}
use Rattle.blif_drafts.specs.Parts.{names_by}
use Rattle.blif_drafts.proofs.parts.names_by.Given as goal

abbrev pub invariant-loop-one : goal.invariant-loop-one
invariant-loop-one l = l.names ≡ names_by (take l.one-index l.ones)
