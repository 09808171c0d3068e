use Rattle.std.proofs.Common.{◌≡◌, get_or, map, take}
use Rattle.blif_models.specs.Additions.{adding_by}
use Rattle.blif_models.proofs.adding.additions_of.Given as goal

abbrev pub invariant-loop-entry : goal.invariant-loop-entry
invariant-loop-entry l = l.adding.items ≡ map (adding_by (λ m. get_or l.signals m 0) (λ m. get_or l.latches m 0)) (take l.entry-index l.entries)
