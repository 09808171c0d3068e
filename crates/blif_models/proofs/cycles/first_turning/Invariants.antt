use Rattle.std.proofs.Common.{◌≡◌, drop}
use Rattle.std.specs.Prelude.{find}
use Rattle.blif_models.specs.Graphs.{turns_back}
use Rattle.blif_models.proofs.cycles.first_turning.Given as goal

abbrev pub invariant-loop-one : goal.invariant-loop-one
invariant-loop-one l = find (turns_back l.holds) l.holdings ≡ find (turns_back l.holds) (drop l.one-index l.holdings)
