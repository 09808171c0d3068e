use Rattle.std.proofs.Common.{◌≡◌, ◌+◌, take}
use Rattle.std.specs.Prelude.{get_or, sum_by}
use Rattle.blif_models.specs.Graphs.{capped}
use Rattle.blif_models.proofs.totals.total_of.Given as goal

abbrev pub invariant-loop-model : goal.invariant-loop-model
invariant-loop-model l = l.total ≡ capped (l.fn.own + sum_by (λ m. get_or l.totals m 0) (take l.model-index l.held))
