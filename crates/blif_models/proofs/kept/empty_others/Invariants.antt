use Rattle.std.proofs.Common.{◌≡◌, ◌++◌, drop, take}
use Rattle.blif_models.specs.Graphs.{is_met}
use Rattle.blif_models.specs.Kept.{kept_from}
use Rattle.blif_models.proofs.kept.empty_others.Given as goal

abbrev pub invariant-loop-place : goal.invariant-loop-place
invariant-loop-place l = l.models.items ≡ kept_from (is_met l.met) 0 (take l.place l.initial.models.items) ++ drop l.place l.initial.models.items
