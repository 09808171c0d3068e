use Rattle.std.proofs.Common.{◌≡◌, map, take}
use Rattle.blif_formals.proofs.actuals.joins_from.Given as goal

abbrev pub invariant-loop-place : goal.invariant-loop-place
invariant-loop-place l = record {
  formals : map (λ join. join.formal) l.joins ≡ take l.place l.formals;
  actuals : map (λ join. join.actual) l.joins ≡ take l.place l.actuals;
}
