use Rattle.std.proofs.Common.{◌≡◌, ◌++◌, take}
use Rattle.std.specs.List.{flat_map}
use Rattle.net_reports.specs.Reports.{eval_line}
use Rattle.net_reports.proofs.reports.put_evaluations.Given as goal

abbrev pub invariant-loop-evaluation : goal.invariant-loop-evaluation
invariant-loop-evaluation l =
    l.text.items ≡ l.initial.text.items ++ flat_map (λ one. eval_line one.pattern one.values) (take l.evaluation-index l.evaluations)
