use Rattle.std.proofs.Common.{◌≡◌, ◌++◌, map, take}
use Rattle.std.specs.List.{flat_map}
use Rattle.net_reports.proofs.Texts.{numbered, numbered_line}
use Rattle.net_reports.proofs.reports.put_outputs.Given as goal

abbrev pub invariant-loop-number : goal.invariant-loop-number
invariant-loop-number l =
    l.text.items ≡ l.initial.text.items ++ flat_map numbered_line (take l.number (numbered (map (λ output. output.name) l.outputs) l.classes))
