use Rattle.std.proofs.Common.{◌≡◌, ◌++◌, length, take}
use Rattle.std.specs.List.{flat_map}
use Rattle.net_reports.specs.Reports.{root_names}
use Rattle.net_reports.proofs.Texts.{numbered, numbered_line}
use Rattle.net_reports.proofs.reports.put_roots.Given as goal

abbrev pub invariant-loop-number : goal.invariant-loop-number
invariant-loop-number l =
    l.text.items ≡ l.initial.text.items ++ flat_map numbered_line (take l.number-counter (numbered (root_names (length l.classes)) l.classes))
