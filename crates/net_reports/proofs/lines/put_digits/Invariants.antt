use Rattle.std.proofs.Common.{◌≡◌, ◌++◌, map, take}
use Rattle.net_reports.specs.Reports.{digit}
use Rattle.net_reports.proofs.lines.put_digits.Given as goal

abbrev pub invariant-loop-bit : goal.invariant-loop-bit
invariant-loop-bit l = l.text.items ≡ l.initial.text.items ++ map digit (take l.bit-index l.bits)
