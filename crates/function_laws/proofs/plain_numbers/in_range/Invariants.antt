use Rattle.std.proofs.Common.{◌≡◌, true, take}
use Rattle.std.specs.List.{list_all}
use Rattle.function_laws.specs.Numbers.{is_value}
use Rattle.function_laws.proofs.plain_numbers.in_range.Given as goal

abbrev pub invariant-loop-z : goal.invariant-loop-z
invariant-loop-z l = (l.values.items ≡ take l.z-index l.exact) × (list_all is_value l.values.items ≡ true)
