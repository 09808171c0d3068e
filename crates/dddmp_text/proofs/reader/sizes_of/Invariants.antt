use Rattle.std.proofs.Common.{◌≡◌, map, take, nat_abs}
use Rattle.dddmp_text.proofs.reader.sizes_of.Given as goal

abbrev pub invariant-loop-number : goal.invariant-loop-number
invariant-loop-number l = l.sizes.items ≡ map nat_abs (take l.number-index l.numbers)
