use Rattle.std.proofs.Common.{◌≡◌, ◌++◌, string_bytes}
use Rattle.std.specs.List.{flat_map, range_with_len}
use Rattle.blif_net.specs.GenTexts.{outputs_of}
use Rattle.blif_net.proofs.adders.put_outputs.Given as goal

abbrev pub invariant-loop-bit : goal.invariant-loop-bit
invariant-loop-bit l = string_bytes l.text ≡ string_bytes l.initial.text ++ flat_map outputs_of (range_with_len 0 l.bit-counter)
