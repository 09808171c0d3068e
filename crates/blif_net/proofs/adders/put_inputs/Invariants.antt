use Rattle.std.proofs.Common.{◌≡◌, ◌++◌, string_bytes}
use Rattle.blif_net.specs.GenTexts.{inputs_below}
use Rattle.blif_net.proofs.adders.put_inputs.Given as goal

abbrev pub invariant-loop-bit : goal.invariant-loop-bit
invariant-loop-bit l = string_bytes l.text ++ inputs_below l.bit-counter ≡ string_bytes l.initial.text ++ inputs_below l.bits
