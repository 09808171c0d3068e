use Rattle.std.proofs.Common.{◌≡◌, ◌++◌, string_bytes}
use Rattle.std.specs.List.{flat_map, range_with_len}
use Rattle.blif_net.specs.GenTexts.{bit_covers}
use Rattle.blif_net.proofs.adders.gen_text.Given as goal

abbrev pub invariant-loop-bit : goal.invariant-loop-bit
invariant-loop-bit l = string_bytes l.text ≡ string_bytes l.initial.text ++ flat_map bit_covers (range_with_len 0 l.bit)
