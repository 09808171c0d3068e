use Rattle.std.proofs.Common.{◌≡◌, ◌==◌, map, take}
use Rattle.command_words.proofs.values.bits_of.Given as goal

abbrev pub invariant-loop-b : goal.invariant-loop-b
invariant-loop-b l = l.bits ≡ map (λ b. b == 49) (take l.b-index l.word)
