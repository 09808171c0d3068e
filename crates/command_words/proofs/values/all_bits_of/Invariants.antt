use Rattle.std.proofs.Common.{◌≡◌, map, take}
use Rattle.command_words.specs.Values.{pattern_of}
use Rattle.command_words.proofs.values.all_bits_of.Given as goal

abbrev pub invariant-loop-word : goal.invariant-loop-word
invariant-loop-word l = l.patterns ≡ map pattern_of (map (λ w. w.now) (take l.word-index l.words))
