use Rattle.std.proofs.Common.{◌≡◌, map, take}
use Rattle.std.specs.List.{list_all}
use Rattle.command_words.specs.Values.{is_pattern}
use Rattle.command_words.proofs.values.are_patterns.Given as goal

abbrev pub invariant-loop-word : goal.invariant-loop-word
invariant-loop-word l = l.all ≡ list_all is_pattern (map (λ w. w.now) (take l.word-index l.words))
