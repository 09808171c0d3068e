use Rattle.std.proofs.Common.{◌≡◌, ◌<◌, ◌++◌, length, map}
use Rattle.std.specs.List.{All}
use Rattle.blif_text.specs.Text.{words_of}
use Rattle.blif_text.proofs.text.put_words.Given as goal

abbrev pub invariant-loop-rest : goal.invariant-loop-rest
invariant-loop-rest l = record {
  words : words_of l.line ≡ map (λ word. word.now) l.words.items ++ words_of l.rest;
  some : All (λ word. 0 < length word.now) l.words.items;
}

abbrev pub decreases-loop-rest : goal.decreases-loop-rest
decreases-loop-rest l = length l.rest
