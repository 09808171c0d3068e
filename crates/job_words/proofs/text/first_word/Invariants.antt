use Rattle.std.proofs.Common.{◌≡◌, length}
use Rattle.job_words.specs.Text.{split_words}
use Rattle.job_words.proofs.text.first_word.Given as goal

abbrev pub invariant-loop-rest : goal.invariant-loop-rest
invariant-loop-rest l = split_words l.line ≡ split_words l.rest

abbrev pub decreases-loop-rest : goal.decreases-loop-rest
decreases-loop-rest l = length l.rest
