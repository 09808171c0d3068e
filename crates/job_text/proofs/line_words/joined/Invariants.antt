use Rattle.std.proofs.Common.{◌≡◌, ◌==◌, ◌∷◌, ◌++◌, List, length}
use Rattle.std.specs.List.{slice_split}
use Rattle.job_words.specs.Text.{Word, split_words}
use Rattle.job_text.proofs.line_words.joined.Given as goal

abbrev pub invariant-loop-word : goal.invariant-loop-word
invariant-loop-word l = (front : List Word) × (split_words l.rest ≡ front ++ split_words l.left) × (slice_split (λ b. b == 32) l.text.items ≡ l.first ∷ front)

abbrev pub decreases-loop-word : goal.decreases-loop-word
decreases-loop-word l = length (split_words l.left)
