-- What instances join, by number: a formal name's number is one in the model that is joined, an actual name's one in the model in which
-- the instance stands.
use Rattle.std.specs.Prelude.{◌≡◌, ℕ, List, [], ◌∷◌, Some, drop, map, slice_get}
use Rattle.job_words.specs.Text.{Word}
use Rattle.blif_models.specs.declared.numbered.NumberedJoin.{NumberedJoin}
use Rattle.blif_models.specs.Models.{Instance, join_of, joins_of}
use Rattle.blif_models.specs.Numberings.{AreJoinsOf, words_at}
use Rattle.blif_formals.specs.Parting.{JoinNumbers}
use Rattle.blif_formals.specs.Words.{HaveOneNumber}

-- Words keep their numbers among these others, and none gets two.
pub record Keeps (old new : List Word) : Type 0 where
  pub stay : (i : ℕ) (word : Word) → slice_get old i ≡ Some word → slice_get new i ≡ Some word
  pub one : HaveOneNumber old → HaveOneNumber new

-- the actual names that words join have these numbers, one by one
abbrev pub AreActuals : List Word → List Word → List ℕ → Type 0
AreActuals names [] [] = Unit {0}
AreActuals names (word ∷ words) (n ∷ ns) = (slice_get names n ≡ Some (join_of word).actual) × AreActuals names words ns
AreActuals names _ _ = ⊥

-- the joins are those of words to actual names of these numbers
abbrev pub AreJoinNumbers : List Word → List Word → List ℕ → List NumberedJoin → Type 0
AreJoinNumbers names words actuals joins = JoinNumbers names words (map (λ join. join.formal) joins) × (map (λ join. join.actual) joins ≡ actuals)

-- What instances join is the same by numbers and by names, where words keep their numbers.
pub record JoinsAgree : Type 0 where
  pub kept : (old new words : List Word) (actuals : List ℕ) → Keeps old new → AreActuals old words actuals → AreActuals new words actuals
  pub joins : (all : List (List Word)) (m inner : ℕ) (instance : Instance) (words : List Word) (actuals : List ℕ) (joins : List NumberedJoin) → drop 1 instance.words ≡ words → AreActuals (words_at all m) words actuals
      → AreJoinNumbers (words_at all inner) words actuals joins → AreJoinsOf all m inner joins (joins_of instance)
