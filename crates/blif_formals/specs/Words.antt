-- Words by number: each stands once, in the order in which they came.
use Rattle.std.specs.Prelude.{◌≡◌, ℕ, Bool, true, List, [], ◌∷◌, ◌++◌, Some, map, slice_get, if◌then◌else◌}
use Rattle.std.specs.Global.{Vec}
use Rattle.std.specs.List.{list_all}
use Rattle.job_words.specs.Text.{Word, is_among}

-- the words of an index
abbrev pub words_of : List (Vec ℕ) → List Word
words_of keys = map (λ key. key.items) keys

-- the words with one more, unless it is there
abbrev pub with_word : List Word → Word → List Word
with_word words word = if is_among words word then words else words ++ word ∷ []

-- no word has two numbers
abbrev pub HaveOneNumber : List Word → Type 0
HaveOneNumber words = (i j : ℕ) (word : Word) → slice_get words i ≡ Some word → slice_get words j ≡ Some word → i ≡ j

-- each new name is an old one or stands among these words: whatever all of those are, it is
abbrev pub AddsOnly : List Word → List Word → List Word → Type 0
AddsOnly old words new = (p : Word → Bool) → list_all p old ≡ true → list_all p words ≡ true → list_all p new ≡ true

-- words keep their numbers where one more comes, and it has one number too
pub record NumbersStay : Type 0 where
  pub stay : (words : List Word) (more : Word) (i : ℕ) (word : Word) → slice_get words i ≡ Some word → slice_get (with_word words more) i ≡ Some word
  pub one : (words : List Word) (more : Word) → HaveOneNumber words → HaveOneNumber (with_word words more)
