-- Texts as lines of words.
use Rattle.std.specs.Prelude.{ℕ, List, [], ◌∷◌, ◌++◌, codes}
use Rattle.std.specs.List.{flat_map}
use Rattle.job_words.specs.Text.{Word}

-- each word behind a blank
abbrev pub spaced : List Word → List ℕ
spaced words = flat_map (λ word. 32 ∷ word) words

-- the words of a line, with a blank between each two
abbrev pub line_with : List Word → List ℕ
line_with [] = []
line_with (word ∷ words) = word ++ spaced words

-- each line with its line feed
abbrev pub text_of : List (List Word) → List ℕ
text_of lines = flat_map (λ words. line_with words ++ codes "\n") lines
