-- What begins a comment stands in no word.
use Rattle.std.specs.Prelude.{◌≡◌, ℕ, ◌==◌, Bool, true, not, List}
use Rattle.std.specs.List.{list_all, list_any}
use Rattle.blif_text.specs.Text.{Word, joined_lines, words_of}

-- no `#` stands in a word
abbrev pub is_plain : Word → Bool
is_plain word = not (list_any (λ b. b == 35) word)

-- in none of the words of a text
abbrev pub WordsArePlain : Type 0
WordsArePlain = (text : List ℕ) → list_all (λ line. list_all is_plain (words_of line.bytes)) (joined_lines text) ≡ true
