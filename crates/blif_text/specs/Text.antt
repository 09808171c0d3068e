-- A text as joined lines, and a line as words.
use Rattle.std.specs.Prelude.{ℕ, ◌+◌, ◌-◌, ◌==◌, nat_eq, Bool, false, not, ◌&&◌, ◌||◌, List, [], ◌∷◌, ◌++◌, length, take, if◌then◌else◌}
use Rattle.std.specs.List.{slice_split, before_first, list_any, ends_with}
use Rattle.job_words.specs.declared.cutting.ByteClass.TheVariants.{Blank, Extended}
use Rattle.job_words.specs.Classes.{is_in, words_between}

abbrev pub Word : Type 0
Word = List ℕ

abbrev pub without_last : List ℕ → List ℕ
without_last line = take (length line - 1) line

-- a carriage return before a line feed is taken off
abbrev pub without_return : List ℕ → List ℕ
without_return line = if ends_with nat_eq line (13 ∷ []) then without_last line else line

-- the line, unless it is empty
abbrev pub unless_empty : List ℕ → List (List ℕ)
unless_empty [] = []
unless_empty (b ∷ bytes) = (b ∷ bytes) ∷ []

-- what stands before line feeds, and what stands behind the last one unless that is nothing
abbrev pub physical : List (List ℕ) → List (List ℕ)
physical [] = []
physical (last ∷ []) = unless_empty last
physical (line ∷ next ∷ lines) = without_return line ∷ physical (next ∷ lines)

-- the physical lines of a text
unfoldable pub lines_of : List ℕ → List (List ℕ)
lines_of text = physical (slice_split (λ b. b == 10) text)

-- the line goes on in the next one: it ends with `\` and has no `#`
abbrev pub goes_on : List ℕ → Bool
goes_on line = not (list_any (λ b. b == 35) line) && ends_with nat_eq line (92 ∷ [])

-- what is left of a line without its comment, and without the `\` by which it goes on
abbrev pub left_of : List ℕ → List ℕ
left_of line = if goes_on line then without_last line else before_first (λ b. b == 35) line

-- A joined line: the number of its first physical line, from 1, and its bytes.
pub record Line : Type 0 where
  pub number : ℕ
  pub bytes : List ℕ

abbrev pub line_at : ℕ → List ℕ → Line
line_at number bytes = record { number = number; bytes = bytes }

-- these bytes with the first of the lines behind them, if there is one
abbrev pub onto_next : ℕ → List ℕ → List Line → List Line
onto_next number bytes [] = line_at number bytes ∷ []
onto_next number bytes (next ∷ lines) = line_at number (bytes ++ next.bytes) ∷ lines

-- the joined lines of physical lines that are numbered from `number` on
unfoldable pub joined_from : ℕ → List (List ℕ) → List Line
joined_from number [] = []
joined_from number (line ∷ lines) =
    if goes_on line then onto_next number (left_of line) (joined_from (number + 1) lines) else line_at number (left_of line) ∷ joined_from (number + 1) lines

-- the joined lines of a text
abbrev pub joined_lines : List ℕ → List Line
joined_lines text = joined_from 1 (lines_of text)

-- what is kept of a line: all of it where it goes on, or where the one before it goes on in it
abbrev pub kept_piece : Bool → List ℕ → List ℕ
kept_piece onward line = if onward || goes_on line then left_of line else []

-- the bytes of those joined lines that are put together from several, one behind another
unfoldable pub kept_from : Bool → List (List ℕ) → List ℕ
kept_from onward [] = []
kept_from onward (line ∷ lines) = kept_piece onward line ++ kept_from (goes_on line) lines

abbrev pub kept_bytes : List ℕ → List ℕ
kept_bytes text = kept_from false (lines_of text)

-- a byte that may stand in a line: a tab, a blank, 33 to 126 and 128 to 255
abbrev pub is_allowed : ℕ → Bool
is_allowed b = is_in Extended b

-- what stands between blanks and tabs, unless it is nothing
abbrev pub words_of : List ℕ → List Word
words_of bytes = words_between Blank bytes
