-- A text as lines, and a line as words.
use Rattle.std.specs.Prelude.{◌≡◌, ℕ, ◌==◌, nat_le, Bool, true, false, ◌&&◌, ◌||◌, not, List, [], ◌∷◌, map, drop, length, slice_index, ℤ, pos, neg_ℤ, Option, Some, None, codes, if◌then◌else◌}
use Rattle.std.specs.List.{slice_split, before_first, list_all, list_any}
use Rattle.std.specs.Char.{is_ascii_digit}
use Rattle.std.specs.Str.{bytes_eq}
use Rattle.std.specs.Str.Parse.{digits_value}
use Rattle.job_words.specs.declared.cutting.ByteClass.TheVariants.{Ascii, BlankOrReturn}
use Rattle.job_words.specs.Classes.{is_in, words_between}

abbrev pub Word : Type 0
Word = List ℕ

-- a byte that may stand in a line
abbrev pub is_allowed : ℕ → Bool
is_allowed b = is_in Ascii b

abbrev pub is_separator : ℕ → Bool
is_separator b = is_in BlankOrReturn b

-- no byte of the word separates words
abbrev pub is_whole : Word → Bool
is_whole word = list_all (λ b. not (is_separator b)) word

-- a last line that is empty is none: it lies behind the last line feed
abbrev pub without_empty_end : List (List ℕ) → List (List ℕ)
without_empty_end [] = []
without_empty_end ([] ∷ []) = []
without_empty_end (line ∷ lines) = line ∷ without_empty_end lines

-- what stands between line feeds
unfoldable pub lines_of : List ℕ → List (List ℕ)
lines_of text = without_empty_end (slice_split (λ b. b == 10) text)

-- what stands between blanks, tabs and carriage returns
unfoldable pub split_words : List ℕ → List Word
split_words bytes = words_between BlankOrReturn bytes

-- the word is one of these
abbrev pub is_among : List Word → Word → Bool
is_among words word = list_any (bytes_eq word) words

-- the words of a line, up to a `#`
unfoldable pub words_of : List ℕ → List Word
words_of line = split_words (before_first (λ b. b == 35) line)

-- the words of a line, and none where a byte may not stand
abbrev pub line_words : List ℕ → Option (List Word)
line_words line = if list_all is_allowed line then Some (words_of line) else None

-- `0`, or digits that do not begin with 0
unfoldable pub is_number : Word → Bool
is_number word = not (length word == 0) && list_all is_ascii_digit word && (not (slice_index word 0 == 48) || length word == 1)

-- a word that is a number, and its value
abbrev pub IsNumber : Word → ℕ → Type 0
IsNumber word n = (is_number word ≡ true) × (digits_value 10 word ≡ n)

-- the word begins with `-`
abbrev pub is_negative : Word → Bool
is_negative word = slice_index word 0 == 45

-- what stands behind a `-`, or the whole word
abbrev pub magnitude : Word → Word
magnitude word = if is_negative word then drop 1 word else word

-- a number, or `-` and a number other than 0
abbrev pub is_integer : Word → Bool
is_integer word = is_number (magnitude word) && not (is_negative word && digits_value 10 (magnitude word) == 0)

abbrev pub integer_value : Word → ℤ
integer_value word = if is_negative word then neg_ℤ (pos (digits_value 10 (magnitude word))) else pos (digits_value 10 (magnitude word))

-- a word that is a whole number, and its value
abbrev pub IsInteger : Word → ℤ → Type 0
IsInteger word w = (is_integer word ≡ true) × (integer_value word ≡ w)

abbrev pub is_letter : ℕ → Bool
is_letter b = (nat_le 65 b && nat_le b 90) || (nat_le 97 b && nat_le b 122)

abbrev pub is_name_byte : ℕ → Bool
is_name_byte b = is_letter b || is_ascii_digit b || b == 95

-- a letter, and then letters, digits and `_`: at most 32 bytes
unfoldable pub is_name : Word → Bool
is_name word = is_letter (slice_index word 0) && list_all is_name_byte word && nat_le (length word) 32

-- 0-1 words: `none` for no bits
abbrev pub bit_word : List Bool → Word
bit_word [] = codes "none"
bit_word (b ∷ bs) = map (λ c. if c then 49 else 48) (b ∷ bs)

-- `0` or `1`
abbrev pub is_bit : Word → Bool
is_bit word = bytes_eq word (codes "0") || bytes_eq word (codes "1")

-- `none`, or characters 0 and 1
abbrev pub is_bits : Word → Bool
is_bits word = bytes_eq word (codes "none") || (not (length word == 0) && list_all (λ b. b == 48 || b == 49) word)

-- how many bits such a word has
abbrev pub bits_in : Word → ℕ
bits_in word = if bytes_eq word (codes "none") then 0 else length word

-- a target, `=` and a command
abbrev pub is_assignment : List Word → Bool
is_assignment (first ∷ second ∷ third ∷ words) = bytes_eq second (codes "=")
is_assignment _ = false
