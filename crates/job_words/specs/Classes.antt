-- Classes of bytes, and what stands between those of one.
use Rattle.std.specs.Prelude.{ℕ, ◌==◌, nat_le, Bool, ◌&&◌, ◌||◌, not, List, [], ◌∷◌, filter, length, if◌then◌else◌}
use Rattle.std.specs.List.{slice_split}
use Rattle.job_words.specs.declared.cutting.ByteClass.{ByteClass}
use Rattle.job_words.specs.declared.cutting.ByteClass.TheVariants.{One, Blank, BlankOrReturn, Ascii, Extended}

-- the byte is of the class
abbrev pub is_in : ByteClass → ℕ → Bool
is_in (One byte) b = b == byte
is_in Blank b = b == 32 || b == 9
is_in BlankOrReturn b = b == 32 || b == 9 || b == 13
is_in Ascii b = b == 9 || b == 13 || (nat_le 32 b && nat_le b 126)
is_in Extended b = b == 9 || (nat_le 32 b && not (b == 127))

-- a word has bytes
abbrev pub has_bytes : List ℕ → Bool
has_bytes word = not (length word == 0)

-- the bytes as a word, where there are any
abbrev pub some_word : List ℕ → List (List ℕ)
some_word bytes = if has_bytes bytes then bytes ∷ [] else []

-- what stands between separators, unless it is nothing
unfoldable pub words_between : ByteClass → List ℕ → List (List ℕ)
words_between separator bytes = filter has_bytes (slice_split (is_in separator) bytes)
