-- The words behind options and commands: numbers in range, and bits.
use Rattle.std.specs.Prelude.{ℕ, ◌==◌, nat_le, Bool, not, ◌&&◌, ◌||◌, List, Option, Some, None, length, map, if◌then◌else◌}
use Rattle.std.specs.List.{list_all}
use Rattle.std.specs.Str.Parse.{digits_value}
use Rattle.edge_bits.specs.declared.limits.TheConstants.{LONGEST_PATTERN}
use Rattle.job_words.specs.Text.{Word, is_number}

-- a number in range, written without a sign or a leading zero
abbrev pub number_in : ℕ → ℕ → Word → Option ℕ
number_in least most word =
    if is_number word && nat_le least (digits_value 10 word) && nat_le (digits_value 10 word) most then Some (digits_value 10 word) else None

-- the same of an option's word; where it is not given, the usual number
abbrev pub number_or : ℕ → ℕ → ℕ → Option Word → Option ℕ
number_or usual least most None = Some usual
number_or usual least most (Some word) = number_in least most word

-- characters 0 and 1, at least one and not more than a pattern may have
abbrev pub is_pattern : Word → Bool
is_pattern word = not (length word == 0) && nat_le (length word) LONGEST_PATTERN && list_all (λ b. b == 48 || b == 49) word

-- the bits that the characters are
abbrev pub pattern_of : Word → List Bool
pattern_of word = map (λ b. b == 49) word

-- the patterns that the words are, if each is one
abbrev pub patterns_of : List Word → Option (List (List Bool))
patterns_of words = if list_all is_pattern words then Some (map pattern_of words) else None
