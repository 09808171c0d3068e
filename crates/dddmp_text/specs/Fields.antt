-- The lines of a stored diagram: header fields and node lines.
use Rattle.std.specs.Prelude.{ℕ, ◌^◌, ◌==◌, nat_lt, nat_le, Bool, false, not, ◌&&◌, ◌||◌, List, [], ◌∷◌, ℤ, pos, Option, Some, None, map, find, codes, nat_abs}
use Rattle.std.specs.List.{list_any, list_all}
use Rattle.std.specs.Option.{option_map, unwrap_or}
use Rattle.std.specs.Str.{bytes_eq}
use Rattle.std.specs.Str.Parse.{digits_value}
use Rattle.job_words.specs.Text.{Word, is_number, is_integer, integer_value}
use Rattle.dddmp_text.specs.declared.fields.Field.{Field}
use Rattle.dddmp_text.specs.declared.fields.Field.TheVariants.{Ver, Mode, Varinfo, Nnodes, Nvars, Nsuppvars, Ids, Permids, Nroots, Rootids}
use Rattle.dddmp_text.specs.declared.fields.Given.{Given}

-- the words that are passed over before `.nodes`, with all that stands behind them on their lines
abbrev pub passed_words : List Word
passed_words =
    codes ".dd" ∷ codes ".suppvarnames" ∷ codes ".orderedvarnames" ∷ codes ".varnames" ∷ codes ".auxids" ∷ codes ".rootnames" ∷ []

-- the ten words that are due
abbrev pub word_of : Field → Word
word_of Ver = codes ".ver"
word_of Mode = codes ".mode"
word_of Varinfo = codes ".varinfo"
word_of Nnodes = codes ".nnodes"
word_of Nvars = codes ".nvars"
word_of Nsuppvars = codes ".nsuppvars"
word_of Ids = codes ".ids"
word_of Permids = codes ".permids"
word_of Nroots = codes ".nroots"
word_of Rootids = codes ".rootids"

abbrev pub all_fields : List Field
all_fields = Ver ∷ Mode ∷ Varinfo ∷ Nnodes ∷ Nvars ∷ Nsuppvars ∷ Ids ∷ Permids ∷ Nroots ∷ Rootids ∷ []

abbrev pub field_of : Word → Option Field
field_of word = find (λ field. bytes_eq (word_of field) word) all_fields

-- a number below 2 ^ 31
abbrev pub is_small : Word → Bool
is_small word = is_number word && nat_lt (digits_value 10 word) (2 ^ 31)

-- a whole number below 2 ^ 31 in magnitude
abbrev pub is_small_integer : Word → Bool
is_small_integer word = is_integer word && nat_lt (nat_abs (integer_value word)) (2 ^ 31)

-- the words are one number below 2 ^ 31
abbrev pub is_one_number : List Word → Bool
is_one_number (word ∷ []) = is_small word
is_one_number _ = false

abbrev pub is_one_word : Word → List Word → Bool
is_one_word due (word ∷ []) = bytes_eq word due
is_one_word due _ = false

abbrev pub value_or : List ℤ → ℤ
value_or [] = pos 0
value_or (value ∷ values) = value

-- what stands behind a field's word has its form
abbrev pub has_form : Field → List Word → Bool
has_form Ver words = is_one_word (codes "DDDMP-2.0") words
has_form Mode words = is_one_word (codes "A") words
has_form Varinfo words = is_one_number words && nat_le (nat_abs (value_or (map integer_value words))) 4
has_form Nnodes words = is_one_number words
has_form Nvars words = is_one_number words
has_form Nsuppvars words = is_one_number words
has_form Ids words = list_all is_small words
has_form Permids words = list_all is_small words
has_form Nroots words = is_one_number words
has_form Rootids words = list_all is_small_integer words

-- the numbers behind a field's word; the version and the mode have none
abbrev pub numbers_of : Field → List Word → List ℤ
numbers_of Ver words = []
numbers_of Mode words = []
numbers_of field words = map integer_value words

-- two fields are one
abbrev pub same_field : Field → Field → Bool
same_field one other = bytes_eq (word_of one) (word_of other)

-- the numbers of a field among those that were given, if it was
abbrev pub given_for : List Given → Field → Option (List ℤ)
given_for given field = option_map (λ found. found.numbers) (find (λ known. same_field known.field field) given)

abbrev pub is_given : List Given → Field → Bool
is_given given field = list_any (λ known. same_field known.field field) given

-- the numbers of a list field, and the number of another
abbrev pub whole_numbers : List Given → Field → List ℤ
whole_numbers given field = unwrap_or (given_for given field) []

abbrev pub numbers : List Given → Field → List ℕ
numbers given field = map nat_abs (whole_numbers given field)

abbrev pub number : List Given → Field → ℕ
number given field = nat_abs (value_or (whole_numbers given field))

-- the three lines of the constant one
abbrev pub is_terminal : List Word → Bool
is_terminal (one ∷ other ∷ third ∷ fourth ∷ []) =
    bytes_eq one (codes "1") && (bytes_eq other (codes "T") || bytes_eq other (codes "1")) && bytes_eq third (codes "0") && bytes_eq fourth (codes "0")
is_terminal (one ∷ other ∷ third ∷ fourth ∷ fifth ∷ []) =
    bytes_eq one (codes "1") && bytes_eq other (codes "T") && bytes_eq third (codes "1") && bytes_eq fourth (codes "0") && bytes_eq fifth (codes "0")
is_terminal _ = false

-- The words of a node line that are read: its index, its internal index, and its children.
pub record Fields : Type 0 where
  pub index : Word
  pub internal : Word
  pub hi : Word
  pub lo : Word

-- of a line with five fields the second is passed over, of one with four it is not there
abbrev pub fields_of : List Word → Option Fields
fields_of (index ∷ internal ∷ hi ∷ lo ∷ []) = Some (record { index = index; internal = internal; hi = hi; lo = lo })
fields_of (index ∷ id ∷ internal ∷ hi ∷ lo ∷ []) = Some (record { index = index; internal = internal; hi = hi; lo = lo })
fields_of _ = None

-- the fields have the form of those of the node of this index
abbrev pub is_node : ℕ → Fields → Bool
is_node index fields =
    is_number fields.index && digits_value 10 fields.index == index && is_number fields.internal
    && is_number fields.hi && not (digits_value 10 fields.hi == 0) && is_integer fields.lo && not (nat_abs (integer_value fields.lo) == 0)
