-- What the lines of a cover say.
use Rattle.std.specs.Prelude.{ℕ, ◌-◌, ◌==◌, Bool, false, ◌&&◌, ◌||◌, not, List, [], ◌∷◌, ◌++◌, Option, Some, None, codes, length, take, option_to_list, if◌then◌else◌}
use Rattle.std.specs.List.{list_all}
use Rattle.std.specs.Bool.{then_some}
use Rattle.std.specs.Str.{bytes_eq}
use Rattle.blif_models.specs.Circuits.{Cover, Row}
use Rattle.blif_net.specs.declared.faults.FaultKind.{FaultKind}
use Rattle.blif_net.specs.declared.faults.FaultKind.TheVariants as kinds
use Rattle.blif_text.specs.Text.{Word}

-- the words before the last, and the last
abbrev pub front_of : List Word → List Word
front_of words = take (length words - 1) words

abbrev pub last_of : List Word → Word
last_of [] = []
last_of (word ∷ []) = word
last_of (word ∷ words) = last_of words

abbrev pub is_bit : Word → Bool
is_bit word = bytes_eq word (codes "0") || bytes_eq word (codes "1")

-- 0, 1 or -
abbrev pub is_literal : ℕ → Bool
is_literal b = b == 48 || b == 49 || b == 45

-- the word has one of 0, 1 and - for each of so many inputs
abbrev pub is_cube : ℕ → Word → Bool
is_cube ins word = length word == ins && list_all is_literal word

abbrev pub row_with : Word → Word → Row
row_with literals output = record { literals = literals; output = bytes_eq output (codes "1") }

-- a row of a cover with so many inputs, if the words have its form: with no inputs the output stands alone
abbrev pub row_of : ℕ → List Word → Option Row
row_of ins (output ∷ []) = if ins == 0 && is_bit output then Some (row_with [] output) else None
row_of ins (literals ∷ output ∷ []) = if not (ins == 0) && is_cube ins literals && is_bit output then Some (row_with literals output) else None
row_of ins _ = None

-- the cover that a `.names` opens
abbrev pub cover_at : ℕ → List Word → Cover
cover_at line words = record { line = line; ins = front_of words; name = last_of words; rows = [] }

-- the cover with one more row, where the words have the form of one
abbrev pub with_row : Cover → List Word → Cover
with_row cover words = record cover { rows = cover.rows ++ option_to_list (row_of (length cover.ins) words) }

abbrev pub with_row_in : Option Cover → List Word → Option Cover
with_row_in None words = None
with_row_in (Some cover) words = Some (with_row cover words)

-- a row's output differs from that of the first row
abbrev pub is_mixed : List Row → Row → Bool
is_mixed [] next = false
is_mixed (first ∷ rows) next = if first.output then not next.output else next.output

abbrev pub row_fault : Cover → Option Row → Option FaultKind
row_fault cover None = Some kinds.Row
row_fault cover (Some next) = then_some (is_mixed cover.rows next) kinds.Mixed

-- of a row: no cover is open; another form; another output than the first row's
abbrev pub rows_fault : Option Cover → List Word → Option FaultKind
rows_fault None words = Some kinds.Word
rows_fault (Some cover) words = row_fault cover (row_of (length cover.ins) words)
