-- What the lines of a text say.
use Rattle.std.specs.Prelude.{◌==◌, List, [], ◌∷◌, codes, slice_index, if◌then◌else◌}
use Rattle.std.specs.Str.{bytes_eq}
use Rattle.job_words.specs.Text.{is_among}
use Rattle.blif_text.specs.Text.{Word, Line, words_of}

-- What a line says.
pub data Statement : Type 0 where
  -- it has no words; a word that is passed over, one that is left out, an unknown one that begins with `.`, each with its whole line
  nothing passed_over left_out unknown : Statement
  -- each with the words behind the first
  model inputs outputs names subckt latch ends : List Word → Statement
  -- a line whose first word doesn't begin with `.`
  row : List Word → Statement

-- the words that are passed over
abbrev pub passed_words : List Word
passed_words =
    codes ".area" ∷ codes ".delay" ∷ codes ".wire_load_slope" ∷ codes ".wire" ∷ codes ".input_arrival" ∷ codes ".default_input_arrival"
    ∷ codes ".output_required" ∷ codes ".default_output_required" ∷ codes ".input_drive" ∷ codes ".default_input_drive" ∷ codes ".output_load"
    ∷ codes ".default_output_load" ∷ codes ".max_input_load" ∷ codes ".default_max_input_load" ∷ []

-- the words that are left out
abbrev pub left_words : List Word
left_words = codes ".gate" ∷ codes ".mlatch" ∷ codes ".exdc" ∷ codes ".search" ∷ codes ".start_kiss" ∷ codes ".clock" ∷ []

-- of a line that begins with `.`
abbrev pub directive : Word → List Word → Statement
directive word words =
    if bytes_eq word (codes ".names") then names words else
    if bytes_eq word (codes ".inputs") then inputs words else
    if bytes_eq word (codes ".outputs") then outputs words else
    if bytes_eq word (codes ".model") then model words else
    if bytes_eq word (codes ".subckt") then subckt words else
    if bytes_eq word (codes ".latch") then latch words else
    if bytes_eq word (codes ".end") then ends words else
    if is_among passed_words word then passed_over else
    if is_among left_words word then left_out else unknown

unfoldable pub statement_of : List Word → Statement
statement_of [] = nothing
statement_of (word ∷ words) = if slice_index word 0 == 46 then directive word words else row (word ∷ words)

abbrev pub said : Line → Statement
said line = statement_of (words_of line.bytes)
