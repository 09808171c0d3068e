-- The words of a `.latch`: `IN OUT [TYPE CONTROL] [INIT]`.
use Rattle.std.specs.Prelude.{ℕ, Bool, true, false, ◌&&◌, List, [], ◌∷◌, Option, None, codes}
use Rattle.std.specs.Bool.{then_some}
use Rattle.job_words.specs.Text.{Word, is_among}
use Rattle.blif_models.specs.Models.{Latch}

-- a latch's type, and its first value
abbrev pub types : List Word
types = codes "fe" ∷ codes "re" ∷ codes "ah" ∷ codes "al" ∷ codes "as" ∷ []

abbrev pub values : List Word
values = codes "0" ∷ codes "1" ∷ codes "2" ∷ codes "3" ∷ []

-- what stands behind the names of the two signals
abbrev pub is_ending : List Word → Bool
is_ending [] = true
is_ending (init ∷ []) = is_among values init
is_ending (kind ∷ control ∷ []) = is_among types kind
is_ending (kind ∷ control ∷ init ∷ []) = is_among types kind && is_among values init
is_ending _ = false

abbrev pub latch_with : ℕ → Word → Word → Latch
latch_with line input output = record { line = line; input = input; output = output }

-- the latch of these words on a line, if they have its form
abbrev pub latch_of : ℕ → List Word → Option Latch
latch_of line (input ∷ output ∷ ending) = then_some (is_ending ending) (latch_with line input output)
latch_of line _ = None
