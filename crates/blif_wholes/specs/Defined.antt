-- What is defined in a whole, and that nothing is defined twice.
use Rattle.std.specs.Prelude.{◌≡◌, true, false, List, [], ◌∷◌, ◌++◌, None, map}
use Rattle.std.specs.List.{list_all}
use Rattle.job_words.specs.Text.{Word, is_among}
use Rattle.blif_text.specs.Marks.{is_plain}
use Rattle.blif_models.specs.Circuits.{defined_in}
use Rattle.blif_models.specs.Models.{Model, circuit_from, whole_items}
use Rattle.blif_models.specs.ModelFaults.{definitions_in, formal_lines, least, twice_lines}

-- no word stands among those behind it
abbrev pub Once : List Word → Type 0
Once [] = Unit {0}
Once (word ∷ words) = (is_among words word ≡ false) × Once words

-- the signals that are defined in a model: its inputs, and what its items define
abbrev pub words_defined : List Model → Model → List Word
words_defined models model = map (λ one. one.word) (definitions_in models model)

-- Where the signals that a main model defines have no `#`, and in the models that it reaches no join is wrong and no signal is defined twice,
-- the circuit into which it is expanded defines no signal twice.
abbrev pub WholesDefineOnce : Type 0
WholesDefineOnce =
    (models : List Model) (main : Model) → list_all is_plain (words_defined models main) ≡ true → least (formal_lines models main) ≡ None → least (twice_lines models main) ≡ None
    → let circuit = circuit_from main (whole_items models main) in Once (circuit.inputs ++ defined_in circuit.covers)
