-- What is wrong with a text of several models, where no line is faulty: each kind comes only where no earlier one does, at its first line.
use Rattle.std.specs.Prelude.{ℕ, zero, suc, ◌+◌, ◌==◌, nat_lt, Bool, false, not, ◌&&◌, ◌||◌, List, [], ◌∷◌, ◌++◌, Option, Some, None, length, map, filter, sum_by, drop, option_to_list, if◌then◌else◌}
use Rattle.std.specs.Option.{is_none}
use Rattle.std.specs.List.{list_any, list_all, flat_map}
use Rattle.std.specs.Str.{bytes_eq}
use Rattle.job_words.specs.Text.{Word, is_among}
use Rattle.blif_models.specs.declared.limits.Adding.{Adding}
use Rattle.blif_models.specs.Circuits.{is_signal, is_settled, some_again}
use Rattle.blif_models.specs.Models.{Model, Item, covered, latched, held, Named, Instance, Join, Use, names_of, has_name, model_of, join_of, joins_of, items_in, circuit_from, uses_of}

-- the least of some line numbers, if there are any
abbrev pub lesser : ℕ → Option ℕ → ℕ
lesser a None = a
lesser a (Some b) = if nat_lt b a then b else a

abbrev pub least : List ℕ → Option ℕ
least [] = None
least (n ∷ ns) = Some (lesser n (least ns))

abbrev pub instances_in : List Item → List Instance
instances_in [] = []
instances_in (held instance ∷ items) = instance ∷ instances_in items
instances_in (_ ∷ items) = instances_in items

-- the models that some items hold, through at most so many levels
unfoldable pub reached : List Model → ℕ → List Item → List Model
reached models zero items = []
reached models (suc levels) items =
    flat_map (λ instance. flat_map (λ model. model ∷ reached models levels model.items) (option_to_list (model_of models instance))) (instances_in items)

-- the main model and those that it holds
abbrev pub all_reached : List Model → Model → List Model
all_reached models main = main ∷ reached models (length models) main.items

-- what begins a further model is faulty: it has no name, or another model has it. A main model's line is never faulty.
abbrev pub is_misnamed : List Model → Model → Bool
is_misnamed models model = not (length (filter (λ other. list_any (λ word. has_name word other) (option_to_list model.name)) models) == 1)

-- a `.subckt` without a name, or with that of no model
abbrev pub names_no_model : List Model → Instance → Bool
names_no_model models instance = is_none (model_of models instance)

-- every model of the text stands in `models`, the main one first
abbrev pub model_lines : List Model → Model → List Model → List ℕ
model_lines models main further =
    map (λ model. model.line) (filter (is_misnamed models) further)
    ++ flat_map (λ model. map (λ instance. instance.line) (filter (names_no_model models) (instances_in model.items))) (all_reached models main)

-- the formal inputs and outputs of a model; what is both is an input
abbrev pub formal_inputs : Model → List Word
formal_inputs model = names_of model.inputs

abbrev pub formal_outputs : Model → List Word
formal_outputs model = filter (λ name. not (is_among (formal_inputs model) name)) (names_of model.outputs)

-- a name stands on either side of the `=`
abbrev pub is_join : Word → Bool
is_join word =
    let join = join_of word in
    list_any (λ b. b == 61) word && not (length join.formal == 0) && not (length join.actual == 0)

abbrev pub joins_well : Model → List Word → List Word → Bool
joins_well model words formals =
    list_all is_join words && list_all (is_among (formal_inputs model ++ formal_outputs model)) formals && not (some_again [] formals)
    && list_all (is_among formals) (formal_inputs model)

abbrev pub is_misjoined : Option Model → Instance → Bool
is_misjoined None instance = false
is_misjoined (Some model) instance = not (joins_well model (drop 1 instance.words) (map (λ join. join.formal) (joins_of instance)))

abbrev pub formal_lines : List Model → Model → List ℕ
formal_lines models main =
    flat_map (λ model. map (λ instance. instance.line) (filter (λ instance. is_misjoined (model_of models instance) instance) (instances_in model.items))) (all_reached models main)

-- A definition of a signal in a model, and its line.
abbrev pub actual_outputs : Option Model → List Join → List Word
actual_outputs None joins = []
actual_outputs (Some model) joins = map (λ join. join.actual) (filter (λ join. is_among (formal_outputs model) join.formal) joins)

abbrev pub definitions_by : List Model → Item → List Use
definitions_by models (covered cover) = record { word = cover.name; line = cover.line } ∷ []
definitions_by models (latched latch) = record { word = latch.output; line = latch.line } ∷ []
definitions_by models (held instance) = map (λ word. record { word = word; line = instance.line }) (actual_outputs (model_of models instance) (joins_of instance))

abbrev pub definitions_in : List Model → Model → List Use
definitions_in models model =
    flat_map (λ one. map (λ word. record { word = word; line = one.line }) one.words) model.inputs ++ flat_map (definitions_by models) model.items

-- the line of the later of two, where they define one signal
abbrev pub clash_with : Use → Use → List ℕ
clash_with one other = if bytes_eq one.word other.word then (if nat_lt one.line other.line then other.line else one.line) ∷ [] else []

abbrev pub clashes : List Use → List ℕ
clashes [] = []
clashes (one ∷ others) = flat_map (clash_with one) others ++ clashes others

abbrev pub twice_lines : List Model → Model → List ℕ
twice_lines models main = flat_map (λ model. clashes (definitions_in models model)) (all_reached models main)

-- a model is among those that another holds
abbrev pub is_model : Model → Model → Bool
is_model one other = one.line == other.line

abbrev pub holds_itself : List Model → Model → Instance → Bool
holds_itself models model instance =
    list_any (λ inner. is_model model inner || list_any (is_model model) (reached models (length models) inner.items)) (option_to_list (model_of models instance))

abbrev pub holding_lines : List Model → Model → List ℕ
holding_lines models main =
    flat_map (λ model. map (λ instance. instance.line) (filter (holds_itself models model) (instances_in model.items))) (all_reached models main)

-- how many signals an item has in the whole, and how many of them are inputs: numbers alone, since a whole may be too large to be laid out
abbrev pub signals_by : (Instance → ℕ) → Item → ℕ
signals_by inside (covered cover) = 1
signals_by inside (latched latch) = 1
signals_by inside (held instance) = inside instance

abbrev pub latches_by : (Instance → ℕ) → Item → ℕ
latches_by inside (covered cover) = 0
latches_by inside (latched latch) = 1
latches_by inside (held instance) = inside instance

unfoldable pub signals_within : List Model → ℕ → List Item → ℕ
signals_within models zero items = sum_by (signals_by (λ instance. 0)) items
signals_within models (suc levels) items = sum_by (signals_by (λ instance. signals_within models levels (items_in (model_of models instance)))) items

unfoldable pub latches_in_all : List Model → ℕ → List Item → ℕ
latches_in_all models zero items = sum_by (latches_by (λ instance. 0)) items
latches_in_all models (suc levels) items = sum_by (latches_by (λ instance. latches_in_all models levels (items_in (model_of models instance)))) items

abbrev pub line_of : Item → ℕ
line_of (covered cover) = cover.line
line_of (latched latch) = latch.line
line_of (held instance) = instance.line

abbrev pub adding_of : List Model → Item → Adding
adding_of models item = record {
  line = line_of item;
  signals = signals_within models (length models) (item ∷ []);
  inputs = latches_in_all models (length models) (item ∷ []);
}

abbrev pub adding_inputs : Named → Adding
adding_inputs one = record { line = one.line; signals = length one.words; inputs = length one.words }

abbrev pub put_by_line : Adding → List Adding → List Adding
put_by_line one [] = one ∷ []
put_by_line one (other ∷ others) = if nat_lt other.line one.line then other ∷ put_by_line one others else one ∷ (other ∷ others)

abbrev pub by_line : List Adding → List Adding
by_line [] = []
by_line (one ∷ others) = put_by_line one (by_line others)

abbrev pub passing_line : ℕ → ℕ → ℕ → ℕ → List Adding → Option ℕ
passing_line most_signals most_inputs signals inputs [] = None
passing_line most_signals most_inputs signals inputs (one ∷ others) =
    if nat_lt most_signals (signals + one.signals) || nat_lt most_inputs (inputs + one.inputs) then Some one.line else
    passing_line most_signals most_inputs (signals + one.signals) (inputs + one.inputs) others

abbrev pub too_many_line : ℕ → ℕ → List Model → Model → Option ℕ
too_many_line most_signals most_inputs models main =
    passing_line most_signals most_inputs 0 0 (by_line (map adding_inputs main.inputs ++ map (adding_of models) main.items))

-- of the expanded network: the first line of the text that uses what is no signal of it, and the first cover that is not led back
abbrev pub undefined_line : Model → List Item → Option ℕ
undefined_line main items =
    let circuit = circuit_from main items in
    least (map (λ one. one.line) (filter (λ one. not (is_signal circuit one.word)) (uses_of main items)))

abbrev pub cyclic_line : Model → List Item → Option ℕ
cyclic_line main items =
    let circuit = circuit_from main items in
    least (map (λ cover. cover.line) (filter (λ cover. not (is_settled circuit cover)) circuit.covers))
