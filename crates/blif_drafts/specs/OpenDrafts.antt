-- What the lines of a model add to it one by one, and which of them are refused.
use Rattle.std.specs.Prelude.{◌≡◌, ℕ, ◌+◌, nat_lt, List, [], ◌∷◌, ◌++◌, Option, Some, None, length}
use Rattle.std.specs.Bool.{then_some}
use Rattle.std.specs.Option.{option_or}
use Rattle.edge_bits.specs.declared.limits.TheConstants.{MOST_OUTPUTS, MOST_SIGNALS, MOST_VARIABLES}
use Rattle.job_words.specs.Text.{Word, is_among}
use Rattle.blif_order.specs.Orders.{is_in}
use Rattle.blif_models.specs.Circuits.{Row, some_again}
use Rattle.blif_models.specs.ModelFaults.{formal_inputs}
use Rattle.blif_models.specs.Models.{Item, Model, Named, covered, held, latched, names_of}
use Rattle.blif_formals.specs.declared.titles.Heading.{Heading}
use Rattle.blif_formals.specs.Actuals.{Keeps}
use Rattle.blif_formals.specs.Titles.{IsTitleOf}
use Rattle.blif_drafts.specs.declared.open_draft.OpenDraft.{OpenDraft}
use Rattle.blif_drafts.specs.declared.stops.LineStop.{LineStop}
use Rattle.blif_drafts.specs.declared.stops.Refusal.{Refusal}
use Rattle.blif_drafts.specs.declared.stops.Refusal.TheVariants as refusals
use Rattle.blif_drafts.specs.Drafts.{IsDraftOf}
use Rattle.blif_drafts.specs.Signals.{StopIs, is_marked, signals_in, signals_of}

-- The draft is a model's as far as its lines were read: its signals are marked, and so many.
pub record IsOpenOf (titles : List Word) (model : Model) (one : OpenDraft) : Type 0 where
  pub draft_of : IsDraftOf titles model one.draft
  pub marked : (n : ℕ) → is_marked one.marks.items n ≡ is_in (signals_in one.draft) n
  pub many : one.signals ≡ length (signals_of model)

-- a model with nothing but the line that begins it
abbrev pub bare_model : ℕ → Option Word → Model
bare_model line name = record { line = line; name = name; inputs = []; outputs = []; items = [] }

-- the draft is that of such a model, of whatever name the heading has the number
abbrev pub Begins : Heading → OpenDraft → Type 0
Begins heading one = (titles : List Word) (name : Option Word) → IsTitleOf titles name heading.title → IsOpenOf titles (bare_model heading.line name) one

-- the word that names a model
abbrev pub first_word : List Word → Option Word
first_word [] = None
first_word (word ∷ words) = Some word

-- a model with one line more

abbrev pub named_at : ℕ → List Word → Named
named_at line words = record { line = line; words = words }

abbrev pub with_inputs : ℕ → List Word → Model → Model
with_inputs line words model = record model { inputs = model.inputs ++ named_at line words ∷ [] }

abbrev pub with_outputs : ℕ → List Word → Model → Model
with_outputs line words model = record model { outputs = model.outputs ++ named_at line words ∷ [] }

abbrev pub with_item : Item → Model → Model
with_item item model = record model { items = model.items ++ item ∷ [] }

abbrev pub cover_at : ℕ → List Word → Word → List Row → Item
cover_at line ins name rows = covered (record { line = line; ins = ins; name = name; rows = rows })

abbrev pub latch_at : ℕ → Word → Word → Item
latch_at line input output = latched (record { line = line; input = input; output = output })

abbrev pub instance_at : ℕ → List Word → Item
instance_at line words = held (record { line = line; words = words })

-- what is wrong with such a line, if anything is

-- of inputs: one is a signal already or stands twice, or there are too many inputs or signals
abbrev pub inputs_refused : List Word → Model → Option Refusal
inputs_refused words model =
    option_or (then_some (some_again (signals_of model) words) refusals.Twice)
    (option_or (then_some (nat_lt MOST_VARIABLES (length (formal_inputs model) + length words)) refusals.TooMany) (then_some (nat_lt MOST_SIGNALS (length (signals_of model) + length words)) refusals.TooMany))

-- of outputs: there are too many
abbrev pub outputs_refused : List Word → Model → Option Refusal
outputs_refused words model = then_some (nat_lt MOST_OUTPUTS (length (names_of model.outputs) + length words)) refusals.TooMany

-- of a cover: its own name is a signal already, or there are too many signals
abbrev pub cover_refused : Word → Model → Option Refusal
cover_refused name model = option_or (then_some (is_among (signals_of model) name) refusals.Twice) (then_some (nat_lt MOST_SIGNALS (length (signals_of model) + 1)) refusals.TooMany)

-- of a latch: what it shows is a signal already
abbrev pub latch_refused : Word → Model → Option Refusal
latch_refused output model = then_some (is_among (signals_of model) output) refusals.Twice

-- A line was not refused of which this is what may be wrong, and the draft is that of the model with this line.
pub record Takes (old : OpenDraft) (refused : Model → Option Refusal) (more : Model → Model) (new : OpenDraft) : Type 0 where
  pub faultless : (titles : List Word) (model : Model) → IsOpenOf titles model old → refused model ≡ None
  pub after : (titles : List Word) (model : Model) → IsOpenOf titles model old → IsOpenOf titles (more model) new

-- or it was, and why
abbrev pub Stops : OpenDraft → (Model → Option Refusal) → LineStop → Type 0
Stops old refused stop = (titles : List Word) (model : Model) → IsOpenOf titles model old → StopIs (refused model) stop

-- The draft is that of the model with one more instance, among names of models that may be more.
pub record Holds (titles : List Word) (old : OpenDraft) (line : ℕ) (words : List Word) (titles' : List Word) (new : OpenDraft) : Type 0 where
  pub keeps : Keeps titles titles'
  pub after : (model : Model) → IsOpenOf titles model old → IsOpenOf titles' (with_item (instance_at line words) model) new
