-- What the lines of a text with several models declare, and the network into which the main one is expanded.
use Rattle.std.specs.Prelude.{ℕ, zero, suc, ◌+◌, ◌==◌, Bool, List, [], ◌∷◌, ◌++◌, Option, Some, None, codes, length, map, sum_by, find, drop, option_to_list, option_map}
use Rattle.std.specs.List.{list_any, flat_map, before_first}
use Rattle.std.specs.Str.{bytes_eq}
use Rattle.std.specs.Int.Digits.{digits_of}
use Rattle.job_words.specs.Text.{Word}
use Rattle.blif_models.specs.Circuits.{Cover, Circuit}

-- A latch: the line of its `.latch`, the signal that it reads, and the one that it shows.
pub record Latch : Type 0 where
  pub line : ℕ
  pub input : Word
  pub output : Word

-- A `.subckt`: its line and the words behind it, a model's name and then what is joined.
pub record Instance : Type 0 where
  pub line : ℕ
  pub words : List Word

-- What stands in a model, one by one in the order of the lines.
pub data Item : Type 0 where
  covered : Cover → Item
  latched : Latch → Item
  held : Instance → Item

-- some names and the line on which they stand
pub record Named : Type 0 where
  pub line : ℕ
  pub words : List Word

-- A model: the line that begins it, its name if it has one, the lines of its inputs and outputs, and what stands in it.
pub record Model : Type 0 where
  pub line : ℕ
  pub name : Option Word
  pub inputs : List Named
  pub outputs : List Named
  pub items : List Item

-- the names of several lines
abbrev pub names_of : List Named → List Word
names_of lines = flat_map (λ one. one.words) lines

abbrev pub has_name : Word → Model → Bool
has_name word model = list_any (bytes_eq word) (option_to_list model.name)

-- the first model of a name
abbrev pub model_called : List Model → Word → Option Model
model_called models word = find (has_name word) models

abbrev pub items_in : Option Model → List Item
items_in None = []
items_in (Some model) = model.items

-- the model's name of an instance
abbrev pub called_by : Instance → Option Word
called_by instance = first instance.words
  where
    first : List Word → Option Word
    first [] = None
    first (word ∷ words) = Some word

abbrev pub model_in : List Model → Option Word → Option Model
model_in models None = None
model_in models (Some word) = model_called models word

-- the model that an instance is of
abbrev pub model_of : List Model → Instance → Option Model
model_of models instance = model_in models (called_by instance)

-- A formal name of a model with the actual one that is joined to it.
pub record Join : Type 0 where
  pub formal : Word
  pub actual : Word

-- a word is parted at its first `=`
abbrev pub join_of : Word → Join
join_of word =
    let formal = before_first (λ b. b == 61) word in
    record { formal = formal; actual = drop (length formal + 1) word }

-- what an instance joins
abbrev pub joins_of : Instance → List Join
joins_of instance = map join_of (drop 1 instance.words)

abbrev pub actual_of : List Join → Word → Option Word
actual_of joins name = option_map (λ join. join.actual) (find (λ join. bytes_eq join.formal name) joins)

-- a positive number of any length, in digits
abbrev pub numeral : ℕ → Word
numeral n = map (λ digit. 48 + digit) (digits_of 10 n)

-- the name in the whole network of a signal of a copy: that of the signal to which it is joined, or the copy's number, `#` and its own name
abbrev pub name_by : (Word → Word) → Word → Option Word → Word
name_by outer own None = own
name_by outer own (Some actual) = outer actual

abbrev pub name_within : (Word → Word) → ℕ → List Join → Word → Word
name_within outer number joins name = name_by outer (numeral number ++ codes "#" ++ name) (actual_of joins name)

-- a cover and a latch with the names of the whole
abbrev pub cover_named : (Word → Word) → Cover → Cover
cover_named rename cover = record cover { ins = map rename cover.ins; name = rename cover.name }

abbrev pub latch_named : (Word → Word) → Latch → Latch
latch_named rename latch = record latch { input = rename latch.input; output = rename latch.output }

-- how many copies an item has, where a copy of an instance has so many inside
abbrev pub copies_by : (Instance → ℕ) → Item → ℕ
copies_by inside (covered cover) = 0
copies_by inside (latched latch) = 0
copies_by inside (held instance) = suc (inside instance)

-- how many copies some items have in all, through so many levels of models
unfoldable pub copies_within : List Model → ℕ → List Item → ℕ
copies_within models zero items = sum_by (copies_by (λ instance. 0)) items
copies_within models (suc levels) items = sum_by (copies_by (λ instance. copies_within models levels (items_in (model_of models instance)))) items

-- items with each instance put by what stands in its copy; copies are numbered on, a copy before those inside it
abbrev pub laid_out : (ℕ → Instance → List Item) → (Instance → ℕ) → (Word → Word) → ℕ → List Item → List Item
laid_out copy inside rename copies [] = []
laid_out copy inside rename copies (covered cover ∷ items) = covered (cover_named rename cover) ∷ laid_out copy inside rename copies items
laid_out copy inside rename copies (latched latch ∷ items) = latched (latch_named rename latch) ∷ laid_out copy inside rename copies items
laid_out copy inside rename copies (held instance ∷ items) =
    copy (suc copies) instance ++ laid_out copy inside rename (suc (copies + inside instance)) items

-- the covers and latches of items through so many levels of models, where so many copies stand before
unfoldable pub expanded : List Model → ℕ → (Word → Word) → ℕ → List Item → List Item
expanded models zero rename copies items = laid_out (λ number instance. []) (λ instance. 0) rename copies items
expanded models (suc levels) rename copies items =
    laid_out (λ number instance. expanded models levels (name_within rename number (joins_of instance)) number (items_in (model_of models instance)))
    (λ instance. copies_within models levels (items_in (model_of models instance))) rename copies items

-- those of a model, through as many levels as there are models
abbrev pub whole_items : List Model → Model → List Item
whole_items models main = expanded models (length models) (λ name. name) 0 main.items

abbrev pub covers_among : List Item → List Cover
covers_among [] = []
covers_among (covered cover ∷ items) = cover ∷ covers_among items
covers_among (_ ∷ items) = covers_among items

abbrev pub latches_among : List Item → List Latch
latches_among [] = []
latches_among (latched latch ∷ items) = latch ∷ latches_among items
latches_among (_ ∷ items) = latches_among items

-- the circuit of a main model and its expansion: latch outputs are inputs behind its own, latch inputs outputs behind its own
abbrev pub circuit_from : Model → List Item → Circuit
circuit_from main items = record {
  inputs = names_of main.inputs ++ map (λ latch. latch.output) (latches_among items);
  outputs = names_of main.outputs ++ map (λ latch. latch.input) (latches_among items);
  covers = covers_among items;
}

-- A use of a signal, and its line.
pub record Use : Type 0 where
  pub word : Word
  pub line : ℕ

abbrev pub uses_on : ℕ → List Word → List Use
uses_on line words = map (λ word. record { word = word; line = line }) words

-- what the expanded network uses: the main model's outputs, what covers read, and what latches read
abbrev pub uses_of : Model → List Item → List Use
uses_of main items =
    flat_map (λ one. uses_on one.line one.words) main.outputs
    ++ flat_map (λ cover. uses_on cover.line cover.ins) (covers_among items)
    ++ flat_map (λ latch. uses_on latch.line (latch.input ∷ [])) (latches_among items)
