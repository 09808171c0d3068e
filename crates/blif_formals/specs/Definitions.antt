-- What stands in a model defines signals of it, by number.
use Rattle.std.specs.Prelude.{◌≡◌, ℕ, ◌<◌, Bool, true, false, List, [], ◌∷◌, Some, All, None, Option, filter, length, map, slice_get}
use Rattle.std.specs.List.{flat_map}
use Rattle.job_words.specs.Text.{Word}
use Rattle.blif_models.specs.declared.numbered.Entry.{Entry}
use Rattle.blif_models.specs.declared.numbered.Entry.TheVariants as entries
use Rattle.blif_models.specs.declared.numbered.NumberedJoin.{NumberedJoin}
use Rattle.blif_models.specs.Agreement.{entry_line}
use Rattle.blif_models.specs.ModelFaults as faults
use Rattle.blif_models.specs.ModelFaults.{line_of}
use Rattle.blif_models.specs.Models.{Item, Model}
use Rattle.blif_models.specs.Numberings.{AreEntriesOf}
use Rattle.blif_formals.specs.declared.clashes.Definition.{Definition}
use Rattle.blif_formals.specs.declared.interface.Interface.{Interface}
use Rattle.blif_formals.specs.declared.interface.Port.{Port}
use Rattle.blif_formals.specs.declared.interface.Port.TheVariants as ports
use Rattle.blif_formals.specs.ByNames.{AreDefinitionsOf, IsInterfaceOf}
use Rattle.blif_formals.specs.Joining.{IsInterface, port_of}

-- the ports of a model's names
abbrev pub ports_in : Option Interface → List Port
ports_in None = []
ports_in (Some interface) = interface.ports.items

abbrev pub ports_at : List Interface → ℕ → List Port
ports_at interfaces m = ports_in (slice_get interfaces m)

abbrev pub is_output : Port → Bool
is_output ports.Output = true
is_output _ = false

abbrev pub defined : ℕ → ℕ → Definition
defined line name = record { name = name; line = line }

-- the actual names that are joined to outputs are defined by the instance that joins them
abbrev pub outputs_joined : List Port → ℕ → List NumberedJoin → List Definition
outputs_joined all line joins = map (λ join. defined line join.actual) (filter (λ join. is_output (port_of all join.formal)) joins)

-- what an entry defines, where the models have these interfaces
abbrev pub definitions_by : List Interface → Entry → List Definition
definitions_by interfaces (entries.Cover cover) = defined cover.line cover.name ∷ []
definitions_by interfaces (entries.Latch latch) = defined latch.line latch.output ∷ []
definitions_by interfaces (entries.Instance instance) = outputs_joined (ports_at interfaces instance.model) instance.line instance.joins

-- an instance is of one of the models, and joins names of it
abbrev pub JoinsNames : List Interface → Entry → Type 0
JoinsNames interfaces (entries.Instance instance) = (instance.model < length interfaces) × All (λ join. join.formal < length (ports_at interfaces instance.model)) instance.joins
JoinsNames interfaces _ = Unit {0}

-- these models have these interfaces
abbrev pub AreInterfacesOf : List Model → (ℕ → Bool) → List (List Word) → List Interface → Type 0
AreInterfacesOf models among words interfaces =
    (m : ℕ) (model : Model) → among m ≡ true → slice_get models m ≡ Some model → (interface : Interface) × (slice_get interfaces m ≡ Some interface) × IsInterface interface × IsInterfaceOf words m model interface

-- what entries define is what their items define, by name
abbrev pub DefinitionsAgree : Type 0
DefinitionsAgree =
    (models : List Model) (among : ℕ → Bool) (words : List (List Word)) (interfaces : List Interface) (m place : ℕ) (items : List Item) (others : List Entry) → AreInterfacesOf models among words interfaces
    → AreEntriesOf models among words m place items others → map line_of items ≡ map entry_line others
    → AreDefinitionsOf words m (flat_map (definitions_by interfaces) others) (flat_map (faults.definitions_by models) items)
