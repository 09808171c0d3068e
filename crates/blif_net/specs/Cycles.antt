-- What lies on a cycle or depends on one, by who reads whom; and that these are the covers which are not led back to inputs.
use Rattle.std.specs.Prelude.{◌≡◌, ℕ, true, false, List, [], ◌∷◌, ◌++◌, ◌⊎◌, Some, slice_get}
use Rattle.job_words.specs.Text.{is_among}
use Rattle.blif_models.specs.Circuits.{Circuit, Cover, defined_in, is_settled}
use Rattle.blif_wholes.specs.Built.{IsSound}
use Rattle.blif_wholes.specs.Defined.{Once}

abbrev pub IsOneOf : List Cover → Cover → Type 0
IsOneOf covers cover = (i : ℕ) × (slice_get covers i ≡ Some cover)

-- the one reads what the other, one of these, defines
abbrev pub ReadsCover : List Cover → Cover → Cover → Type 0
ReadsCover covers one other = (is_among one.ins other.name ≡ true) × IsOneOf covers other

-- the one reads the first of these, each of them the next, and the last of them the other
abbrev pub Leads : List Cover → Cover → List Cover → Cover → Type 0
Leads covers one [] other = ReadsCover covers one other
Leads covers one (next ∷ between) other = ReadsCover covers one next × Leads covers next between other

abbrev pub LiesOnCycle : List Cover → Cover → Type 0
LiesOnCycle covers cover = (between : List Cover) × Leads covers cover between cover

abbrev pub DependsOnCycle : List Cover → Cover → Type 0
DependsOnCycle covers cover = (other : Cover) × (between : List Cover) × Leads covers cover between other × LiesOnCycle covers other

abbrev pub IsCyclic : List Cover → Cover → Type 0
IsCyclic covers cover = LiesOnCycle covers cover ⊎ DependsOnCycle covers cover

-- Where no signal is defined twice and what is read is a signal, a cover is not led back to inputs exactly where it lies on a cycle or
-- depends on one.
pub record CyclesAreFound : Type 0 where
  pub cyclic : (circuit : Circuit) (cover : Cover) → IsSound circuit → IsOneOf circuit.covers cover → is_settled circuit cover ≡ false → IsCyclic circuit.covers cover
  pub unsettled : (circuit : Circuit) (cover : Cover) → Once (circuit.inputs ++ defined_in circuit.covers) → IsOneOf circuit.covers cover → IsCyclic circuit.covers cover → is_settled circuit cover ≡ false
