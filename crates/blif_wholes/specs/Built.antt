-- What comes of a circuit: a network, or a line of a cover that is not led back to inputs.
use Rattle.std.specs.Prelude.{◌≡◌, true, not, ◌++◌, Option, Some, None, find, option_map}
use Rattle.std.specs.List.{list_all}
use Rattle.blif_models.specs.Circuits.{Circuit, Cover, defined_in, is_settled, is_signal}
use Rattle.blif_wholes.specs.declared.building.Built.{Built}
use Rattle.blif_wholes.specs.declared.building.Built.TheVariants as built
use Rattle.blif_wholes.specs.Defined.{Once}
use Rattle.blif_wholes.specs.Networks.{IsNetOf}

-- A circuit defines no signal twice, and what it reads and shows is a signal of it.
pub record IsSound (circuit : Circuit) : Type 0 where
  pub once : Once (circuit.inputs ++ defined_in circuit.covers)
  pub reads : list_all (λ cover. list_all (is_signal circuit) cover.ins) circuit.covers ≡ true
  pub shows : list_all (is_signal circuit) circuit.outputs ≡ true

-- the first cover that is not led back to inputs
abbrev pub first_cyclic : Circuit → Option Cover
first_cyclic circuit = find (λ cover. not (is_settled circuit cover)) circuit.covers

abbrev pub BuiltIs : Circuit → Built → Type 0
BuiltIs circuit (built.Cyclic line) = option_map (λ cover. cover.line) (first_cyclic circuit) ≡ Some line
BuiltIs circuit (built.Network net) = (first_cyclic circuit ≡ None) × IsNetOf circuit net
