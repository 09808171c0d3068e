use Rattle.blif_models.specs.Layouts.{IsTable}
use Rattle.blif_models.proofs.layout.new_table.Given as goal

abbrev pub invariant-loop-name : goal.invariant-loop-name
invariant-loop-name l = IsTable l.initial.spots.items l.outer l.copy l.model l.joins l.name l.spots.items l.table.items
