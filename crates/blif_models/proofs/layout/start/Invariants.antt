use Rattle.std.proofs.Common.{◌≡◌, map}
use Rattle.blif_models.specs.Layouts.{spot, up_to}
use Rattle.blif_models.proofs.layout.start.Given as goal

abbrev pub invariant-loop-name : goal.invariant-loop-name
invariant-loop-name l = record {
  spots : l.spots.items ≡ map (spot 0 l.main) (up_to l.name);
  table : l.table.items ≡ up_to l.name;
}
