-- How the code writes names.
use Rattle.blif_dump.specs.declared.names.Names.{Names}
use Rattle.blif_dump.specs.Names.{Naming}
use Rattle.blif_dump.specs.Tables.{found_in}

abbrev pub naming_in : Names → Naming
naming_in names = record { front = names.front.items; input_place = found_in names.inputs; output_place = found_in names.outputs }
