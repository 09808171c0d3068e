use Rattle.blif_wholes.proofs.NamedCircuits.{circuits_are_named}
use Rattle.blif_wholes.proofs.circuits_are_named.Goals as goal

pub returns : goal.returns
returns c = circuits_are_named
