use Rattle.node_store.specs.ViewLaws.{Kept-refl, Denotes-flip}
use Rattle.ite_core.proofs.operations.not.Goals as goal

pub returns-clause-kept : goal.returns-clause-kept
returns-clause-kept g c = Kept-refl _

pub returns-clause-not : goal.returns-clause-not
returns-clause-not g c = rw c.flip_if.ensures (Denotes-flip c.requires)
