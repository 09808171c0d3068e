use Rattle.edge_bits.specs.declared.edges.Kind.TheVariants.{Add}
use Rattle.node_store.specs.ViewLaws.{Is-from}
use Rattle.word_tests.proofs.seated.leaf_of.Goals as goal

pub open-requires : goal.open-requires
open-requires g c = (Add, Is-from Add c.in_ok-leaf.ensures.ok)
