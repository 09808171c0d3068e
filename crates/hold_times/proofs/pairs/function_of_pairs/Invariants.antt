use Rattle.edge_bits.specs.declared.edges.Kind.TheVariants.{Bdd}
use Rattle.node_slots.specs.Stores.{plain_view}
use Rattle.node_store.specs.Views.{Grown, Is}
use Rattle.hold_times.proofs.pairs.function_of_pairs.Given as goal

abbrev pub invariant-loop-i : goal.invariant-loop-i
invariant-loop-i l = record {
  grown : Grown (plain_view l.initial.store) (plain_view l.store);
  is : Is Bdd (plain_view l.store) l.sum;
}
