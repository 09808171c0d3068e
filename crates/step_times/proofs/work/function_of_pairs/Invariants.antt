use Rattle.std.proofs.Common.{◌≡◌}
use Rattle.edge_bits.specs.declared.edges.Kind.TheVariants.{Bdd}
use Rattle.node_store.specs.Views.{Is}
use Rattle.step_times.proofs.work.function_of_pairs.Given as goal

abbrev pub invariant-loop-i : goal.invariant-loop-i
invariant-loop-i g l = record {
  vars : (g.G.Grow.view l.store).vars ≡ (g.G.Grow.view l.fn.store).vars;
  is : Is Bdd (g.G.Grow.view l.store) l.sum;
}
