use Rattle.std.proofs.Common.{subst, w64}
use Rattle.std.proofs.lemmas.Int.{to_z-of_z}
use Rattle.std.specs.Prelude.{int_le}
use Rattle.edge_bits.specs.declared.edges.Kind.TheVariants.{Add, Bdd}
use Rattle.function_laws.specs.Numbers.{at_least}
use Rattle.node_store.specs.Operations.{Calls}
use Rattle.node_store.specs.Views.{add_at}
use Rattle.add_ops.specs.Conversions.{value_of_one}
use Rattle.add_ops.proofs.operations.at_least.Goals as goal

pub returns : goal.returns
returns g c =
    let v = g.G.Grow.view c.args.store.now in let w = g.G.Grow.view c.in_scratch.new.store in
    rw c.without_overflow.ensures (subst (λ y. Calls Bdd (at_least (add_at v c.args.f) y) (value_of_one Add Bdd (λ z. int_le y z) c.args.f v) v w c.in_scratch.result) (to_z-of_z w64 c.args.value c.ranges.value) c.in_scratch.ensures)
