use Rattle.std.proofs.Common.{rules, subst, SFits, w64}
use Rattle.std.proofs.lemmas.Int.{to_z-of_z}
use Rattle.std.specs.Prelude.{int_le}
use Rattle.edge_bits.specs.declared.edges.Kind.TheVariants.{Add, Bdd}
use Rattle.function_laws.specs.Numbers.{at_least}
use Rattle.node_store.specs.Operations.{Calls, halts}
use Rattle.node_store.specs.Views.{add_at}
use Rattle.add_ops.specs.Conversions.{value_of_one}
use Rattle.operator_calls.proofs.dispatch.at_least_in.Goals as goal

pub returns : goal.returns
returns g c =
    let v = g.G.Grow.view c.args.store.now in
    let f = c.args.edge in
    let fit : SFits w64 c.args.value.now = search rules in
    subst (λ y. Calls Bdd (at_least (add_at v f) y) (value_of_one Add Bdd (λ z. int_le y z) f v) v (g.G.Grow.view c.at_least.new.store) (halts c.at_least.result)) (to_z-of_z w64 c.args.value.now fit) c.at_least.ensures
