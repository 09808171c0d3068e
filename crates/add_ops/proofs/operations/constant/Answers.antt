use Rattle.std.proofs.Common.{refl, rules, SFits, subst, to_z, of_z, w64}
use Rattle.std.proofs.lemmas.Int.{to_z-of_z}
use Rattle.node_store.specs.Operations.{Calls, halts}
use Rattle.edge_bits.specs.declared.edges.Kind.TheVariants.{Add}
use Rattle.function_laws.specs.Values.{constant}
use Rattle.add_ops.specs.Leaves.{value_of_constant}
use Rattle.node_store.specs.ViewLaws.{Kept-refl}
use Rattle.node_store.proofs.Running.{stored_calls}
use Rattle.add_ops.proofs.operations.constant.Goals as goal

pub returns : goal.returns
returns g c =
    let fits : SFits w64 c.args.value = search rules in
    let v = g.G.Grow.view c.args.store.now in let w = g.G.Grow.view c.leaf.new.self in
    let e = c.leaf.ensures in
    subst (λ z. Calls Add (constant z) (value_of_constant z) v w (halts c.leaf.result)) (to_z-of_z w64 c.args.value fits)
    (stored_calls Add (constant (to_z w64 (of_z w64 c.args.value))) v v w c.leaf.result (Kept-refl v) refl e.grown e.room e.made e.ok e.memory e.full e.due)
