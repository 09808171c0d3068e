use Rattle.std.proofs.Common.{[], ◌∷◌}
use Rattle.edge_bits.specs.declared.edges.Kind.TheVariants as kinds
use Rattle.function_laws.specs.Makings as things
use Rattle.dd_manager.proofs.Judging.{judges-free}
use Rattle.dd_manager.proofs.faults.with_bit.Goals as goal

pub returns : goal.returns
returns c = judges-free c.args.there.now.rows.now (things.function kinds.Bdd c.args.a ∷ things.variable c.args.v ∷ []) (things.bit c.args.value) c.with_variable.result tt c.with_variable.ensures
