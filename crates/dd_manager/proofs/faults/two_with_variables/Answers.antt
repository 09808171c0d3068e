use Rattle.std.proofs.Common.{[], ◌∷◌}
use Rattle.edge_bits.specs.declared.edges.Kind.TheVariants as kinds
use Rattle.function_laws.specs.Makings as things
use Rattle.dd_manager.proofs.Judging.{judges-both}
use Rattle.dd_manager.proofs.faults.two_with_variables.Goals as goal

pub returns : goal.returns
returns c = judges-both c.args.there.now.rows.now (things.function kinds.Bdd c.args.a ∷ []) (things.function kinds.Bdd c.args.b ∷ things.variables c.args.vars.now ∷ []) c.function.result c.with_variables.result c.first.result c.first.ensures c.function.ensures c.with_variables.ensures
