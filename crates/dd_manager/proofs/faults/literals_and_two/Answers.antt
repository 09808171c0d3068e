use Rattle.std.proofs.Common.{[], ◌∷◌}
use Rattle.edge_bits.specs.declared.edges.Kind.TheVariants as kinds
use Rattle.function_laws.specs.Makings as things
use Rattle.dd_manager.proofs.Judging.{judges-both}
use Rattle.dd_manager.proofs.faults.literals_and_two.Goals as goal

pub returns : goal.returns
returns c = judges-both c.args.there.now.rows.now (things.literals ∷ []) (things.function kinds.Bdd c.args.a ∷ things.function kinds.Bdd c.args.b ∷ []) c.literals.result c.two.result c.first.result c.first.ensures c.literals.ensures c.two.ensures
