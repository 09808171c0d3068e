use Rattle.std.proofs.Common.{[], ◌∷◌}
use Rattle.edge_bits.specs.declared.edges.Kind.TheVariants as kinds
use Rattle.function_laws.specs.Makings as things
use Rattle.dd_manager.proofs.Judging.{judges-both}
use Rattle.dd_manager.proofs.faults.literals_and_family.Goals as goal

pub returns : goal.returns
returns c = judges-both c.args.there.now.rows.now (things.literals ∷ []) (things.function kinds.Zdd c.args.a ∷ []) c.literals.result c.function.result c.first.result c.first.ensures c.literals.ensures c.function.ensures
