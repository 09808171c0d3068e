use Rattle.std.proofs.Common.{[], ◌∷◌}
use Rattle.edge_bits.specs.declared.edges.Kind.TheVariants as kinds
use Rattle.function_laws.specs.Makings as things
use Rattle.dd_manager.proofs.Judging.{judges-both}
use Rattle.dd_manager.proofs.faults.three.Goals as goal

pub returns : goal.returns
returns c = judges-both c.args.there.now.rows.now (things.function kinds.Bdd c.args.a ∷ []) (things.function c.args.kind c.args.b ∷ things.function c.args.kind c.args.c ∷ []) c.function.result c.two.result c.first.result c.first.ensures c.function.ensures c.two.ensures
