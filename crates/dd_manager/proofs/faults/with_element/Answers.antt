use Rattle.std.proofs.Common.{[], ◌∷◌}
use Rattle.edge_bits.specs.declared.edges.Kind.TheVariants as kinds
use Rattle.function_laws.specs.Makings as things
use Rattle.dd_manager.proofs.Judging.{judges-both}
use Rattle.dd_manager.proofs.faults.with_element.Goals as goal

pub returns : goal.returns
returns c = judges-both c.args.there.now.rows.now (things.function kinds.Zdd c.args.a ∷ []) (things.element c.args.e ∷ []) c.function.result c.element.result c.first.result c.first.ensures c.function.ensures c.element.ensures
