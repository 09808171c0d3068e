use Rattle.std.proofs.Common.{[], ◌∷◌}
use Rattle.edge_bits.specs.declared.edges.Kind.TheVariants as kinds
use Rattle.function_laws.specs.Makings as things
use Rattle.dd_manager.proofs.Judging.{judges-free}
use Rattle.dd_manager.proofs.faults.with_number.Goals as goal

pub returns : goal.returns
returns c = judges-free c.args.there.now.rows.now (things.function kinds.Add c.args.a ∷ []) (things.number c.args.z) c.function.result tt c.function.ensures
