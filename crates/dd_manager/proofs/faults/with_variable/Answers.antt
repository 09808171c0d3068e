use Rattle.std.proofs.Common.{[], ◌∷◌}
use Rattle.function_laws.specs.Makings as things
use Rattle.dd_manager.proofs.Judging.{judges-both}
use Rattle.dd_manager.proofs.faults.with_variable.Goals as goal

pub returns : goal.returns
returns c = judges-both c.args.there.now.rows.now (things.function c.args.kind c.args.a ∷ []) (things.variable c.args.v ∷ []) c.function.result c.variable.result c.first.result c.first.ensures c.function.ensures c.variable.ensures
