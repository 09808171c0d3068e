use Rattle.node_store.proofs.Running.{Serves-halts}
use Rattle.quantify_ops.proofs.nested.restrict.Goals as goal

pub returns-clause-runs : goal.returns-clause-runs
returns-clause-runs g c = Serves-halts c.without_overflow.result c.without_overflow.ensures c.simplify.ensures.runs
