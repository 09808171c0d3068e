use Rattle.node_store.proofs.Running.{Serves-halts}
use Rattle.quantify_ops.proofs.operations.vector_compose.Goals as goal

pub returns : goal.returns
returns g c = Serves-halts c.without_overflow.result c.without_overflow.ensures c.in_scratch.ensures
