use Rattle.node_store.proofs.Running.{Serves-halts}
use Rattle.quantify_ops.proofs.nested.and_exists.Goals as goal

pub without_overflow-requires : goal.without_overflow-requires
without_overflow-requires g c = (c.quantify.ensures.runs c.requires.cube.0 c.requires.cube.1).overflow

pub returns-clause-runs : goal.returns-clause-runs
returns-clause-runs g c = λ vars d. Serves-halts c.without_overflow.result c.without_overflow.ensures (c.quantify.ensures.runs vars d)
