use Rattle.std.proofs.Common.{rules}
use Rattle.add_ops.proofs.selection.reduce.Goals as goal

pub returns-then-index-eq-TRUE_SLOT : goal.returns-then-index-eq-TRUE_SLOT
returns-then-index-eq-TRUE_SLOT c = search (rules, c.requires)
