use Rattle.std.proofs.Common.{rules}
use Rattle.node_store.proofs.pointwise.key_of.Goals as goal

pub returns : goal.returns
returns c = search (rules, c.requires)
