use Rattle.std.proofs.Common.{rules}
use Rattle.quantify_ops.proofs.quantification.exists_key.Goals as goal

pub returns : goal.returns
returns c = search (rules, c.requires)
