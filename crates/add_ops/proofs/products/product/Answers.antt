use Rattle.std.proofs.Common.{rules}
use Rattle.add_ops.proofs.products.product.Goals as goal

pub returns-clause-some : goal.returns-clause-some
returns-clause-some c = search (rules, c.requires)
