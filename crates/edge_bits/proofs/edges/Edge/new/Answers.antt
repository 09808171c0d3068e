use Rattle.std.proofs.Common.{rules}
use Rattle.edge_bits.proofs.edges.Edge.new.Goals as goal

pub returns : goal.returns
returns c = search (rules, c.requires)
