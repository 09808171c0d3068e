use Rattle.std.proofs.Common.{rules}
use Rattle.edge_bits.proofs.words.pack.Goals as goal

pub returns-after-value-lt0-clause-layout : goal.returns-after-value-lt0-clause-layout
returns-after-value-lt0-clause-layout c = search (rules, c.requires)

pub returns-after-value-lt0-clause-reads_back : goal.returns-after-value-lt0-clause-reads_back
returns-after-value-lt0-clause-reads_back c = search (rules, c.requires)

pub returns-after-complement-clause-layout : goal.returns-after-complement-clause-layout
returns-after-complement-clause-layout c = search (rules, c.requires)

pub returns-after-complement-clause-reads_back : goal.returns-after-complement-clause-reads_back
returns-after-complement-clause-reads_back c = search (rules, c.requires)
