use Rattle.std.proofs.Common.{rules}
use Rattle.byte_streams.proofs.memory.PiecesSink.write.Goals as goal

pub returns-in-Ok-clause-bytes : goal.returns-in-Ok-clause-bytes
returns-in-Ok-clause-bytes c = search (rules, c.requires)
