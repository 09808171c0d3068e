use Rattle.std.proofs.Common.{rules}
use Rattle.byte_streams.proofs.reading.read_part.Goals as goal

pub returns-in-Err-clause-stop : goal.returns-in-Err-clause-stop
returns-in-Err-clause-stop g c = search (rules, c.requires)
