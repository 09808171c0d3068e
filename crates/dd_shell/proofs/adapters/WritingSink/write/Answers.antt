use Rattle.std.proofs.Common.{rules}
use Rattle.dd_shell.proofs.adapters.WritingSink.write.Goals as goal

pub returns-then-bytes-gt0-clause-bytes : goal.returns-then-bytes-gt0-clause-bytes
returns-then-bytes-gt0-clause-bytes g c = search (rules, c.requires)

pub returns-then-bytes-gt0-clause-uncounted : goal.returns-then-bytes-gt0-clause-uncounted
returns-then-bytes-gt0-clause-uncounted g c = search (rules, c.requires)

pub returns-else-count-eq0-clause-bytes : goal.returns-else-count-eq0-clause-bytes
returns-else-count-eq0-clause-bytes g c = search (rules, c.requires)
