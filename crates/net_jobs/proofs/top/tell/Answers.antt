use Rattle.std.proofs.Common.{rules}
use Rattle.net_jobs.proofs.top.tell.Goals as goal

pub returns-in-Ok-clause-cut_off : goal.returns-in-Ok-clause-cut_off
returns-in-Ok-clause-cut_off g c = search (rules, c.requires)
