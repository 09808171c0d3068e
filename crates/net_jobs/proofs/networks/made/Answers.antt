use Rattle.std.proofs.Common.{rules}
use Rattle.net_jobs.proofs.networks.made.Goals as goal

pub returns-in-Ok-read-clause-text : goal.returns-in-Ok-read-clause-text
returns-in-Ok-read-clause-text g c = search (rules, c.requires)
