use Rattle.std.proofs.Common.{rules}
use Rattle.dd_session.proofs.fetching.choose.Goals as goal

pub returns-in-Some-clause-taken : goal.returns-in-Some-clause-taken
returns-in-Some-clause-taken c = search (rules, c.requires)
