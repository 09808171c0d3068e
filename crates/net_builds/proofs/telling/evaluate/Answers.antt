use Rattle.net_builds.proofs.TellingLemmas.{asks_none}
use Rattle.net_builds.proofs.telling.evaluate.Goals as goal

pub returns-in_err-bits-clause-asks : goal.returns-in_err-bits-clause-asks
returns-in_err-bits-clause-asks g c = asks_none (g.H.Host.standing c.args.session.now)
