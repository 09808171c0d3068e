use Rattle.net_builds.proofs.BackLemmas.{comes_none}
use Rattle.net_builds.proofs.diagrams.root_row.Goals as goal

pub returns-else-is_complemented-clause-back : goal.returns-else-is_complemented-clause-back
returns-else-is_complemented-clause-back g c = comes_none g.H.Host.has g.H.Host.standing g.H.Host.tells c.args.host.now c.args.session.now c.row_of.result c.requires.may.own
