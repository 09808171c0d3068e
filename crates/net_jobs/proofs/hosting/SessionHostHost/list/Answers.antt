use Rattle.net_jobs.proofs.HostLaws.{listed, listed_own, listed_same, live_is_bdd}
use Rattle.net_jobs.proofs.hosting.SessionHostHost.list.Goals as goal

pub list-requires-clause-live : goal.list-requires-clause-live
list-requires-clause-live g c = λ k d below. live_is_bdd c.args.session.now _ (c.requires.held k d below)

pub returns-clause-own : goal.returns-clause-own
returns-clause-own g c =
    listed_own c.args.session.now c.list.new.self c.args.names.now c.list.result c.list.ensures.told c.args.self.now.manager.now c.requires.may.own

pub returns-clause-lists : goal.returns-clause-lists
returns-clause-lists g c = listed c.args.session.now c.list.new.self c.args.names.now c.list.result c.list.ensures.told

pub returns-clause-same : goal.returns-clause-same
returns-clause-same g c = listed_same c.args.session.now c.list.new.self c.args.names.now c.list.result c.list.ensures.told
