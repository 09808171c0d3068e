use Rattle.function_laws.specs.declared.history.Call.TheVariants as calls
use Rattle.function_laws.specs.declared.history.Reply.TheVariants as replies
use Rattle.net_jobs.proofs.HostLaws.{lets_go, live_is_row, still_own}
use Rattle.net_jobs.proofs.hosting.SessionHostHost.let_go.Goals as goal

pub drop_row-placed-requires-clause-live : goal.drop_row-placed-requires-clause-live
drop_row-placed-requires-clause-live g c = live_is_row c.args.session.now c.args.f c.requires.held

pub returns-clause-own : goal.returns-clause-own
returns-clause-own g c =
    still_own c.args.self.now.manager.now c.args.session.now c.drop_row-placed.new.self (calls.DropRow c.args.f) replies.Done c.drop_row-placed.result.place
    c.drop_row-placed.ensures.told c.requires.may.own

pub returns-clause-gone : goal.returns-clause-gone
returns-clause-gone g c = lets_go c.args.session.now c.drop_row-placed.new.self c.args.f c.drop_row-placed.result.place c.drop_row-placed.ensures.told c.drop_row-placed.ensures.fewer
