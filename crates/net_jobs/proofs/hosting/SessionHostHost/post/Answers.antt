use Rattle.function_laws.specs.declared.history.Call.TheVariants as calls
use Rattle.function_laws.specs.declared.history.Reply.TheVariants as replies
use Rattle.net_jobs.proofs.HostLaws.{posts, still_own}
use Rattle.net_jobs.proofs.hosting.SessionHostHost.post.Goals as goal

pub returns-clause-own : goal.returns-clause-own
returns-clause-own g c =
    still_own c.args.self.now.manager.now c.args.session.now c.post-posted.new.self (calls.Post c.args.cell c.args.f) replies.Done c.post-posted.result.place
    c.post-posted.ensures.told c.requires.may.own

pub returns-clause-posts : goal.returns-clause-posts
returns-clause-posts g c = posts c.args.session.now c.post-posted.new.self c.args.cell c.args.f c.post-posted.result.place c.post-posted.ensures.told
