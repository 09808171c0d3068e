use Rattle.std.proofs.Common.{IsTrue, ◌↔◌, subst}
use Rattle.dd_session.specs.Sessions.{IsLive, Seen}
use Rattle.dd_session.proofs.AtRest.{live_at}
use Rattle.dd_session.proofs.session.Session.is_live.Goals as goal

pub returns : goal.returns
returns c = subst (λ (s : Seen). IsTrue c.is_live.result ↔ IsLive s c.args.h) c.self.view_is (live_at c.self.inside.seat c.self.inside.book c.args.h c.is_live.result c.self.invariant c.is_live.ensures)
