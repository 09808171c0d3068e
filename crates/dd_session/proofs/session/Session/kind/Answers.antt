use Rattle.std.proofs.Common.{sym, subst}
use Rattle.dd_session.specs.Sessions.{IsLive, IsLiveAs, Seen}
use Rattle.dd_session.proofs.AtRest.{finds_at, kind_at}
use Rattle.dd_session.proofs.session.Session.kind.Goals as goal

pub kind-requires : goal.kind-requires
kind-requires c = finds_at c.self.inside.seat c.self.inside.book c.args.h c.self.invariant (subst (λ (s : Seen). IsLive s c.args.h) (sym c.self.view_is) c.requires)

pub returns : goal.returns
returns c = λ k named. kind_at c.self.inside.seat c.self.inside.book c.args.h k c.kind.result c.self.invariant (subst (λ (s : Seen). IsLiveAs k s c.args.h) (sym c.self.view_is) named) c.kind.ensures
