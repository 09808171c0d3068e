use Rattle.std.proofs.Common.{ap, ◌∙◌}
use Rattle.dd_session.specs.Sessions.{Seen, edge_in}
use Rattle.dd_session.proofs.AtRest.{seen_at}
use Rattle.dd_session.proofs.Naming.{edge_seen}
use Rattle.dd_session.proofs.session.Session.edge.Goals as goal

pub returns-clause-edge : goal.returns-clause-edge
returns-clause-edge c = λ k named d seat.
    let seen = seen_at c.self.inside.seat c.seat_of.result.now c.self.inside.book c.seat_of.ensures c.self.view_is in
    edge_seen c.args.self.now d seat k c.args.h c.edge_at.result (c.edge_at.ensures.own ∙ ap (λ (s : Seen). edge_in s.rows c.args.h) seen) named
