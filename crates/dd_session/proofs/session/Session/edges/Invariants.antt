use Rattle.std.proofs.Common.{◌≡◌, map, take}
use Rattle.dd_session.specs.Sessions.{with_edge}
use Rattle.dd_session.proofs.session.Session.edges.Given as goal

abbrev pub invariant-loop-pair : goal.invariant-loop-pair
invariant-loop-pair l = l.edges.items ≡ map (with_edge l.self.rows) (take l.pair-index l.pairs)
