use Rattle.std.proofs.Common.{◌≡◌, map, take}
use Rattle.seat_guard.specs.Passes.{known}
use Rattle.dd_session.specs.Sessions.{edge_in}
use Rattle.dd_session.proofs.listing.edges_of.Given as goal

abbrev pub invariant-loop-row : goal.invariant-loop-row
invariant-loop-row l = l.edges.items ≡ map (edge_in (known l.pass).rows) (take l.row-index l.rows)
