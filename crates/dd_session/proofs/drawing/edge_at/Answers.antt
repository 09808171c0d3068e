use Rattle.seat_guard.specs.Passes.{known}
use Rattle.dd_session.proofs.Naming.{edge_found, edge_stands, finds_some}
use Rattle.dd_session.proofs.drawing.edge_at.Goals as goal

pub edge-requires : goal.edge-requires
edge-requires c = finds_some (known c.args.pass.now) c.args.book.now.rows c.args.name c.requires.tied c.requires.live

pub returns-clause-edge : goal.returns-clause-edge
returns-clause-edge c = edge_stands (known c.args.pass.now) c.args.book.now.rows c.args.name c.requires.tied c.edge.result c.edge.ensures

pub returns-clause-own : goal.returns-clause-own
returns-clause-own c = edge_found (known c.args.pass.now) c.args.book.now.rows c.args.name c.requires.tied c.edge.result c.requires.live c.edge.ensures
