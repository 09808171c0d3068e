use Rattle.seat_guard.specs.Passes.{known}
use Rattle.dd_session.proofs.Naming.{finds_some, kind_found}
use Rattle.dd_session.proofs.drawing.kind_at.Goals as goal

pub kind-requires : goal.kind-requires
kind-requires c = finds_some (known c.args.pass.now) c.args.book.now.rows c.args.name c.requires.tied c.requires.live

pub returns : goal.returns
returns c = λ k named. kind_found (known c.args.pass.now) c.args.book.now.rows c.args.name c.requires.tied k c.kind.result named c.kind.ensures
