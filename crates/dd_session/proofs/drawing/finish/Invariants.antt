use Rattle.shared_store.specs.Sharing.{view_of}
use Rattle.dd_session.specs.Requests.{telling_of}
use Rattle.dd_session.proofs.drawing.finish.Given as goal

abbrev pub ghosts-draw : goal.ghosts-draw
ghosts-draw a = record { told = telling_of (view_of a.shared.now) a.request.now a.answer.now }
