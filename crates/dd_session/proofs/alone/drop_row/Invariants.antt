use Rattle.seat_guard.specs.Passes.{known}
use Rattle.dd_session.specs.Requests.{alone_telling}
use Rattle.dd_session.proofs.alone.drop_row.Given as goal

abbrev pub ghosts-draw_alone : goal.ghosts-draw_alone
ghosts-draw_alone a = record { told = alone_telling (known a.pass.now).rows a.alone }
