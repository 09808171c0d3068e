use Rattle.seat_guard.specs.Passes.{known}
use Rattle.dd_session.specs.Requests.{alone_telling, row_held}
use Rattle.dd_session.proofs.alone.copy.Given as goal

abbrev pub ghosts-raise_row : goal.ghosts-raise_row
ghosts-raise_row a = record { held = row_held (known a.pass.now).rows a.h }

abbrev pub ghosts-draw_alone : goal.ghosts-draw_alone
ghosts-draw_alone a = record { told = alone_telling (known a.pass.now).rows a.alone }
