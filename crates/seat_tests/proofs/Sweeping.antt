-- A turn in which a sweep is told.
use Rattle.std.proofs.Common.{◌≡◌, [], refl}
use Rattle.function_laws.specs.Outcomes.{is_done}
use Rattle.seat_guard.specs.declared.view.Counts.{Counts}
use Rattle.seat_guard.specs.declared.view.Draws.{Draws}
use Rattle.seat_guard.specs.Moves.{MayMove}
use Rattle.seat_guard.specs.Views.{MayTell, nothing_told}

pub may_sweep : (d : Draws) → MayTell d nothing_told
may_sweep d = record {
  plain = refl;
  step = λ t a. ((is_done, refl, tt), record { sizes_are = a.sizes_are; live = a.live; fresh = a.fresh; cells = a.cells });
  finds = tt;
  board = λ _. refl;
  orders = λ _. refl;
}

pub may_move : (d : Draws) (c : Counts) → c.raised ≡ [] → c.owed ≡ [] → MayMove d c nothing_told
may_move d c raised owed = record { up = (raised, owed, tt); aged = tt; quiet = tt; boardless = λ _. tt; fits = tt; carries = tt }
