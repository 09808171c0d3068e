-- A call that tells a sweep.
use Rattle.std.proofs.Common.{◌≡◌, [], refl}
use Rattle.function_laws.specs.Outcomes.{is_done}
use Rattle.words_rule.specs.declared.view.Counts.{Counts}
use Rattle.words_rule.specs.declared.view.Draws.{Draws}
use Rattle.words_rule.specs.Moves.{MayMove}
use Rattle.words_rule.specs.Views.{MayTell, nothing_told}

pub may_sweep : (d : Draws) → MayTell d nothing_told
may_sweep d = record {
  plain = refl;
  step = λ t a. ((is_done, refl, tt), record { sizes_are = a.sizes_are; live = a.live; fresh = a.fresh; cells = a.cells });
  board = λ _. refl;
}

pub may_move : (d : Draws) (c : Counts) → c.raised ≡ [] → c.owed ≡ [] → MayMove d c nothing_told
may_move d c raised owed = record { up = (raised, owed, tt); quiet = tt; boardless = λ _. tt; gains = λ t a. tt; loses = λ t a. tt; carries = tt }
