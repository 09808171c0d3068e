use Rattle.words_rule.specs.Passes.{view}
use Rattle.words_rule.specs.Walkers.{besides_of}
use Rattle.step_times.proofs.words.work_under_share.Given as goal

abbrev pub ghosts-work_at_home : goal.ghosts-work_at_home
ghosts-work_at_home g a = record { number = a.stepper.pass.seat.table_id.views_name; rest = besides_of a.stepper.pass.seat.table_id (view a.stepper.pass) }
