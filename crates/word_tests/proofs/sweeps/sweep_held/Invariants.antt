use Rattle.words_holder.specs.Holders.{home_of}
use Rattle.words_rule.specs.Passes.{view}
use Rattle.word_tests.proofs.sweeps.sweep_held.Given as goal

abbrev pub ghosts-swept : goal.ghosts-swept
ghosts-swept g a = record { number = a.seat.pass.seat.table_id.views_name; rest = home_of a.seat.pass.seat.table_id (view a.seat.pass) }
