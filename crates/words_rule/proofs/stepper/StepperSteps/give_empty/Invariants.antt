use Rattle.std.proofs.Common.{Some}
use Rattle.words_rule.specs.Kept.{whole_of}
use Rattle.words_rule.specs.Known.{known_of, own_none}
use Rattle.words_rule.specs.Passes.{view}
use Rattle.words_rule.specs.Shapes.{shape_in}
use Rattle.words_rule.specs.Steppers.{due_at}
use Rattle.words_rule.proofs.stepper.StepperSteps.give_empty.Given as goal

abbrev pub ghosts-give_empty : goal.ghosts-give_empty
ghosts-give_empty g a = record { due = Some (whole_of (shape_in (view a.pass.now).draws) (due_at (known_of (view a.pass.now) own_none).view a.job.now)) }
