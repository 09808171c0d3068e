use Rattle.node_slots.specs.Stores.{lent_room}
use Rattle.words_rule.specs.Known.{own_of}
use Rattle.words_rule.specs.Passes.{view}
use Rattle.words_rule.proofs.stepper.StepperSteps.take_memo.Given as goal

abbrev pub ghosts-take_memo : goal.ghosts-take_memo
ghosts-take_memo g a = record { own = own_of (view a.pass.now) (lent_room a.scratch.now) }
