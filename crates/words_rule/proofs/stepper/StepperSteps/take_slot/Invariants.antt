use Rattle.node_slots.specs.Stores.{lent_room}
use Rattle.words_rule.specs.Known.{own_of}
use Rattle.words_rule.specs.Passes.{view}
use Rattle.words_rule.proofs.stepper.StepperSteps.take_slot.Given as goal

abbrev pub ghosts-take_slot : goal.ghosts-take_slot
ghosts-take_slot g a = record { own = own_of (view a.pass.now) (lent_room a.scratch.now); bits = a.bits }
