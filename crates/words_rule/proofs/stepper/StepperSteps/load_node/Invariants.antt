use Rattle.node_slots.specs.Stores.{lent_room}
use Rattle.words_rule.specs.Known.{own_of}
use Rattle.words_rule.specs.Passes.{view}
use Rattle.words_rule.proofs.stepper.StepperSteps.load_node.Given as goal

abbrev pub ghosts-load_node : goal.ghosts-load_node
ghosts-load_node g a = record { own = own_of (view a.pass.now) (lent_room a.scratch.now) }
