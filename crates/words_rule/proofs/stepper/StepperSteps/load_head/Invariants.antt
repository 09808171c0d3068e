use Rattle.words_rule.proofs.stepper.StepperSteps.load_head.Given as goal

abbrev pub ghosts-load_head : goal.ghosts-load_head
ghosts-load_head g a = record { level = a.level }
