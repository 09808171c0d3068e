use Rattle.dead_sweep.proofs.sweeping.sweep.Given as goal

abbrev pub ghost-free_all : goal.ghost-free_all
ghost-free_all g a = g.W.Whole.view a.w.now
