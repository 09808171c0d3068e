use Rattle.dead_sweep.proofs.frees.free_all.Given as goal

abbrev pub ghost-free_order : goal.ghost-free_order
ghost-free_order g a = g.start

abbrev pub ghost-free_leaves : goal.ghost-free_leaves
ghost-free_leaves g a = g.start
