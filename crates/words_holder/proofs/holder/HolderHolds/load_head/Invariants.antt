use Rattle.words_holder.proofs.holder.HolderHolds.load_head.Given as goal

abbrev pub ghosts-load_whole : goal.ghosts-load_whole
ghosts-load_whole g a = record { level = a.level }
