use Rattle.held_times.proofs.Openings.{opening_idle}
use Rattle.held_times.proofs.main.Goals as goal

pub held_pairs-requires-clause-idle : goal.held_pairs-requires-clause-idle
held_pairs-requires-clause-idle c = opening_idle _ _ _ c.in-Ok.store c.in-Ok.ensures
