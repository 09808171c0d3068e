use Rattle.net_jobs.proofs.CompleteLemmas.{is_complete_for_loads}
use Rattle.net_jobs.proofs.top.loads_are_complete.Goals as goal

pub returns : goal.returns
returns c = is_complete_for_loads
