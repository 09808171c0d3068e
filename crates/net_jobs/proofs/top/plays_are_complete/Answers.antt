use Rattle.net_jobs.proofs.CompleteLemmas.{is_complete}
use Rattle.net_jobs.proofs.top.plays_are_complete.Goals as goal

pub returns : goal.returns
returns c = is_complete
