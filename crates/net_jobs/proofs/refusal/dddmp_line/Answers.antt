use Rattle.std.proofs.Common.{rules, append_assoc}
use Rattle.net_jobs.proofs.refusal.dddmp_line.Goals as goal

pub returns : goal.returns
returns c = simp append_assoc (search rules)
