use Rattle.std.proofs.Common.{rules}
use Rattle.job_text.proofs.reader.next_section.Goals as goal

pub returns-clause-ok : goal.returns-clause-ok
returns-clause-ok c = search (rules, c.requires)
