use Rattle.std.proofs.Common.{rules}
use Rattle.net_reports.proofs.classes.class_from.Goals as goal

pub returns : goal.returns
returns c = search (rules, c.requires)
