use Rattle.std.proofs.Common.{rules}
use Rattle.dd_shell.proofs.adapters.Reading.new.Goals as goal

pub returns : goal.returns
returns g c = search (rules, c.requires)
