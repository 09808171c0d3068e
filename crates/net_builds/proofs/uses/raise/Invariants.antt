use Rattle.std.proofs.Common.{take}
use Rattle.net_builds.specs.Uses.{Raises}
use Rattle.net_builds.proofs.uses.raise.Given as goal

abbrev pub invariant-loop-signal : goal.invariant-loop-signal
invariant-loop-signal l = Raises (take l.signal-index l.signals) l.reader l.fn.last l.last
