use Rattle.std.proofs.Common.{◌*◌}
use Rattle.hold_times.proofs.Openings.{opening_idle, stays_idle}
use Rattle.hold_times.proofs.store_of.Goals as goal

pub returns : goal.returns
returns c = stays_idle c.with_pairs.result _ c.with_pairs.ensures (opening_idle (2 * c.args.request.pairs) 0 c.args.request.slots c.in-Ok.store c.in-Ok.ensures)
