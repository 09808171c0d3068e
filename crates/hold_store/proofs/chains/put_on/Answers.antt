use Rattle.std.proofs.Common.{refl}
use Rattle.hold_store.proofs.chains.put_on.Goals as goal

pub loop-init : goal.loop-init
loop-init g c = record { own = c.requires.own; table = refl; rest = refl; known = ((g.S.Holds.known c.args.seat.now).hand.link, refl) }
