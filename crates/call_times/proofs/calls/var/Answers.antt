use Rattle.std.proofs.Common.{ap, arith}
use Rattle.dd_session.specs.Sessions.{Managed}
use Rattle.call_times.proofs.calls.var.Goals as goal

pub var-requires : goal.var-requires
var-requires g c = let vars = ap (λ (m : Managed). m.vars) c.requires.own in let below = c.requires.variable in record { own = c.requires.own; room = c.has_room.ensures (search); can = (omega (arith, vars, below), tt) }
