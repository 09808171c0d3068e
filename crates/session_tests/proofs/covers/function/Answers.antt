use Rattle.std.proofs.Common.{ap, arith}
use Rattle.dd_session.specs.Sessions.{Managed}
use Rattle.session_tests.proofs.covers.function.Goals as goal

pub cover_of-requires : goal.cover_of-requires
cover_of-requires g c =
    let n = ap (λ (m : Managed). m.vars) c.requires.own in let m = ap (λ (m : Managed). m.elements) c.requires.own in let enough = c.requires.literals in
    record { own = c.requires.own; room = c.has_room.ensures; can = (omega (arith, n, m, enough), (c.is_zdd.ensures (search), tt)) }
