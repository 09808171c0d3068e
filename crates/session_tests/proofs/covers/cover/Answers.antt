use Rattle.std.proofs.Common.{ap, arith}
use Rattle.dd_session.specs.Sessions.{Managed}
use Rattle.session_tests.proofs.covers.cover.Goals as goal

pub isop-requires : goal.isop-requires
isop-requires g c =
    let n = ap (λ (m : Managed). m.vars) c.requires.own in let m = ap (λ (m : Managed). m.elements) c.requires.own in let enough = c.requires.literals in
    record { own = c.requires.own; room = c.ready.ensures.room; can = (omega (arith, n, m, enough), (c.ready.ensures.first, (c.ready.ensures.second, tt))) }
