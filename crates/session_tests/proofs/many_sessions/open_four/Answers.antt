use Rattle.std.proofs.Common.{List, sym, subst}
use Rattle.std.specs.List.{All}
use Rattle.dd_session.specs.Managing.{Managed, Seen}
use Rattle.session_tests.proofs.Opened.{IsOf, opened_own}
use Rattle.session_tests.proofs.many_sessions.open_four.Goals as goal

pub returns-clause-own : goal.returns-clause-own
returns-clause-own c =
    let m : Managed = c.in_ok-manager.manager in
    subst (λ (l : List Seen). All (IsOf m) l) (sym c.in_ok-manager.ensures.ok.3) (opened_own m m.sessions)
