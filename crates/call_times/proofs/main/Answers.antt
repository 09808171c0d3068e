use Rattle.std.proofs.Common.{List, sym, subst}
use Rattle.std.specs.List.{All}
use Rattle.dd_session.specs.Managing.{Managed, Seen}
use Rattle.call_times.proofs.Opened.{IsOf, opened_own}
use Rattle.call_times.proofs.main.Goals as goal

pub call_at_once-requires-clause-own : goal.call_at_once-requires-clause-own
call_at_once-requires-clause-own g c κs =
    let m : Managed = c.in-Ok.manager in
    subst (λ (l : List Seen). All (IsOf m) l) (sym c.in-Ok.ensures.ok.3) (opened_own m m.sessions)
