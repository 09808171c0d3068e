use Rattle.std.proofs.Common.{◌+◌, ◌<◌, All, List, get_or, map, subst, sym, false}
use Rattle.std.proofs.lemmas.Result.{err_from_is_err_and}
use Rattle.std.proofs.lemmas.List.Elements.{All-set}
use Rattle.edge_bits.specs.declared.limits.TheConstants.{MOST_ROWS}
use Rattle.net_builds.specs.Handings.{Returns}
use Rattle.net_builds.specs.Holdings.{LetsAllGo, MayLetAllGo}
use Rattle.net_builds.specs.declared.handing.Handover.{Handover}
use Rattle.net_builds.proofs.Gathered.{part_back, part_may}
use Rattle.net_builds.proofs.Gathering.{returns_none}
use Rattle.net_builds.proofs.Pairs.{zip_same}
use Rattle.net_builds.proofs.handing.gather.Goals as goal

pub returns-in_err-handovers-clause-refused : goal.returns-in_err-handovers-clause-refused
returns-in_err-handovers-clause-refused g c =
    let p = err_from_is_err_and c.from_residual.result c.from_residual.ensures.1 in
    rw p.1 (zip_same (Returns c.args.cell false) (returns_none c.args.cell false) (map g.H.Host.standing c.args.sessions.now))

pub let_go_fetched-requires : goal.let_go_fetched-requires
let_go_fetched-requires g c =
    let room = subst (λ n. All (λ s. (g.H.Host.standing s).rows + n < MOST_ROWS) c.args.sessions.now) c.requires.may.2 c.requires.may.1.room in
    record {
      may = subst (λ (l : List Handover). MayLetAllGo g.H.Host.has g.H.Host.standing c.args.host.now (get_or c.hand_all.new.sessions 0 c.index-sessions-0.result) (map (λ (h : Handover). h.to) l)) (sym c.deref.ensures.value)
          (part_may g.H.Host.has g.H.Host.standing c.args.host.now c.args.cell c.args.outputs c.args.sessions.now c.hand_all.new.sessions c.hand_all.new.handovers.items c.index-sessions-0.result c.in-Err.ensures.refused room c.in-Err.ensures.own);
    }

pub returns-in-Err-clause-own : goal.returns-in-Err-clause-own
returns-in-Err-clause-own g c = All-set (g.H.Host.has c.args.host.now) c.hand_all.new.sessions 0 c.let_go_fetched.new.session c.let_go_fetched.ensures.own c.in-Err.ensures.own

pub returns-in-Err-clause-refused : goal.returns-in-Err-clause-refused
returns-in-Err-clause-refused g c =
    let st = g.H.Host.standing in
    let room = subst (λ n. All (λ s. (st s).rows + n < MOST_ROWS) c.args.sessions.now) c.requires.may.2 c.requires.may.1.room in
    let first = st (get_or c.hand_all.new.sessions 0 c.index-sessions-0.result) in
    part_back g.H.Host.has st c.args.host.now c.args.cell c.args.outputs c.args.sessions.now c.hand_all.new.sessions c.hand_all.new.handovers.items c.index-sessions-0.result c.in-Err.ensures.refused room c.in-Err.ensures.own
    c.let_go_fetched.new.session (subst (λ (l : List Handover). LetsAllGo first (st c.let_go_fetched.new.session) (map (λ (h : Handover). h.to) l)) c.deref.ensures.value c.let_go_fetched.ensures.gone)
