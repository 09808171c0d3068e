use Rattle.std.proofs.Common.{List, length, map, subst, arith}
use Rattle.std.specs.List.{AllZip}
use Rattle.net_reports.specs.Reports.{output_functions}
use Rattle.net_builds.specs.Builds.{Builds, FindsOf}
use Rattle.net_builds.specs.Outputs.{AreRefused, AreShared, LeavesNone}
use Rattle.net_builds.specs.Shares.{AreBuilt, HandsAndTells, StopsOnly}
use Rattle.net_builds.specs.Sifting.{BuildsSifted}
use Rattle.net_builds.specs.Standings.{Standing}
use Rattle.net_builds.proofs.BackLemmas.{err_weaker, ok_both, ok_weaker}
use Rattle.net_builds.proofs.Built.{all_none, all_unsifted, have_rows, leaves_all, refused_all}
use Rattle.net_builds.proofs.Finishing.{finish_builds, finish_sifted}
use Rattle.net_builds.proofs.Gathered.{as_many_wanted}
use Rattle.net_builds.proofs.building.finish_network.Goals as goal

pub let_go_shares-requires : goal.let_go_shares-requires
let_go_shares-requires g c =
    let may = c.requires.may in
    record {
      may = record {
        own = c.told_unless_stopped-told.ensures.own;
        rows = have_rows (g.H.Host.tells c.args.host.now) c.args.net.now (length c.args.sessions.now) c.args.cell c.args.sifts 0 may.shared.0 (map g.H.Host.standing c.args.sessions.now)
            (map g.H.Host.standing c.told_unless_stopped-told.new.sessions) c.args.shares.now may.shared.1 c.told_unless_stopped-told.ensures.returns (omega (arith, may.bounded.signals));
      };
    }

pub returns-clause-none : goal.returns-clause-none
returns-clause-none g c =
    let may = c.requires.may in
    let st = g.H.Host.standing in
    all_none c.args.cell c.args.sifts may.shared.0 (map st c.let_go_shares.new.sessions)
    (leaves_all (g.H.Host.tells c.args.host.now) c.args.net.now (length c.args.sessions.now) c.args.cell c.args.sifts 0 may.shared.0 (map st c.args.sessions.now) (map st c.told_unless_stopped-told.new.sessions)
    (map st c.let_go_shares.new.sessions) c.args.shares.now may.shared.1 c.told_unless_stopped-told.ensures.returns c.let_go_shares.ensures.gone)

pub returns-clause-built : goal.returns-clause-built
returns-clause-built g c =
    let st = g.H.Host.standing in
    let net = c.args.net.now in
    let built = map st c.args.sessions.now in
    let mid = map st c.told_unless_stopped-told.new.sessions in
    let new = map st c.let_go_shares.new.sessions in
    let Tells = FindsOf net c.args.patterns.now c.args.telling in
    let limit = g.H.Host.limit c.args.host.now in
    ok_weaker (λ found. HandsAndTells c.args.sifts limit Tells c.args.cell (output_functions net) built mid found)
    (λ found. (old : List Standing) → AreShared (g.H.Host.tells c.args.host.now) net (length c.args.sessions.now) 0 old built c.args.shares.now → Builds Tells c.args.cell (output_functions net) old new found)
    (λ found handed old shared. finish_builds (g.H.Host.tells c.args.host.now) net (length c.args.sessions.now) c.args.cell Tells c.args.sifts limit found built mid handed old new c.args.shares.now shared c.let_go_shares.ensures.gone)
    c.told_unless_stopped-told.result c.told_unless_stopped-told.ensures.told

pub returns-clause-sifted : goal.returns-clause-sifted
returns-clause-sifted g c does =
    let st = g.H.Host.standing in
    let net = c.args.net.now in
    let may = c.requires.may in
    let built = map st c.args.sessions.now in
    let mid = map st c.told_unless_stopped-told.new.sessions in
    let new = map st c.let_go_shares.new.sessions in
    let Tells = FindsOf net c.args.patterns.now c.args.telling in
    let limit = g.H.Host.limit c.args.host.now in
    ok_both (λ found. HandsAndTells c.args.sifts limit Tells c.args.cell (output_functions net) built mid found) (λ _. AreBuilt c.args.shares.now)
    (λ found. (old : List Standing) → AreShared (g.H.Host.tells c.args.host.now) net (length c.args.sessions.now) 0 old built c.args.shares.now → BuildsSifted Tells limit c.args.cell (output_functions net) old new found)
    (λ found handed done old shared. finish_sifted (g.H.Host.tells c.args.host.now) net (length c.args.sessions.now) c.args.cell Tells c.args.sifts limit found built mid handed does (length net.inputs) (omega (arith, as_many_wanted net, may.bounded.some)) old new c.args.shares.now done
    may.counted may.vars shared c.let_go_shares.ensures.gone)
    c.told_unless_stopped-told.result c.told_unless_stopped-told.ensures.told c.told_unless_stopped-told.ensures.done

pub returns-clause-unsifted : goal.returns-clause-unsifted
returns-clause-unsifted g c none old shared =
    let st = g.H.Host.standing in
    all_unsifted c.args.cell old (map st c.let_go_shares.new.sessions) (subst (λ b. AllZip (LeavesNone c.args.cell b) old (map st c.let_go_shares.new.sessions)) none
    (leaves_all (g.H.Host.tells c.args.host.now) c.args.net.now (length c.args.sessions.now) c.args.cell c.args.sifts 0 old (map st c.args.sessions.now) (map st c.told_unless_stopped-told.new.sessions)
    (map st c.let_go_shares.new.sessions) c.args.shares.now shared c.told_unless_stopped-told.ensures.returns c.let_go_shares.ensures.gone))

pub returns-clause-refused : goal.returns-clause-refused
returns-clause-refused g c =
    let st = g.H.Host.standing in
    let net = c.args.net.now in
    let built = map st c.args.sessions.now in
    let mid = map st c.told_unless_stopped-told.new.sessions in
    let new = map st c.let_go_shares.new.sessions in
    err_weaker (StopsOnly c.args.shares.now built mid)
    (λ refusal. (old : List Standing) → AreShared (g.H.Host.tells c.args.host.now) net (length c.args.sessions.now) 0 old built c.args.shares.now → AreRefused (g.H.Host.tells c.args.host.now) c.args.cell c.args.sifts old new refusal)
    (λ refusal stopped old shared. refused_all (g.H.Host.tells c.args.host.now) net (length c.args.sessions.now) c.args.cell c.args.sifts old built mid new c.args.shares.now refusal shared
    c.told_unless_stopped-told.ensures.returns c.let_go_shares.ensures.gone stopped)
    c.told_unless_stopped-told.result c.told_unless_stopped-told.ensures.stopped
