use Rattle.std.proofs.Common.{All, List, subst, sym}
use Rattle.function_laws.specs.declared.history.Name.{Name}
use Rattle.net_builds.specs.Holdings.{AreRising, LetsAllGo}
use Rattle.net_builds.specs.Standings.{IsLive}
use Rattle.net_builds.proofs.LoadLemmas.{loads_refused, loads_told, loads_unsifted, unsifted_still}
use Rattle.net_builds.proofs.loading.load_report.Goals as goal

pub let_go_names-requires : goal.let_go_names-requires
let_go_names-requires g c =
    let loads = c.made_and_told-told.ensures.loads in
    let late = g.H.Host.standing c.made_and_told-told.new.session in
    record {
      may = record {
        own = c.made_and_told-told.ensures.own;
        room = loads.room;
        live = subst (All (IsLive late)) (sym c.deref.ensures.value) loads.stack.live;
        rising = subst AreRising (sym c.deref.ensures.value) loads.stack.rising;
      };
    }

pub returns-clause-loads : goal.returns-clause-loads
returns-clause-loads g c =
    let late = g.H.Host.standing c.made_and_told-told.new.session in
    let new = g.H.Host.standing c.let_go_names.new.session in
    loads_told (g.H.Host.tells c.args.host.now) c.args.dump.now c.args.patterns.now (g.H.Host.standing c.args.session.now) late new c.made_and_told-told.new.rows.made.items c.made_and_told-told.result
    c.made_and_told-told.ensures.loads (subst (λ (l : List Name). LetsAllGo late new l) c.deref.ensures.value c.let_go_names.ensures.gone)

pub returns-clause-refused : goal.returns-clause-refused
returns-clause-refused g c =
    let late = g.H.Host.standing c.made_and_told-told.new.session in
    let new = g.H.Host.standing c.let_go_names.new.session in
    loads_refused (g.H.Host.tells c.args.host.now) c.args.dump.now c.args.patterns.now (g.H.Host.standing c.args.session.now) late new c.made_and_told-told.new.rows.made.items c.made_and_told-told.result
    c.made_and_told-told.ensures.loads (subst (λ (l : List Name). LetsAllGo late new l) c.deref.ensures.value c.let_go_names.ensures.gone)

pub returns-clause-unsifted : goal.returns-clause-unsifted
returns-clause-unsifted g c =
    let late = g.H.Host.standing c.made_and_told-told.new.session in
    let new = g.H.Host.standing c.let_go_names.new.session in
    loads_unsifted (g.H.Host.tells c.args.host.now) c.args.dump.now c.args.patterns.now (g.H.Host.standing c.args.session.now) late new c.made_and_told-told.new.rows.made.items c.made_and_told-told.result
    c.made_and_told-told.ensures.loads (subst (λ (l : List Name). LetsAllGo late new l) c.deref.ensures.value c.let_go_names.ensures.gone)

pub returns-in_err-rows-clause-unsifted : goal.returns-in_err-rows-clause-unsifted
returns-in_err-rows-clause-unsifted g c = unsifted_still (g.H.Host.standing c.args.session.now)
