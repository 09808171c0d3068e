use Rattle.std.proofs.Common.{◌≡◌, ◌∙◌, List, length, map, subst, sym, arith}
use Rattle.std.proofs.lemmas.List.Elements.{All-weaker}
use Rattle.function_laws.specs.declared.history.Name.{Name}
use Rattle.net_builds.specs.Asked.{MayReport}
use Rattle.net_builds.specs.Builds.{FindsOf}
use Rattle.net_builds.specs.Handings.{IsTold, Returns}
use Rattle.net_builds.specs.Shares.{SiftsAndTells}
use Rattle.net_builds.specs.Standings.{IsLive, Standing}
use Rattle.net_builds.specs.declared.handing.Handover.{Handover}
use Rattle.net_builds.proofs.BackLemmas.{ok_weaker}
use Rattle.net_builds.proofs.Gathering.{looks_return, returns_none, returns_then}
use Rattle.net_builds.proofs.SiftSteps.{sift_returns, sift_stays, stays_live}
use Rattle.net_builds.proofs.building.told_fetched.Goals as goal

pub tell-requires : goal.tell-requires
tell-requires g c =
    let shown : c.deref.result.now ≡ map (λ (h : Handover). h.to) c.args.handovers.now = c.deref.ensures.value ∙ c.in_ok-names.ensures in
    let old = g.H.Host.standing c.args.session.now in
    let mid = g.H.Host.standing c.sift_if.new.session in
    let stays = sift_stays c.args.sifts (g.H.Host.limit c.args.host.now) old mid c.in_ok-sift_if.ensures.sifted in
    record {
      may = subst (λ (names : List Name). MayReport g.H.Host.has g.H.Host.standing c.args.host.now c.sift_if.new.session (length c.args.net.now.inputs) (length c.args.net.now.outputs) names) (sym shown) (record {
        own = c.in_ok-sift_if.ensures.own;
        room = omega (arith, c.requires.may.room, stays.rows);
        vars = stays.vars_are ∙ c.requires.may.vars;
        held = All-weaker (IsLive old) (IsLive mid) (stays_live old mid stays) (map (λ (h : Handover). h.to) c.args.handovers.now) c.requires.may.held;
        many_are = c.requires.may.many_are;
      });
    }

pub returns-clause-told : goal.returns-clause-told
returns-clause-told g c =
    let shown : c.deref.result.now ≡ map (λ (h : Handover). h.to) c.args.handovers.now = c.deref.ensures.value ∙ c.in_ok-names.ensures in
    let old = g.H.Host.standing c.args.session.now in
    let mid = g.H.Host.standing c.sift_if.new.session in
    let new = g.H.Host.standing c.tell.new.session in
    let Tells = FindsOf c.args.net.now c.args.patterns.now c.args.telling in
    ok_weaker (λ found. IsTold Tells mid new c.deref.result.now found)
    (λ found. SiftsAndTells c.args.sifts (g.H.Host.limit c.args.host.now) Tells old new (map (λ (h : Handover). h.to) c.args.handovers.now) found)
    (λ found told. (mid, c.in_ok-sift_if.ensures.sifted, subst (λ (names : List Name). IsTold Tells mid new names found) shown told))
    c.tell.result c.tell.ensures.told

pub returns-clause-returns : goal.returns-clause-returns
returns-clause-returns g c cell =
    let old = g.H.Host.standing c.args.session.now in
    let mid = g.H.Host.standing c.sift_if.new.session in
    let new = g.H.Host.standing c.tell.new.session in
    returns_then cell c.args.sifts old mid new (sift_returns cell c.args.sifts (g.H.Host.limit c.args.host.now) old mid c.in_ok-sift_if.ensures.sifted) (looks_return cell c.args.sifts mid new c.tell.ensures.looks)

pub returns-in_err-names-clause-returns : goal.returns-in_err-names-clause-returns
returns-in_err-names-clause-returns g c cell = returns_none cell c.args.sifts (g.H.Host.standing c.args.session.now)

pub returns-in_err-sift_if-clause-returns : goal.returns-in_err-sift_if-clause-returns
returns-in_err-sift_if-clause-returns g c cell =
    let old = g.H.Host.standing c.args.session.now in
    subst (λ (s : Standing). Returns cell c.args.sifts old s) (sym c.in_err-sift_if.ensures.same) (returns_none cell c.args.sifts old)
