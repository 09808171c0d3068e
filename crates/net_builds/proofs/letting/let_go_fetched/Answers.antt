use Rattle.std.proofs.Common.{◌≡◌, ◌∙◌, List, ap, arith, get_or, length, map, subst, sym, take}
use Rattle.std.proofs.Math.Seq.{take-length}
use Rattle.std.proofs.lemmas.List.{map_more}
use Rattle.net_builds.specs.Holdings.{LetsAllGo}
use Rattle.net_builds.specs.Standings.{IsLive}
use Rattle.net_builds.specs.declared.handing.Handover.{Handover}
use Rattle.net_builds.proofs.HoldingLemmas.{fetched_among, fetched_apart, goes_more, goes_none, live_left}
use Rattle.net_builds.proofs.letting.let_go_fetched.Goals as goal

no_handover : Handover
no_handover = record { from = record { row = 0; generation = 0 }; to = record { row = 0; generation = 0 }; other = record { row = 0; generation = 0 }; post = 0; fetch = 0 }

pub loop-handover-init : goal.loop-handover-init
loop-handover-init g c = record { own = c.requires.may.own; gone = goes_none (g.H.Host.standing c.args.session.now) }

pub let_go-requires-clause-may : goal.let_go-requires-clause-may
let_go-requires-clause-may g c = record { own = c.loop-handover.invariant.own; room = omega (arith, c.requires.may.room, c.loop-handover.invariant.gone.rows) }

pub let_go-requires-clause-held : goal.let_go-requires-clause-held
unfolding no_handover
let_go-requires-clause-held g c =
    let start = g.H.Host.standing c.args.session.now in
    let hs = c.args.handovers.now in
    let i = c.loop-handover.handover-index in
    live_left start (g.H.Host.standing c.loop-handover.session) (map (λ (h : Handover). h.to) (take i hs)) (get_or hs i no_handover).to c.loop-handover.invariant.gone
    (fetched_apart hs i no_handover c.loop-handover-test.true c.requires.may.rising) (fetched_among (IsLive start) hs i no_handover c.loop-handover-test.true c.requires.may.live)

pub loop-handover-preserved : goal.loop-handover-preserved
unfolding no_handover
loop-handover-preserved g c =
    let start = g.H.Host.standing c.args.session.now in
    let new = g.H.Host.standing c.let_go.new.session in
    let hs = c.args.handovers.now in
    let i = c.loop-handover.handover-index in
    record {
      own = c.let_go.ensures.own;
      gone = subst (LetsAllGo start new) (sym (map_more (λ (h : Handover). h.to) hs i no_handover c.loop-handover-test.true))
          (goes_more start (g.H.Host.standing c.loop-handover.session) new (map (λ (h : Handover). h.to) (take i hs)) (get_or hs i no_handover).to c.loop-handover.invariant.gone c.let_go.ensures.gone);
    }

pub returns-clause-gone : goal.returns-clause-gone
returns-clause-gone g c =
    let hs = c.args.handovers.now in
    let end : c.loop-handover.handover-index ≡ length hs = omega (arith, c.loop-handover.auto.handover-index-end, c.loop-handover-test.false) in
    subst (λ (l : List Handover). LetsAllGo (g.H.Host.standing c.args.session.now) (g.H.Host.standing c.loop-handover.session) (map (λ (h : Handover). h.to) l)) (ap (λ i. take i hs) end ∙ take-length hs)
    c.loop-handover.invariant.gone
