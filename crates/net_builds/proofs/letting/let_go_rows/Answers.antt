use Rattle.std.proofs.Common.{◌≡◌, ◌∙◌, List, Option, ap, arith, length, subst, sym, take}
use Rattle.std.proofs.Math.Seq.{take-length}
use Rattle.function_laws.specs.declared.history.Name.{Name}
use Rattle.net_builds.specs.Holdings.{LetsAllGo, names_in}
use Rattle.net_builds.specs.Standings.{IsLive}
use Rattle.net_builds.proofs.HoldingLemmas.{goes_more, goes_none, in_more, in_same, live_left, row_among, row_apart}
use Rattle.net_builds.proofs.letting.let_go_rows.Goals as goal

pub loop-row-init : goal.loop-row-init
loop-row-init g c = record { own = c.requires.may.own; gone = goes_none (g.H.Host.standing c.args.session.now) }

pub let_go-requires-clause-may : goal.let_go-requires-clause-may
let_go-requires-clause-may g c = record { own = c.loop-row.invariant.own; room = omega (arith, c.requires.may.room, c.loop-row.invariant.gone.rows) }

pub let_go-requires-clause-held : goal.let_go-requires-clause-held
let_go-requires-clause-held g c =
    let start = g.H.Host.standing c.args.session.now in
    let rows = c.args.rows.now in
    let i = c.loop-row.row-index in
    let name = c.in-Some.name in
    live_left start (g.H.Host.standing c.loop-row.session) (names_in (take i rows)) name c.loop-row.invariant.gone (row_apart rows i name c.requires.may.rising c.in-Some.is)
    (row_among (IsLive start) rows i name c.requires.may.live c.in-Some.is)

pub loop-row-preserved : goal.loop-row-preserved
loop-row-preserved g c =
    let start = g.H.Host.standing c.args.session.now in
    let new = g.H.Host.standing c.let_go.new.session in
    let rows = c.args.rows.now in
    let i = c.loop-row.row-index in
    record {
      own = c.let_go.ensures.own;
      gone = subst (LetsAllGo start new) (sym (in_more rows i c.in-Some.name c.loop-row-test.true c.in-Some.is))
          (goes_more start (g.H.Host.standing c.loop-row.session) new (names_in (take i rows)) c.in-Some.name c.loop-row.invariant.gone c.let_go.ensures.gone);
    }

pub returns-clause-gone : goal.returns-clause-gone
returns-clause-gone g c =
    let rows = c.args.rows.now in
    let end : c.loop-row.row-index ≡ length rows = omega (arith, c.loop-row.auto.row-index-end, c.loop-row-test.false) in
    subst (λ (l : List (Option Name)). LetsAllGo (g.H.Host.standing c.args.session.now) (g.H.Host.standing c.loop-row.session) (names_in l)) (ap (λ i. take i rows) end ∙ take-length rows) c.loop-row.invariant.gone

pub loop-row-preserved-in_default : goal.loop-row-preserved-in_default
loop-row-preserved-in_default g c =
    let start = g.H.Host.standing c.args.session.now in
    let now = g.H.Host.standing c.loop-row.session in
    record { own = c.loop-row.invariant.own; gone = subst (LetsAllGo start now) (sym (in_same c.args.rows.now c.loop-row.row-index c.in_default.is)) c.loop-row.invariant.gone }
