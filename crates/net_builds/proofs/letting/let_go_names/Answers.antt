use Rattle.std.proofs.Common.{◌≡◌, ◌∙◌, ap, arith, get_or, length, subst, sym, take}
use Rattle.std.proofs.Math.Seq.{take-length}
use Rattle.std.proofs.lemmas.List.{take_more}
use Rattle.function_laws.specs.declared.history.Name.{Name}
use Rattle.net_builds.specs.Holdings.{LetsAllGo}
use Rattle.net_builds.proofs.HoldingLemmas.{goes_more, goes_none, live_left, name_apart}
use Rattle.net_builds.proofs.letting.let_go_names.Goals as goal

no_name : Name
no_name = record { row = 0; generation = 0 }

pub loop-name-init : goal.loop-name-init
loop-name-init g c = record { own = c.requires.may.own; gone = goes_none (g.H.Host.standing c.args.session.now) }

pub let_go-requires-clause-may : goal.let_go-requires-clause-may
let_go-requires-clause-may g c = record { own = c.loop-name.invariant.own; room = omega (arith, c.requires.may.room, c.loop-name.invariant.gone.rows) }

pub let_go-requires-clause-held : goal.let_go-requires-clause-held
unfolding no_name
let_go-requires-clause-held g c =
    let start = g.H.Host.standing c.args.session.now in
    let names = c.args.names.now in
    let i = c.loop-name.name-index in
    live_left start (g.H.Host.standing c.loop-name.session) (take i names) (get_or names i no_name) c.loop-name.invariant.gone
    (name_apart names i no_name c.loop-name-test.true c.requires.may.rising) (c.requires.may.live i no_name c.loop-name-test.true)

pub loop-name-preserved : goal.loop-name-preserved
unfolding no_name
loop-name-preserved g c =
    let start = g.H.Host.standing c.args.session.now in
    let new = g.H.Host.standing c.let_go.new.session in
    let names = c.args.names.now in
    let i = c.loop-name.name-index in
    record {
      own = c.let_go.ensures.own;
      gone = subst (LetsAllGo start new) (sym (take_more names i no_name c.loop-name-test.true))
          (goes_more start (g.H.Host.standing c.loop-name.session) new (take i names) (get_or names i no_name) c.loop-name.invariant.gone c.let_go.ensures.gone);
    }

pub returns-clause-gone : goal.returns-clause-gone
returns-clause-gone g c =
    let names = c.args.names.now in
    let end : c.loop-name.name-index ≡ length names = omega (arith, c.loop-name.auto.name-index-end, c.loop-name-test.false) in
    subst (LetsAllGo (g.H.Host.standing c.args.session.now) (g.H.Host.standing c.loop-name.session)) (ap (λ i. take i names) end ∙ take-length names) c.loop-name.invariant.gone
