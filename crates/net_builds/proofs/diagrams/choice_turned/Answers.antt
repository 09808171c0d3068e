use Rattle.std.proofs.Common.{ℕ, Bool, arith}
use Rattle.function_laws.specs.declared.history.Name.{Name}
use Rattle.function_laws.specs.Values.{if_then_else, negation}
use Rattle.net_builds.specs.Standings.{Holds, Makes}
use Rattle.net_builds.proofs.BackLemmas.{comes_dropped, ok_weaker}
use Rattle.net_builds.proofs.StandingLemmas.{holds_live, kept_holds, kept_live, makes_over}
use Rattle.net_builds.proofs.diagrams.choice_turned.Goals as goal

pub let_go-requires-clause-may : goal.let_go-requires-clause-may
let_go-requires-clause-may g c =
    let made = c.choice-made.ensures.back in
    record { own = made.own; room = omega (arith, c.requires.may.room, c.in_ok-turned.ensures.back.few, made.few) }

pub let_go-requires-clause-held : goal.let_go-requires-clause-held
let_go-requires-clause-held g c =
    let mid = g.H.Host.standing c.complement.new.session in
    let late = g.H.Host.standing c.choice-made.new.session in
    let f = c.requires.low.0 in
    let one = c.in_ok-turned.ensures.made f c.requires.low.1 in
    let made = c.choice-made.ensures.back in
    kept_live mid late c.in_ok-turned.turned made.works.more made.kept (holds_live mid c.in_ok-turned.turned (negation f) one.holds)

pub returns-clause-made : goal.returns-clause-made
returns-clause-made g c =
    let old = g.H.Host.standing c.args.session.now in
    let mid = g.H.Host.standing c.complement.new.session in
    let late = g.H.Host.standing c.choice-made.new.session in
    let new = g.H.Host.standing c.let_go.new.session in
    let variable = c.args.variable in
    let high = c.args.high in
    let low = c.args.low in
    let turned = c.in_ok-turned.turned in
    ok_weaker (λ (name : Name). (a b d : ℕ → Bool) → Holds mid variable a → Holds mid high b → Holds mid turned d → Makes mid late name (if_then_else a b d))
    (λ (name : Name). (v f h : ℕ → Bool) → Holds old variable v → Holds old high f → Holds old low h → Makes old new name (if_then_else v f (negation h)))
    (λ name made v f h first second third.
    let one = c.in_ok-turned.ensures.made h third in
    let two = made v f (negation h) (kept_holds old mid turned variable (negation h) v one first) (kept_holds old mid turned high (negation h) f one second) one.holds in
    makes_over old mid late new turned name (negation h) (if_then_else v f (negation h)) one two c.let_go.ensures.gone)
    c.choice-made.result c.choice-made.ensures.made

pub returns-clause-back : goal.returns-clause-back
returns-clause-back g c =
    let first = c.in_ok-turned.ensures.back in
    comes_dropped g.H.Host.has g.H.Host.standing g.H.Host.tells c.args.host.now c.args.session.now c.complement.new.session c.choice-made.new.session c.let_go.new.session
    c.choice-made.result c.in_ok-turned.turned first.works first.kept first.few (c.in_ok-turned.ensures.made c.requires.low.0 c.requires.low.1).newer
    c.choice-made.ensures.back c.let_go.ensures.own c.let_go.ensures.gone
