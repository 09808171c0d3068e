use Rattle.std.proofs.Common.{ℕ, Bool, arith, subst}
use Rattle.std.specs.Int.{is_negative}
use Rattle.function_laws.specs.declared.history.Name.{Name}
use Rattle.function_laws.specs.Values.{if_then_else, projection}
use Rattle.net_builds.specs.Loads.{turned_if}
use Rattle.net_builds.specs.Standings.{Holds, Makes}
use Rattle.net_builds.proofs.BackLemmas.{comes_dropped, ok_weaker}
use Rattle.net_builds.proofs.StandingLemmas.{holds_live, kept_holds, kept_live, makes_over}
use Rattle.net_builds.proofs.diagrams.line_between.Goals as goal

pub let_go-requires-clause-may : goal.let_go-requires-clause-may
let_go-requires-clause-may g c =
    let made = c.choice_between-made.ensures.back in
    record { own = made.own; room = omega (arith, c.requires.may.room, c.in_ok-variable.ensures.back.few, made.few) }

pub let_go-requires-clause-held : goal.let_go-requires-clause-held
let_go-requires-clause-held g c =
    let mid = g.H.Host.standing c.projection.new.session in
    let late = g.H.Host.standing c.choice_between-made.new.session in
    let made = c.choice_between-made.ensures.back in
    kept_live mid late c.in_ok-variable.variable made.works.more made.kept (holds_live mid c.in_ok-variable.variable (projection c.args.line.now.var) c.in_ok-variable.ensures.made.holds)

pub returns-clause-made : goal.returns-clause-made
returns-clause-made g c =
    let old = g.H.Host.standing c.args.session.now in
    let mid = g.H.Host.standing c.projection.new.session in
    let late = g.H.Host.standing c.choice_between-made.new.session in
    let new = g.H.Host.standing c.let_go.new.session in
    let line = c.args.line.now in
    let variable = c.in_ok-variable.variable in
    let one = c.in_ok-variable.ensures.made in
    ok_weaker (λ (name : Name). (v f h : ℕ → Bool) → Holds mid variable v → Holds mid c.args.high f → Holds mid c.args.low h → Makes mid late name (if_then_else v f (turned_if c.is_complemented.result h)))
    (λ (name : Name). (f h : ℕ → Bool) → Holds old c.args.high f → Holds old c.args.low h → Makes old new name (if_then_else (projection line.var) f (turned_if (is_negative line.lo) h)))
    (λ name made f h first second.
    let v = projection line.var in
    let two = made v f h one.holds (kept_holds old mid variable c.args.high v f one first) (kept_holds old mid variable c.args.low v h one second) in
    subst (λ (b : Bool). Makes old new name (if_then_else v f (turned_if b h))) c.is_complemented.ensures
    (makes_over old mid late new variable name v (if_then_else v f (turned_if c.is_complemented.result h)) one two c.let_go.ensures.gone))
    c.choice_between-made.result c.choice_between-made.ensures.made

pub returns-clause-back : goal.returns-clause-back
returns-clause-back g c =
    let first = c.in_ok-variable.ensures.back in
    comes_dropped g.H.Host.has g.H.Host.standing g.H.Host.tells c.args.host.now c.args.session.now c.projection.new.session c.choice_between-made.new.session c.let_go.new.session
    c.choice_between-made.result c.in_ok-variable.variable first.works first.kept first.few c.in_ok-variable.ensures.made.newer
    c.choice_between-made.ensures.back c.let_go.ensures.own c.let_go.ensures.gone
