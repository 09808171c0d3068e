use Rattle.std.proofs.Common.{ℕ, Bool, arith}
use Rattle.cover_nets.specs.Networks.{cover_value}
use Rattle.function_laws.specs.Values.{negation}
use Rattle.net_builds.specs.Products.{match_any}
use Rattle.net_builds.specs.Signals.{HaveValues}
use Rattle.net_builds.specs.Standings.{Holds, Makes}
use Rattle.net_builds.proofs.BackLemmas.{comes_dropped, ok_weaker}
use Rattle.net_builds.proofs.ProductLemmas.{cover_off, cover_on, cover_sum}
use Rattle.net_builds.proofs.RowLemmas.{some_values}
use Rattle.net_builds.proofs.StandingLemmas.{holds_live, kept_live, makes_over}
use Rattle.net_builds.proofs.products.cover.Goals as goal

pub returns-then-gate-clause-made : goal.returns-then-gate-clause-made
returns-then-gate-clause-made g c = λ values have.
    let made = cover_sum _ _ c.args.rows.now c.in_ok-sum.sum c.args.gate.now c.as_slice.result.now c.as_slice-2.result.now c.as_slice.ensures c.as_slice-2.ensures c.in_ok-sum.ensures.made in
    cover_on _ _ c.in_ok-sum.sum c.args.gate.now values c.if-gate.true (made values have)

pub complement-made-requires-clause-may : goal.complement-made-requires-clause-may
complement-made-requires-clause-may g c =
    let first = c.in_ok-sum.ensures.back in
    record { own = first.own; room = omega (arith, c.requires.may.room, first.few) }

pub complement-made-requires-clause-held : goal.complement-made-requires-clause-held
complement-made-requires-clause-held g c =
    let made = cover_sum _ _ c.args.rows.now c.in_ok-sum.sum c.args.gate.now c.as_slice.result.now c.as_slice-2.result.now c.as_slice.ensures c.as_slice-2.ensures c.in_ok-sum.ensures.made in
    let some = some_values (g.H.Host.standing c.args.session.now) c.args.rows.now c.args.gate.now.ins c.requires.rows in
    (match_any some.0 c.args.gate.now.ins c.args.gate.now.rows, (made some.0 some.1).holds)

pub let_go-requires-clause-may : goal.let_go-requires-clause-may
let_go-requires-clause-may g c =
    let made = c.complement-made.ensures.back in
    record { own = made.own; room = omega (arith, c.requires.may.room, c.in_ok-sum.ensures.back.few, made.few) }

pub let_go-requires-clause-held : goal.let_go-requires-clause-held
let_go-requires-clause-held g c =
    let mid = g.H.Host.standing c.sum.new.session in
    let made = cover_sum _ _ c.args.rows.now c.in_ok-sum.sum c.args.gate.now c.as_slice.result.now c.as_slice-2.result.now c.as_slice.ensures c.as_slice-2.ensures c.in_ok-sum.ensures.made in
    let some = some_values (g.H.Host.standing c.args.session.now) c.args.rows.now c.args.gate.now.ins c.requires.rows in
    let back = c.complement-made.ensures.back in
    kept_live mid (g.H.Host.standing c.complement-made.new.session) c.in_ok-sum.sum back.works.more back.kept
    (holds_live mid c.in_ok-sum.sum (match_any some.0 c.args.gate.now.ins c.args.gate.now.rows) (made some.0 some.1).holds)

pub returns-clause-made : goal.returns-clause-made
returns-clause-made g c =
    let old = g.H.Host.standing c.args.session.now in
    let mid = g.H.Host.standing c.sum.new.session in
    let late = g.H.Host.standing c.complement-made.new.session in
    let new = g.H.Host.standing c.let_go.new.session in
    let gate = c.args.gate.now in
    let sum = c.in_ok-sum.sum in
    let summed = cover_sum old mid c.args.rows.now sum gate c.as_slice.result.now c.as_slice-2.result.now c.as_slice.ensures c.as_slice-2.ensures c.in_ok-sum.ensures.made in
    ok_weaker (λ name. (a : ℕ → Bool) → Holds mid sum a → Makes mid late name (negation a))
    (λ name. (values : ℕ → ℕ → Bool) → HaveValues old c.args.rows.now values gate.ins → Makes old new name (λ k. cover_value gate (λ signal. values signal k)))
    (λ name made values have.
    let f = match_any values gate.ins gate.rows in
    let one = summed values have in
    cover_off old new name gate values c.if-gate.false (makes_over old mid late new sum name f (negation f) one (made f one.holds) c.let_go.ensures.gone))
    c.complement-made.result c.complement-made.ensures.made

pub returns-clause-back : goal.returns-clause-back
returns-clause-back g c =
    let first = c.in_ok-sum.ensures.back in
    let made = cover_sum _ _ c.args.rows.now c.in_ok-sum.sum c.args.gate.now c.as_slice.result.now c.as_slice-2.result.now c.as_slice.ensures c.as_slice-2.ensures c.in_ok-sum.ensures.made in
    let some = some_values (g.H.Host.standing c.args.session.now) c.args.rows.now c.args.gate.now.ins c.requires.rows in
    comes_dropped g.H.Host.has g.H.Host.standing g.H.Host.tells c.args.host.now c.args.session.now c.sum.new.session c.complement-made.new.session c.let_go.new.session
    c.complement-made.result c.in_ok-sum.sum first.works first.kept first.few (made some.0 some.1).newer c.complement-made.ensures.back c.let_go.ensures.own c.let_go.ensures.gone
