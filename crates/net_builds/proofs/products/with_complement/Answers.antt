use Rattle.std.proofs.Common.{ℕ, Bool, arith}
use Rattle.function_laws.specs.Values.{conjunction, negation}
use Rattle.net_builds.specs.Standings.{Holds, Makes}
use Rattle.net_builds.proofs.BackLemmas.{comes_dropped, ok_weaker}
use Rattle.net_builds.proofs.StandingLemmas.{holds_live, kept_holds, kept_live, makes_over}
use Rattle.net_builds.proofs.products.with_complement.Goals as goal

pub let_go-requires-clause-may : goal.let_go-requires-clause-may
let_go-requires-clause-may g c =
    let made = c.conjunction-made.ensures.back in
    record { own = made.own; room = omega (arith, c.requires.may.room, c.in_ok-factor.ensures.back.few, made.few) }

pub let_go-requires-clause-held : goal.let_go-requires-clause-held
let_go-requires-clause-held g c =
    let mid = g.H.Host.standing c.complement.new.session in
    let late = g.H.Host.standing c.conjunction-made.new.session in
    let f = c.requires.row.0 in
    let one = c.in_ok-factor.ensures.made f c.requires.row.1 in
    let made = c.conjunction-made.ensures.back in
    kept_live mid late c.in_ok-factor.factor made.works.more made.kept (holds_live mid c.in_ok-factor.factor (negation f) one.holds)

pub returns-clause-made : goal.returns-clause-made
returns-clause-made g c =
    let old = g.H.Host.standing c.args.session.now in
    let mid = g.H.Host.standing c.complement.new.session in
    let late = g.H.Host.standing c.conjunction-made.new.session in
    let new = g.H.Host.standing c.let_go.new.session in
    let factor = c.in_ok-factor.factor in
    let product = c.args.product in
    ok_weaker (λ name. (a b : ℕ → Bool) → Holds mid factor a → Holds mid product b → Makes mid late name (conjunction a b))
    (λ name. (f p : ℕ → Bool) → Holds old c.args.row f → Holds old product p → Makes old new name (conjunction (negation f) p))
    (λ name made f p row holds.
    let one = c.in_ok-factor.ensures.made f row in
    let two = made (negation f) p one.holds (kept_holds old mid factor product (negation f) p one holds) in
    makes_over old mid late new factor name (negation f) (conjunction (negation f) p) one two c.let_go.ensures.gone)
    c.conjunction-made.result c.conjunction-made.ensures.made

pub returns-clause-back : goal.returns-clause-back
returns-clause-back g c =
    let first = c.in_ok-factor.ensures.back in
    comes_dropped g.H.Host.has g.H.Host.standing g.H.Host.tells c.args.host.now c.args.session.now c.complement.new.session c.conjunction-made.new.session c.let_go.new.session
    c.conjunction-made.result c.in_ok-factor.factor first.works first.kept first.few (c.in_ok-factor.ensures.made c.requires.row.0 c.requires.row.1).newer
    c.conjunction-made.ensures.back c.let_go.ensures.own c.let_go.ensures.gone
