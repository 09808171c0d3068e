use Rattle.std.proofs.Common.{Option, subst, sym}
use Rattle.function_laws.specs.declared.history.Name.{Name}
use Rattle.net_builds.specs.declared.factors.Factor.{Factor}
use Rattle.net_builds.specs.Products.{with_fit}
use Rattle.net_builds.specs.Standings.{Holds}
use Rattle.net_builds.proofs.FactorLemmas.{in_place, takes_up, up_err, up_ok}
use Rattle.net_builds.proofs.products.next_factor.Goals as goal

pub returns-in-Ok-clause-made : goal.returns-in-Ok-clause-made
returns-in-Ok-clause-made g c = λ f p row holds.
    let old = g.H.Host.standing c.args.session.now in
    let made = c.in-Ok.ensures.made f p row (subst (λ (name : Name). Holds old name p) (sym c.name.ensures) holds) in
    in_place old (g.H.Host.standing c.with_factor-made.new.session) (g.H.Host.standing c.let_go_made.new.session) c.args.product c.in-Ok.name p (with_fit c.args.literal f p) holds made c.let_go_made.ensures.let_go

pub returns-in-Ok-clause-over : goal.returns-in-Ok-clause-over
returns-in-Ok-clause-over g c =
    up_ok g.H.Host.has g.H.Host.standing g.H.Host.tells c.args.host.now c.args.session.now c.let_go_made.new.session c.args.product c.in-Ok.name _
    (takes_up g.H.Host.has g.H.Host.standing g.H.Host.tells c.args.host.now c.args.session.now c.with_factor-made.new.session c.let_go_made.new.session c.args.product _
    c.in-Ok.ensures.back c.let_go_made.ensures.own c.let_go_made.ensures.let_go)

pub returns-in-Err-clause-over : goal.returns-in-Err-clause-over
returns-in-Err-clause-over g c =
    up_err g.H.Host.has g.H.Host.standing g.H.Host.tells c.args.host.now Name (Option Factor) c.args.session.now c.let_go_made.new.session c.args.product c.in-Err.stop
    (takes_up g.H.Host.has g.H.Host.standing g.H.Host.tells c.args.host.now c.args.session.now c.with_factor-made.new.session c.let_go_made.new.session c.args.product _
    c.in-Err.ensures.back c.let_go_made.ensures.own c.let_go_made.ensures.let_go)
