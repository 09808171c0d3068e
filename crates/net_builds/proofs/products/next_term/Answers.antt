use Rattle.std.proofs.Common.{subst, sym}
use Rattle.function_laws.specs.declared.history.Name.{Name}
use Rattle.function_laws.specs.Values.{disjunction}
use Rattle.net_builds.specs.declared.factors.Factor.{Factor}
use Rattle.net_builds.specs.Products.{match_at}
use Rattle.net_builds.specs.Standings.{Holds}
use Rattle.net_builds.proofs.FactorLemmas.{in_place, takes_up, up_err, up_ok}
use Rattle.net_builds.proofs.products.next_term.Goals as goal

pub returns-in-Ok-clause-made : goal.returns-in-Ok-clause-made
returns-in-Ok-clause-made g c = λ values f have holds.
    let old = g.H.Host.standing c.args.session.now in
    let made = c.in-Ok.ensures.made values f have (subst (λ (name : Name). Holds old name f) (sym c.name.ensures) holds) in
    in_place old (g.H.Host.standing c.added_product-made.new.session) (g.H.Host.standing c.let_go_made.new.session) c.args.sum c.in-Ok.name f
    (disjunction f (match_at values c.args.ins.now c.args.cube.now.literals)) holds made c.let_go_made.ensures.let_go

pub returns-in-Ok-clause-over : goal.returns-in-Ok-clause-over
returns-in-Ok-clause-over g c =
    up_ok g.H.Host.has g.H.Host.standing g.H.Host.tells c.args.host.now c.args.session.now c.let_go_made.new.session c.args.sum c.in-Ok.name _
    (takes_up g.H.Host.has g.H.Host.standing g.H.Host.tells c.args.host.now c.args.session.now c.added_product-made.new.session c.let_go_made.new.session c.args.sum _
    c.in-Ok.ensures.back c.let_go_made.ensures.own c.let_go_made.ensures.let_go)

pub returns-in-Err-clause-over : goal.returns-in-Err-clause-over
returns-in-Err-clause-over g c =
    up_err g.H.Host.has g.H.Host.standing g.H.Host.tells c.args.host.now Name Factor c.args.session.now c.let_go_made.new.session c.args.sum c.in-Err.stop
    (takes_up g.H.Host.has g.H.Host.standing g.H.Host.tells c.args.host.now c.args.session.now c.added_product-made.new.session c.let_go_made.new.session c.args.sum _
    c.in-Err.ensures.back c.let_go_made.ensures.own c.let_go_made.ensures.let_go)
