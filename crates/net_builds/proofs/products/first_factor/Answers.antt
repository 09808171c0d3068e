use Rattle.std.proofs.Common.{ℕ, Bool, refl, subst, sym}
use Rattle.cover_nets.specs.declared.net.Literal.{Literal}
use Rattle.net_builds.specs.Products.{fit}
use Rattle.net_builds.specs.Standings.{Holds, Makes}
use Rattle.net_builds.proofs.BackLemmas.{comes_none}
use Rattle.net_builds.proofs.products.first_factor.Goals as goal

pub returns-in-Ok-clause-made : goal.returns-in-Ok-clause-made
returns-in-Ok-clause-made g c =
    let old = g.H.Host.standing c.args.session.now in
    let new = g.H.Host.standing c.complement.new.session in
    subst (λ (literal : Literal). (f : ℕ → Bool) → Holds old c.args.row f → Makes old new c.in-Ok.name (fit literal f)) (sym c.in-Zero.is) c.in-Ok.ensures.made

pub returns-in-One-clause-made : goal.returns-in-One-clause-made
returns-in-One-clause-made g c = λ f holds.
    (refl, subst (λ (literal : Literal). Holds (g.H.Host.standing c.args.session.now) c.args.row (fit literal f)) (sym c.in-One.is) holds)

pub returns-in-One-clause-back : goal.returns-in-One-clause-back
returns-in-One-clause-back g c = comes_none g.H.Host.has g.H.Host.standing g.H.Host.tells c.args.host.now c.args.session.now _ c.requires.may.own
