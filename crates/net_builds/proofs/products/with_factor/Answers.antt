use Rattle.std.proofs.Common.{ℕ, Bool, IfOk, subst, sym}
use Rattle.cover_nets.specs.declared.net.Literal.{Literal}
use Rattle.net_builds.specs.Products.{with_fit}
use Rattle.net_builds.specs.Standings.{Holds, Makes}
use Rattle.net_builds.proofs.products.with_factor.Goals as goal

pub returns-in-Zero-clause-made : goal.returns-in-Zero-clause-made
returns-in-Zero-clause-made g c =
    let old = g.H.Host.standing c.args.session.now in
    let new = g.H.Host.standing c.with_complement.new.session in
    subst (λ (literal : Literal). IfOk c.with_complement.result (λ name. (f p : ℕ → Bool) → Holds old c.args.row f → Holds old c.args.product p → Makes old new name (with_fit literal f p)))
    (sym c.in-Zero.is) c.with_complement.ensures.made

pub returns-in-One-clause-made : goal.returns-in-One-clause-made
returns-in-One-clause-made g c =
    let old = g.H.Host.standing c.args.session.now in
    let new = g.H.Host.standing c.conjunction.new.session in
    subst (λ (literal : Literal). IfOk c.conjunction.result (λ name. (f p : ℕ → Bool) → Holds old c.args.row f → Holds old c.args.product p → Makes old new name (with_fit literal f p)))
    (sym c.in-One.is) c.conjunction.ensures.made
