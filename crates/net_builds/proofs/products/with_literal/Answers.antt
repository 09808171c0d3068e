use Rattle.std.proofs.Common.{◌≡◌, ℕ, Bool, true, IfOk, Option, rules, subst, sym}
use Rattle.cover_nets.specs.declared.net.Literal.TheVariants.{Any}
use Rattle.net_builds.specs.declared.factors.Factor.{Factor}
use Rattle.net_builds.specs.Factors.{GivesForIf, GivesIf, HoldsIf, IsHeldIf, TakesUpIf}
use Rattle.net_builds.specs.Products.{fit, with_fit}
use Rattle.net_builds.specs.Standings.{Holds}
use Rattle.net_builds.proofs.BackLemmas.{ok_weaker}
use Rattle.net_builds.proofs.FactorLemmas.{first_times, stays_given, stays_taken}
use Rattle.net_builds.proofs.products.with_literal.Goals as goal

pub returns-then-eq-clause-made : goal.returns-then-eq-clause-made
returns-then-eq-clause-made g c = λ f p row holds.
    let is : c.args.literal ≡ Any = search rules in
    stays_given (g.H.Host.standing c.args.session.now) c.args.product c.args.literal f p is holds

pub returns-then-eq-clause-over : goal.returns-then-eq-clause-over
returns-then-eq-clause-over g c = stays_taken g.H.Host.has g.H.Host.standing g.H.Host.tells c.args.host.now c.args.session.now c.args.product _ c.requires.may.own

pub next_factor-requires-clause-product : goal.next_factor-requires-clause-product
next_factor-requires-clause-product g c = subst (λ (row : Option Factor). IsHeldIf (g.H.Host.standing c.args.session.now) row) c.in-Some.is c.requires.product

pub returns-in-None-clause-made : goal.returns-in-None-clause-made
returns-in-None-clause-made g c =
    let old = g.H.Host.standing c.args.session.now in
    let new = g.H.Host.standing c.first_factor.new.session in
    let literal = c.args.literal in
    subst (λ (product : Option Factor). IfOk c.first_factor.result (λ next. (f p : ℕ → Bool) → Holds old c.args.row f → HoldsIf true old product p → GivesForIf true old new product next (with_fit literal f p)))
    (sym c.in-None.is)
    (ok_weaker (λ (next : Option Factor). (f : ℕ → Bool) → Holds old c.args.row f → GivesIf true old new next (fit literal f))
    (λ (next : Option Factor). (f p : ℕ → Bool) → Holds old c.args.row f → ((k : ℕ) → p k ≡ true) → GivesIf true old new next (with_fit literal f p))
    (λ next made f p row all. first_times old new next literal f p (made f row) all) c.first_factor.result c.first_factor.ensures.made)

pub returns-in-None-clause-over : goal.returns-in-None-clause-over
returns-in-None-clause-over g c =
    subst (λ (product : Option Factor). TakesUpIf g.H.Host.has g.H.Host.standing g.H.Host.tells c.args.host.now c.args.session.now c.first_factor.new.session product c.first_factor.result)
    (sym c.in-None.is) c.first_factor.ensures.back

pub returns-in-Some-clause-made : goal.returns-in-Some-clause-made
returns-in-Some-clause-made g c =
    let old = g.H.Host.standing c.args.session.now in
    let new = g.H.Host.standing c.next_factor.new.session in
    subst (λ (product : Option Factor). IfOk c.next_factor.result (λ next. (f p : ℕ → Bool) → Holds old c.args.row f → HoldsIf true old product p → GivesForIf true old new product next (with_fit c.args.literal f p)))
    (sym c.in-Some.is) c.next_factor.ensures.made

pub returns-in-Some-clause-over : goal.returns-in-Some-clause-over
returns-in-Some-clause-over g c =
    subst (λ (product : Option Factor). TakesUpIf g.H.Host.has g.H.Host.standing g.H.Host.tells c.args.host.now c.args.session.now c.next_factor.new.session product c.next_factor.result)
    (sym c.in-Some.is) c.next_factor.ensures.over
