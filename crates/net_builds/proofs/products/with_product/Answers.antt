use Rattle.std.proofs.Common.{◌≡◌, ℕ, Bool, false, IfOk, List, Option, Some, subst, sym}
use Rattle.cover_nets.specs.declared.net.Literal.{Literal}
use Rattle.function_laws.specs.Values.{disjunction}
use Rattle.net_builds.specs.declared.factors.Factor.{Factor}
use Rattle.net_builds.specs.Factors.{Gives, GivesForIf, HoldsIf, IsHeldIf, TakesUpIf}
use Rattle.net_builds.specs.Products.{match_at}
use Rattle.net_builds.specs.Signals.{HaveValues}
use Rattle.net_builds.proofs.BackLemmas.{ok_weaker}
use Rattle.net_builds.proofs.FactorLemmas.{first_plus}
use Rattle.net_builds.proofs.products.with_product.Goals as goal

pub next_term-requires-clause-sum : goal.next_term-requires-clause-sum
next_term-requires-clause-sum g c = subst (λ (row : Option Factor). IsHeldIf (g.H.Host.standing c.args.session.now) row) c.in-Some.is c.requires.sum

pub returns-in-None-clause-made : goal.returns-in-None-clause-made
returns-in-None-clause-made g c =
    let old = g.H.Host.standing c.args.session.now in
    let new = g.H.Host.standing c.product.new.session in
    let rows = c.args.rows.now in
    let ins = c.args.ins.now in
    let literals : List Literal = c.as_slice.result.now in
    subst (λ (sum : Option Factor). IfOk c.product.result (λ next. (values : ℕ → ℕ → Bool) (f : ℕ → Bool) → HaveValues old rows values ins → HoldsIf false old sum f
    → GivesForIf false old new sum (Some next) (disjunction f (match_at values ins c.args.cube.now.literals)))) (sym c.in-None.is)
    (subst (λ (ls : List Literal). IfOk c.product.result (λ next. (values : ℕ → ℕ → Bool) (f : ℕ → Bool) → HaveValues old rows values ins → ((k : ℕ) → f k ≡ false)
    → Gives old new next (disjunction f (match_at values ins ls)))) c.as_slice.ensures
    (ok_weaker (λ (next : Factor). (values : ℕ → ℕ → Bool) → HaveValues old rows values ins → Gives old new next (match_at values ins literals))
    (λ (next : Factor). (values : ℕ → ℕ → Bool) (f : ℕ → Bool) → HaveValues old rows values ins → ((k : ℕ) → f k ≡ false) → Gives old new next (disjunction f (match_at values ins literals)))
    (λ next made values f have none. first_plus old new next f (match_at values ins literals) (made values have) none) c.product.result c.product.ensures.made))

pub returns-in-None-clause-over : goal.returns-in-None-clause-over
returns-in-None-clause-over g c =
    subst (λ (sum : Option Factor). TakesUpIf g.H.Host.has g.H.Host.standing g.H.Host.tells c.args.host.now c.args.session.now c.product.new.session sum c.product.result)
    (sym c.in-None.is) c.product.ensures.back

pub returns-in-Some-clause-made : goal.returns-in-Some-clause-made
returns-in-Some-clause-made g c =
    let old = g.H.Host.standing c.args.session.now in
    let new = g.H.Host.standing c.next_term.new.session in
    subst (λ (sum : Option Factor). IfOk c.next_term.result (λ next. (values : ℕ → ℕ → Bool) (f : ℕ → Bool) → HaveValues old c.args.rows.now values c.args.ins.now → HoldsIf false old sum f
    → GivesForIf false old new sum (Some next) (disjunction f (match_at values c.args.ins.now c.args.cube.now.literals)))) (sym c.in-Some.is) c.next_term.ensures.made

pub returns-in-Some-clause-over : goal.returns-in-Some-clause-over
returns-in-Some-clause-over g c =
    subst (λ (sum : Option Factor). TakesUpIf g.H.Host.has g.H.Host.standing g.H.Host.tells c.args.host.now c.args.session.now c.next_term.new.session sum c.next_term.result)
    (sym c.in-Some.is) c.next_term.ensures.over
