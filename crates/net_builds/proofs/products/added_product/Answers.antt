use Rattle.std.proofs.Common.{ℕ, Bool, IfOk, List, arith, subst, sym}
use Rattle.std.proofs.lemmas.Result.{err_from_is_err_and}
use Rattle.cover_nets.specs.declared.net.Literal.{Literal}
use Rattle.function_laws.specs.declared.history.Name.{Name}
use Rattle.function_laws.specs.Values.{disjunction}
use Rattle.net_builds.specs.declared.factors.Factor.{Factor}
use Rattle.net_builds.specs.Products.{match_at}
use Rattle.net_builds.specs.Signals.{HaveValues}
use Rattle.net_builds.specs.Standings.{Holds, Makes}
use Rattle.net_builds.proofs.BackLemmas.{ok_weaker}
use Rattle.net_builds.proofs.FactorLemmas.{back_err, comes_let, factor_live, gives_holds, gives_kept, let_then}
use Rattle.net_builds.proofs.RowLemmas.{some_values}
use Rattle.net_builds.proofs.products.added_product.Goals as goal

pub returns-in_err-product-clause-back : goal.returns-in_err-product-clause-back
returns-in_err-product-clause-back g c =
    let p = err_from_is_err_and c.from_residual.result c.from_residual.ensures.1 in
    rw (p.1, p.2) (back_err g.H.Host.has g.H.Host.standing g.H.Host.tells c.args.host.now Factor Name c.args.session.now c.product.new.session c.in_err-product.field-0.0 c.in_err-product.ensures.back)

pub disjunction-made-requires-clause-may : goal.disjunction-made-requires-clause-may
disjunction-made-requires-clause-may g c =
    let first = c.in_ok-product.ensures.back in
    record { own = first.own; room = omega (arith, c.requires.may.room, first.few) }

pub disjunction-made-requires-clause-first : goal.disjunction-made-requires-clause-first
disjunction-made-requires-clause-first g c =
    let some = some_values (g.H.Host.standing c.args.session.now) c.args.rows.now c.args.ins.now c.requires.rows in
    let p = match_at some.0 c.args.ins.now c.as_slice.result.now in
    (c.requires.sum.0, gives_kept _ _ c.in_ok-product.product c.args.sum p c.requires.sum.0 (c.in_ok-product.ensures.made some.0 some.1) c.requires.sum.1)

pub disjunction-made-requires-clause-second : goal.disjunction-made-requires-clause-second
disjunction-made-requires-clause-second g c =
    let mid = g.H.Host.standing c.product.new.session in
    let some = some_values (g.H.Host.standing c.args.session.now) c.args.rows.now c.args.ins.now c.requires.rows in
    let p = match_at some.0 c.args.ins.now c.as_slice.result.now in
    (p, subst (λ (name : Name). Holds mid name p) (sym c.name.ensures) (gives_holds _ mid c.in_ok-product.product p (c.in_ok-product.ensures.made some.0 some.1)))

pub let_go_made-requires-clause-may : goal.let_go_made-requires-clause-may
let_go_made-requires-clause-may g c =
    let made = c.disjunction-made.ensures.back in
    record { own = made.own; room = omega (arith, c.requires.may.room, c.in_ok-product.ensures.back.few, made.few) }

pub let_go_made-requires-clause-live : goal.let_go_made-requires-clause-live
let_go_made-requires-clause-live g c =
    let some = some_values (g.H.Host.standing c.args.session.now) c.args.rows.now c.args.ins.now c.requires.rows in
    let p = match_at some.0 c.args.ins.now c.as_slice.result.now in
    let made = c.disjunction-made.ensures.back in
    factor_live (g.H.Host.standing c.args.session.now) (g.H.Host.standing c.product.new.session) (g.H.Host.standing c.disjunction-made.new.session) c.in_ok-product.product p
    (c.in_ok-product.ensures.made some.0 some.1) made.works.more made.kept

pub returns-clause-made : goal.returns-clause-made
returns-clause-made g c =
    let old = g.H.Host.standing c.args.session.now in
    let mid = g.H.Host.standing c.product.new.session in
    let late = g.H.Host.standing c.disjunction-made.new.session in
    let new = g.H.Host.standing c.let_go_made.new.session in
    let rows = c.args.rows.now in
    let ins = c.args.ins.now in
    let sum = c.args.sum in
    let product = c.in_ok-product.product in
    let literals : List Literal = c.as_slice.result.now in
    subst (λ (ls : List Literal). IfOk c.disjunction-made.result
    (λ name. (values : ℕ → ℕ → Bool) (f : ℕ → Bool) → HaveValues old rows values ins → Holds old sum f → Makes old new name (disjunction f (match_at values ins ls)))) c.as_slice.ensures
    (ok_weaker (λ name. (a b : ℕ → Bool) → Holds mid sum a → Holds mid c.name.result b → Makes mid late name (disjunction a b))
    (λ name. (values : ℕ → ℕ → Bool) (f : ℕ → Bool) → HaveValues old rows values ins → Holds old sum f → Makes old new name (disjunction f (match_at values ins literals)))
    (λ name made values f have holds.
    let p = match_at values ins literals in
    let one = c.in_ok-product.ensures.made values have in
    let two = made f p (gives_kept old mid product sum p f one holds) (subst (λ (row : Name). Holds mid row p) (sym c.name.ensures) (gives_holds old mid product p one)) in
    let_then old mid late new product name p (disjunction f p) one two c.let_go_made.ensures.let_go)
    c.disjunction-made.result c.disjunction-made.ensures.made)

pub returns-clause-back : goal.returns-clause-back
returns-clause-back g c =
    let some = some_values (g.H.Host.standing c.args.session.now) c.args.rows.now c.args.ins.now c.requires.rows in
    comes_let g.H.Host.has g.H.Host.standing g.H.Host.tells c.args.host.now c.args.session.now c.product.new.session c.disjunction-made.new.session c.let_go_made.new.session
    c.in_ok-product.product (match_at some.0 c.args.ins.now c.as_slice.result.now) c.disjunction-made.result (c.in_ok-product.ensures.made some.0 some.1)
    c.disjunction-made.ensures.back c.let_go_made.ensures.own c.let_go_made.ensures.let_go
