use Rattle.std.proofs.Common.{◌≡◌, ◌-◌, true, Option, arith, drop, get_or, refl, subst, sym}
use Rattle.function_laws.specs.Values.{constant}
use Rattle.std.proofs.lemmas.Result.{err_from_is_err_and}
use Rattle.net_builds.specs.declared.factors.Factor.{Factor}
use Rattle.function_laws.specs.declared.history.Name.{Name}
use Rattle.net_builds.specs.Factors.{GivesIf}
use Rattle.net_builds.specs.Products.{match_at}
use Rattle.net_builds.specs.Standings.{Makes, Standing}
use Rattle.net_builds.proofs.FactorLemmas.{back_err, back_ok, comes_behind, comes_given, given_held, given_kept, given_over, given_rows, taken_own}
use Rattle.net_builds.proofs.ProductLemmas.{matches_end, product_step}
use Rattle.net_builds.proofs.RowLemmas.{row_holds, some_values}
use Rattle.net_builds.proofs.StandingLemmas.{makes_same}
use Rattle.net_builds.proofs.products.product.Goals as goal

pub loop-at-init : goal.loop-at-init
loop-at-init g c = record {
  asked = omega (arith, c.min-at.ensures);
  read = omega (arith, c.min-at.ensures);
  own = c.requires.may.own;
  up = λ values have. (refl, λ k. matches_end (λ s. values s k) c.min-at.result c.args.literals.now c.args.ins.now (λ a b. omega (arith, a, b, c.min-at.ensures)));
}

pub row_of-row-requires : goal.row_of-row-requires
row_of-row-requires g c =
    let has = c.requires.rows (c.loop-at.at - 1) 0 (omega (arith, c.loop-at.invariant.read, c.loop-at-test.true)) in
    record { row = (has.0, has.1) }

pub with_literal-requires-clause-may : goal.with_literal-requires-clause-may
with_literal-requires-clause-may g c =
    let some = some_values (g.H.Host.standing c.args.session.now) c.args.rows.now c.args.ins.now c.requires.rows in
    let few = given_rows true _ _ c.loop-at.product (match_at some.0 (drop c.loop-at.at c.args.ins.now) (drop c.loop-at.at c.args.literals.now)) (c.loop-at.invariant.up some.0 some.1) in
    record { own = c.loop-at.invariant.own; room = omega (arith, c.requires.may.room, few) }

pub with_literal-requires-clause-row : goal.with_literal-requires-clause-row
with_literal-requires-clause-row g c =
    let some = some_values (g.H.Host.standing c.args.session.now) c.args.rows.now c.args.ins.now c.requires.rows in
    let before = c.loop-at.at - 1 in
    let f = some.0 (get_or c.args.ins.now before 0) in (
      f,
      given_kept true _ _ c.loop-at.product c.row_of-row.result (match_at some.0 (drop c.loop-at.at c.args.ins.now) (drop c.loop-at.at c.args.literals.now)) f (c.loop-at.invariant.up some.0 some.1)
          (row_holds _ c.args.rows.now c.args.ins.now some.0 before c.row_of-row.result some.1 (omega (arith, c.loop-at.invariant.read, c.loop-at-test.true)) c.row_of-row.ensures),
    )

pub with_literal-requires-clause-product : goal.with_literal-requires-clause-product
with_literal-requires-clause-product g c =
    let some = some_values (g.H.Host.standing c.args.session.now) c.args.rows.now c.args.ins.now c.requires.rows in
    given_held true _ _ c.loop-at.product (match_at some.0 (drop c.loop-at.at c.args.ins.now) (drop c.loop-at.at c.args.literals.now)) (c.loop-at.invariant.up some.0 some.1)

pub loop-at-preserved : goal.loop-at-preserved
loop-at-preserved g c =
    let before = c.loop-at.at - 1 in
    record {
      asked = omega (arith, c.loop-at.invariant.asked);
      read = omega (arith, c.loop-at.invariant.read);
      own = taken_own g.H.Host.has g.H.Host.standing g.H.Host.tells c.args.host.now c.loop-at.session c.with_literal.new.session c.loop-at.product _ c.in_ok-product.ensures.over;
      up = λ values have.
          product_step _ _ _ c.args.rows.now c.args.ins.now c.args.literals.now values c.loop-at.at before c.loop-at.product c.in_ok-product.product c.row_of-row.result c.literal_at-literal.result
          (omega (arith, c.loop-at-test.true)) c.literal_at-literal.ensures (omega (arith, c.loop-at.invariant.read, c.loop-at-test.true)) c.row_of-row.ensures
          c.in_ok-product.ensures.made have (c.loop-at.invariant.up values have);
    }

pub returns-in_err-product-clause-back : goal.returns-in_err-product-clause-back
returns-in_err-product-clause-back g c =
    let some = some_values (g.H.Host.standing c.args.session.now) c.args.rows.now c.args.ins.now c.requires.rows in
    let p = err_from_is_err_and c.from_residual.result c.from_residual.ensures.1 in
    rw (p.1, p.2) (back_err g.H.Host.has g.H.Host.standing g.H.Host.tells c.args.host.now (Option Factor) Factor c.args.session.now c.with_literal.new.session c.in_err-product.field-0.0
    (given_over g.H.Host.has g.H.Host.standing g.H.Host.tells c.args.host.now true c.args.session.now c.loop-at.session c.with_literal.new.session c.loop-at.product
    (match_at some.0 (drop c.loop-at.at c.args.ins.now) (drop c.loop-at.at c.args.literals.now)) c.in_err-product.field-0.0 (c.loop-at.invariant.up some.0 some.1) c.in_err-product.ensures.over))

pub returns-in-Some-clause-made : goal.returns-in-Some-clause-made
returns-in-Some-clause-made g c = λ values have.
    let start = g.H.Host.standing c.args.session.now in
    let now = g.H.Host.standing c.loop-at.session in
    let none : c.loop-at.at ≡ 0 = omega (arith, c.loop-at-test.false) in
    let gives = subst (λ at. GivesIf true start now c.loop-at.product (match_at values (drop at c.args.ins.now) (drop at c.args.literals.now))) none (c.loop-at.invariant.up values have) in
    subst (λ (product : Option Factor). GivesIf true start now product (match_at values c.args.ins.now c.args.literals.now)) c.in-Some.is gives

pub returns-in-Some-clause-back : goal.returns-in-Some-clause-back
returns-in-Some-clause-back g c =
    let start = g.H.Host.standing c.args.session.now in
    let now = g.H.Host.standing c.loop-at.session in
    let some = some_values start c.args.rows.now c.args.ins.now c.requires.rows in
    let f = match_at some.0 (drop c.loop-at.at c.args.ins.now) (drop c.loop-at.at c.args.literals.now) in
    comes_given g.H.Host.has g.H.Host.standing g.H.Host.tells c.args.host.now c.args.session.now c.loop-at.session c.in-Some.factor f _ c.loop-at.invariant.own
    (subst (λ (product : Option Factor). GivesIf true start now product f) c.in-Some.is (c.loop-at.invariant.up some.0 some.1))

pub constant-requires : goal.constant-requires
constant-requires g c =
    let some = some_values (g.H.Host.standing c.args.session.now) c.args.rows.now c.args.ins.now c.requires.rows in
    let few = given_rows true _ _ c.loop-at.product (match_at some.0 (drop c.loop-at.at c.args.ins.now) (drop c.loop-at.at c.args.literals.now)) (c.loop-at.invariant.up some.0 some.1) in
    record { may = record { own = c.loop-at.invariant.own; room = omega (arith, c.requires.may.room, few) } }

pub returns-in-Ok-clause-made : goal.returns-in-Ok-clause-made
returns-in-Ok-clause-made g c = λ values have.
    let start = g.H.Host.standing c.args.session.now in
    let now = g.H.Host.standing c.loop-at.session in
    let new = g.H.Host.standing c.constant.new.session in
    let none : c.loop-at.at ≡ 0 = omega (arith, c.loop-at-test.false) in
    let all = match_at values c.args.ins.now c.args.literals.now in
    let gives = subst (λ at. GivesIf true start now c.loop-at.product (match_at values (drop at c.args.ins.now) (drop at c.args.literals.now))) none (c.loop-at.invariant.up values have) in
    let empty = subst (λ (product : Option Factor). GivesIf true start now product all) c.in-None.is gives in
    subst (λ (s : Standing). Makes s new c.in-Ok.name all) empty.0 (makes_same now new c.in-Ok.name (constant true) all c.in-Ok.ensures.made (λ k. sym (empty.1 k)))

pub returns-in-Ok-clause-back : goal.returns-in-Ok-clause-back
returns-in-Ok-clause-back g c =
    let start = g.H.Host.standing c.args.session.now in
    let now = g.H.Host.standing c.loop-at.session in
    let some = some_values start c.args.rows.now c.args.ins.now c.requires.rows in
    let f = match_at some.0 (drop c.loop-at.at c.args.ins.now) (drop c.loop-at.at c.args.literals.now) in
    let empty = subst (λ (product : Option Factor). GivesIf true start now product f) c.in-None.is (c.loop-at.invariant.up some.0 some.1) in
    comes_behind g.H.Host.has g.H.Host.standing g.H.Host.tells c.args.host.now c.args.session.now c.loop-at.session c.constant.new.session _ empty.0
    (back_ok g.H.Host.has g.H.Host.standing g.H.Host.tells c.args.host.now c.loop-at.session c.constant.new.session c.in-Ok.name _ c.in-Ok.ensures.back)

pub returns-in-Err-clause-back : goal.returns-in-Err-clause-back
returns-in-Err-clause-back g c =
    let start = g.H.Host.standing c.args.session.now in
    let now = g.H.Host.standing c.loop-at.session in
    let some = some_values start c.args.rows.now c.args.ins.now c.requires.rows in
    let f = match_at some.0 (drop c.loop-at.at c.args.ins.now) (drop c.loop-at.at c.args.literals.now) in
    let empty = subst (λ (product : Option Factor). GivesIf true start now product f) c.in-None.is (c.loop-at.invariant.up some.0 some.1) in
    comes_behind g.H.Host.has g.H.Host.standing g.H.Host.tells c.args.host.now c.args.session.now c.loop-at.session c.constant.new.session _ empty.0
    (back_err g.H.Host.has g.H.Host.standing g.H.Host.tells c.args.host.now Name Factor c.loop-at.session c.constant.new.session c.in-Err.stop c.in-Err.ensures.back)
