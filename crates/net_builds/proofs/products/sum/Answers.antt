use Rattle.std.proofs.Common.{◌≡◌, ◌∙◌, ℕ, Bool, false, List, Option, Some, ap, arith, length, refl, subst, sym, take}
use Rattle.std.proofs.Math.Seq.{take-length}
use Rattle.cover_nets.specs.declared.net.Cube.{Cube}
use Rattle.function_laws.specs.declared.history.Name.{Name}
use Rattle.function_laws.specs.Values.{conjunction, constant}
use Rattle.std.proofs.lemmas.Result.{err_from_is_err_and}
use Rattle.net_builds.specs.declared.factors.Factor.{Factor}
use Rattle.net_builds.specs.declared.factors.Factor.TheVariants.{Given, Made}
use Rattle.net_builds.specs.Factors.{GivesIf, IsHeldIf}
use Rattle.net_builds.specs.Products.{match_any}
use Rattle.net_builds.specs.Signals.{HaveValues}
use Rattle.net_builds.specs.Standings.{Holds, Makes, Standing}
use Rattle.net_builds.proofs.BackLemmas.{ok_weaker}
use Rattle.net_builds.proofs.FactorLemmas.{back_err, comes_behind, comes_given, given_have, given_held, given_over, given_rows, gives_holds, taken_own, twice}
use Rattle.net_builds.proofs.ProductLemmas.{sum_step}
use Rattle.net_builds.proofs.RowLemmas.{some_values}
use Rattle.net_builds.proofs.StandingLemmas.{makes_same}
use Rattle.net_builds.proofs.products.sum.Goals as goal

pub loop-cube-init : goal.loop-cube-init
loop-cube-init g c = record { own = c.requires.may.own; up = λ values have. (refl, λ k. refl) }

pub with_product-requires-clause-may : goal.with_product-requires-clause-may
with_product-requires-clause-may g c =
    let some = some_values (g.H.Host.standing c.args.session.now) c.args.rows.now c.args.ins.now c.requires.rows in
    let few = given_rows false _ _ c.loop-cube.sum (match_any some.0 c.args.ins.now (take c.loop-cube.cube-index c.args.cubes.now)) (c.loop-cube.invariant.up some.0 some.1) in
    record { own = c.loop-cube.invariant.own; room = omega (arith, c.requires.may.room, few) }

pub with_product-requires-clause-rows : goal.with_product-requires-clause-rows
with_product-requires-clause-rows g c =
    let some = some_values (g.H.Host.standing c.args.session.now) c.args.rows.now c.args.ins.now c.requires.rows in
    given_have false _ _ c.loop-cube.sum (match_any some.0 c.args.ins.now (take c.loop-cube.cube-index c.args.cubes.now)) c.args.rows.now c.args.ins.now (c.loop-cube.invariant.up some.0 some.1) c.requires.rows

pub with_product-requires-clause-sum : goal.with_product-requires-clause-sum
with_product-requires-clause-sum g c =
    let some = some_values (g.H.Host.standing c.args.session.now) c.args.rows.now c.args.ins.now c.requires.rows in
    given_held false _ _ c.loop-cube.sum (match_any some.0 c.args.ins.now (take c.loop-cube.cube-index c.args.cubes.now)) (c.loop-cube.invariant.up some.0 some.1)

pub loop-cube-preserved : goal.loop-cube-preserved
loop-cube-preserved g c =
    let i = c.loop-cube.cube-index in
    record {
      own = taken_own g.H.Host.has g.H.Host.standing g.H.Host.tells c.args.host.now c.loop-cube.session c.with_product.new.session c.loop-cube.sum _ c.in_ok-next.ensures.over;
      up = λ values have.
          sum_step _ _ _ c.args.rows.now c.args.ins.now c.args.cubes.now values i c.loop-cube.sum c.in_ok-next.next c.cube-item.result
          c.loop-cube-test.true (sym c.cube-item.is) c.in_ok-next.ensures.made have (c.loop-cube.invariant.up values have);
    }

pub returns-in_err-next-clause-back : goal.returns-in_err-next-clause-back
returns-in_err-next-clause-back g c =
    let some = some_values (g.H.Host.standing c.args.session.now) c.args.rows.now c.args.ins.now c.requires.rows in
    let p = err_from_is_err_and c.from_residual.result c.from_residual.ensures.1 in
    rw (p.1, p.2) (back_err g.H.Host.has g.H.Host.standing g.H.Host.tells c.args.host.now Factor Name c.args.session.now c.with_product.new.session c.in_err-next.field-0.0
    (given_over g.H.Host.has g.H.Host.standing g.H.Host.tells c.args.host.now false c.args.session.now c.loop-cube.session c.with_product.new.session c.loop-cube.sum
    (match_any some.0 c.args.ins.now (take c.loop-cube.cube-index c.args.cubes.now)) c.in_err-next.field-0.0 (c.loop-cube.invariant.up some.0 some.1) c.in_err-next.ensures.over))

-- the sum of all rows
all_added : {S : Type 0} (standing : S → Standing) (start now : S) (rows : List (Option Name)) (ins : List ℕ) (cubes : List Cube) (i : ℕ) (sum other : Option Factor) → i ≡ length cubes → sum ≡ other
    → ((values : ℕ → ℕ → Bool) → HaveValues (standing start) rows values ins → GivesIf false (standing start) (standing now) sum (match_any values ins (take i cubes)))
    → (values : ℕ → ℕ → Bool) → HaveValues (standing start) rows values ins → GivesIf false (standing start) (standing now) other (match_any values ins cubes)
all_added standing start now rows ins cubes i sum other end is up values have =
    subst (λ (row : Option Factor). GivesIf false (standing start) (standing now) row (match_any values ins cubes)) is
    (subst (λ (all : List Cube). GivesIf false (standing start) (standing now) sum (match_any values ins all)) (ap (λ n. take n cubes) end ∙ take-length cubes) (up values have))

pub returns-in-Made-clause-made : goal.returns-in-Made-clause-made
returns-in-Made-clause-made g c =
    all_added g.H.Host.standing c.args.session.now c.loop-cube.session c.args.rows.now c.args.ins.now c.args.cubes.now c.loop-cube.cube-index c.loop-cube.sum _
    (omega (arith, c.loop-cube.auto.cube-index-end, c.loop-cube-test.false)) (c.in-Some.is ∙ ap Some c.in-Made.is) c.loop-cube.invariant.up

pub returns-in-Made-clause-back : goal.returns-in-Made-clause-back
returns-in-Made-clause-back g c =
    let some = some_values (g.H.Host.standing c.args.session.now) c.args.rows.now c.args.ins.now c.requires.rows in
    let added = all_added g.H.Host.standing c.args.session.now c.loop-cube.session c.args.rows.now c.args.ins.now c.args.cubes.now c.loop-cube.cube-index c.loop-cube.sum _
    (omega (arith, c.loop-cube.auto.cube-index-end, c.loop-cube-test.false)) (c.in-Some.is ∙ ap Some c.in-Made.is) c.loop-cube.invariant.up in
    comes_given g.H.Host.has g.H.Host.standing g.H.Host.tells c.args.host.now c.args.session.now c.loop-cube.session (Made c.in-Made.name) (match_any some.0 c.args.ins.now c.args.cubes.now) c.in-Made.name
    c.loop-cube.invariant.own (added some.0 some.1)

pub conjunction-requires-clause-may : goal.conjunction-requires-clause-may
conjunction-requires-clause-may g c =
    let some = some_values (g.H.Host.standing c.args.session.now) c.args.rows.now c.args.ins.now c.requires.rows in
    let few = given_rows false _ _ c.loop-cube.sum (match_any some.0 c.args.ins.now (take c.loop-cube.cube-index c.args.cubes.now)) (c.loop-cube.invariant.up some.0 some.1) in
    record { own = c.loop-cube.invariant.own; room = omega (arith, c.requires.may.room, few) }

pub conjunction-requires-clause-first : goal.conjunction-requires-clause-first
conjunction-requires-clause-first g c =
    let some = some_values (g.H.Host.standing c.args.session.now) c.args.rows.now c.args.ins.now c.requires.rows in
    let f = match_any some.0 c.args.ins.now (take c.loop-cube.cube-index c.args.cubes.now) in
    subst (λ (row : Option Factor). IsHeldIf (g.H.Host.standing c.loop-cube.session) row) (c.in-Some.is ∙ ap Some c.in-Given.is) (given_held false _ _ c.loop-cube.sum f (c.loop-cube.invariant.up some.0 some.1))

pub conjunction-requires-clause-second : goal.conjunction-requires-clause-second
conjunction-requires-clause-second g c =
    let some = some_values (g.H.Host.standing c.args.session.now) c.args.rows.now c.args.ins.now c.requires.rows in
    let f = match_any some.0 c.args.ins.now (take c.loop-cube.cube-index c.args.cubes.now) in
    subst (λ (row : Option Factor). IsHeldIf (g.H.Host.standing c.loop-cube.session) row) (c.in-Some.is ∙ ap Some c.in-Given.is) (given_held false _ _ c.loop-cube.sum f (c.loop-cube.invariant.up some.0 some.1))

pub returns-in-Given-clause-made : goal.returns-in-Given-clause-made
returns-in-Given-clause-made g c =
    let start = g.H.Host.standing c.args.session.now in
    let now = g.H.Host.standing c.loop-cube.session in
    let new = g.H.Host.standing c.conjunction.new.session in
    let given = c.in-Given.name in
    let added = all_added g.H.Host.standing c.args.session.now c.loop-cube.session c.args.rows.now c.args.ins.now c.args.cubes.now c.loop-cube.cube-index c.loop-cube.sum _
    (omega (arith, c.loop-cube.auto.cube-index-end, c.loop-cube-test.false)) (c.in-Some.is ∙ ap Some c.in-Given.is) c.loop-cube.invariant.up in
    ok_weaker (λ name. (a b : ℕ → Bool) → Holds now given a → Holds now given b → Makes now new name (conjunction a b))
    (λ name. (values : ℕ → ℕ → Bool) → HaveValues start c.args.rows.now values c.args.ins.now → Makes start new name (match_any values c.args.ins.now c.args.cubes.now))
    (λ name made values have.
    let f = match_any values c.args.ins.now c.args.cubes.now in
    let gives = added values have in
    let holds = gives_holds start now (Given given) f gives in
    subst (λ (s : Standing). Makes s new name f) gives.0 (makes_same now new name (conjunction f f) f (made f f holds holds) (λ k. twice (f k))))
    c.conjunction.result c.conjunction.ensures.made

pub returns-in-Given-clause-back : goal.returns-in-Given-clause-back
returns-in-Given-clause-back g c =
    let some = some_values (g.H.Host.standing c.args.session.now) c.args.rows.now c.args.ins.now c.requires.rows in
    let added = all_added g.H.Host.standing c.args.session.now c.loop-cube.session c.args.rows.now c.args.ins.now c.args.cubes.now c.loop-cube.cube-index c.loop-cube.sum _
    (omega (arith, c.loop-cube.auto.cube-index-end, c.loop-cube-test.false)) (c.in-Some.is ∙ ap Some c.in-Given.is) c.loop-cube.invariant.up in
    comes_behind g.H.Host.has g.H.Host.standing g.H.Host.tells c.args.host.now c.args.session.now c.loop-cube.session c.conjunction.new.session c.conjunction.result (added some.0 some.1).0 c.conjunction.ensures.back

pub constant-requires : goal.constant-requires
constant-requires g c =
    let some = some_values (g.H.Host.standing c.args.session.now) c.args.rows.now c.args.ins.now c.requires.rows in
    let few = given_rows false _ _ c.loop-cube.sum (match_any some.0 c.args.ins.now (take c.loop-cube.cube-index c.args.cubes.now)) (c.loop-cube.invariant.up some.0 some.1) in
    record { may = record { own = c.loop-cube.invariant.own; room = omega (arith, c.requires.may.room, few) } }

pub returns-in-None-clause-made : goal.returns-in-None-clause-made
returns-in-None-clause-made g c =
    let start = g.H.Host.standing c.args.session.now in
    let now = g.H.Host.standing c.loop-cube.session in
    let new = g.H.Host.standing c.constant.new.session in
    let added = all_added g.H.Host.standing c.args.session.now c.loop-cube.session c.args.rows.now c.args.ins.now c.args.cubes.now c.loop-cube.cube-index c.loop-cube.sum _
    (omega (arith, c.loop-cube.auto.cube-index-end, c.loop-cube-test.false)) c.in-None.is c.loop-cube.invariant.up in
    ok_weaker (λ name. Makes now new name (constant false))
    (λ name. (values : ℕ → ℕ → Bool) → HaveValues start c.args.rows.now values c.args.ins.now → Makes start new name (match_any values c.args.ins.now c.args.cubes.now))
    (λ name made values have.
    let f = match_any values c.args.ins.now c.args.cubes.now in
    let gives = added values have in
    subst (λ (s : Standing). Makes s new name f) gives.0 (makes_same now new name (constant false) f made (λ k. sym (gives.1 k))))
    c.constant.result c.constant.ensures.made

pub returns-in-None-clause-back : goal.returns-in-None-clause-back
returns-in-None-clause-back g c =
    let some = some_values (g.H.Host.standing c.args.session.now) c.args.rows.now c.args.ins.now c.requires.rows in
    let added = all_added g.H.Host.standing c.args.session.now c.loop-cube.session c.args.rows.now c.args.ins.now c.args.cubes.now c.loop-cube.cube-index c.loop-cube.sum _
    (omega (arith, c.loop-cube.auto.cube-index-end, c.loop-cube-test.false)) c.in-None.is c.loop-cube.invariant.up in
    comes_behind g.H.Host.has g.H.Host.standing g.H.Host.tells c.args.host.now c.args.session.now c.loop-cube.session c.constant.new.session c.constant.result (added some.0 some.1).0 c.constant.ensures.back
