use Rattle.std.proofs.Common.{◌==◌, rules, tests, sym, refl, subst}
use Rattle.std.specs.Option.{option_map}
use Rattle.std.proofs.lemmas.Iterator.{YieldsList-from_slice}
use Rattle.std.proofs.lemmas.Iterator.Search.{find_from_yields_List}
use Rattle.quantify_ops.specs.Substituted.{IsImageOr}
use Rattle.quantify_ops.proofs.substitution.Substitution.image.Goals as goal

pub returns-in-Some-clause-image : goal.returns-in-Some-clause-image
returns-in-Some-clause-image g c =
    let w = g.G.Grow.view c.args.store.now in
    subst (λ o. IsImageOr w o c.args.var c.in-Some.pair.now.1)
    (find_from_yields_List (λ pair. pair.0 == c.args.var) _ _ _ c.find.ensures.ran (YieldsList-from_slice c.args.self.now.pairs.now cc) (λ x b q k. search (rules, tests)))
    (subst (λ o. IsImageOr w (option_map (λ pair. pair.now) o) c.args.var c.in-Some.pair.now.1) (sym c.in-Some.is) refl)

pub returns-in-None-clause-image : goal.returns-in-None-clause-image
returns-in-None-clause-image g c =
    let w = g.G.Grow.view c.projection.new.self in
    subst (λ o. IsImageOr w o c.args.var c.projection.result)
    (find_from_yields_List (λ pair. pair.0 == c.args.var) _ _ _ c.find.ensures.ran (YieldsList-from_slice c.args.self.now.pairs.now cc) (λ x b q k. search (rules, tests)))
    (subst (λ o. IsImageOr w (option_map (λ pair. pair.now) o) c.args.var c.projection.result) (sym c.in-None.is) c.projection.ensures.projection.denotes)
