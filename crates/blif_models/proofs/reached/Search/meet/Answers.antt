use Rattle.std.proofs.Common.{arith, rules, ◌∷◌, [], List, set, subst, sym, true, ℕ}
use Rattle.blif_models.specs.Graphs.{Meets}
use Rattle.blif_models.proofs.Searches.{meets_new}
use Rattle.blif_models.proofs.reached.Search.meet.Goals as goal

pub returns-in_ok-push : goal.returns-in_ok-push
returns-in_ok-push c =
    let met = c.args.self.now.met.items in
    let left = c.args.self.now.left.items in
    subst (λ (xs : List ℕ). Meets met left (c.args.model ∷ []) (set met c.args.model true) xs) (sym c.in_ok-push.ensures.items) (meets_new met left c.args.model (omega (arith, c.requires)) (search (rules, c.index.ensures, c.if-not-index.true)))
