use Rattle.std.proofs.Common.{List, get_or, subst, sym, take, ℕ}
use Rattle.std.proofs.lemmas.List.{take_more}
use Rattle.blif_models.specs.Ranks.{Lowers}
use Rattle.blif_models.proofs.Rankings.{lowers_more}
use Rattle.blif_models.proofs.ranks.Ranking.lower_all.Goals as goal

pub loop-model-preserved : goal.loop-model-preserved
loop-model-preserved c =
    let i = c.loop-model.model-index in
    let models = c.args.models.now in
    let old = c.args.self.now in
    let before = c.loop-model.self in
    let after = c.lower.new.self in
    subst (λ (xs : List ℕ). Lowers c.args.rank old.ranks.items old.left.items xs after.ranks.items after.left.items) (sym (take_more models i 0 c.loop-model-test.true))
    (lowers_more c.args.rank old.ranks.items before.ranks.items after.ranks.items old.left.items before.left.items after.left.items (take i models) (get_or models i 0) c.loop-model.invariant c.in_ok-lower.ensures)
