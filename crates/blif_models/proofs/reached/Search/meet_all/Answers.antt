use Rattle.std.proofs.Common.{List, get_or, subst, sym, take, ℕ}
use Rattle.std.proofs.lemmas.List.{take_more}
use Rattle.blif_models.specs.Graphs.{Meets}
use Rattle.blif_models.proofs.Searches.{meets_more}
use Rattle.blif_models.proofs.reached.Search.meet_all.Goals as goal

pub loop-model-preserved : goal.loop-model-preserved
loop-model-preserved c =
    let i = c.loop-model.model-index in
    let held = c.args.held.now in
    let old = c.args.self.now in
    let before = c.loop-model.self in
    let after = c.meet.new.self in
    subst (λ (xs : List ℕ). Meets old.met.items old.left.items xs after.met.items after.left.items) (sym (take_more held i 0 c.loop-model-test.true))
    (meets_more old.met.items before.met.items after.met.items old.left.items before.left.items after.left.items (take i held) (get_or held i 0) c.loop-model.invariant c.in_ok-meet.ensures)
