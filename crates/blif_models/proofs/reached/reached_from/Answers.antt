use Rattle.std.proofs.Common.{List, length, rules, subst, ◌∷◌, ◌++◌, [], ◌≡◌, ◌<◌, ◌∙◌, sym, ℕ}
use Rattle.std.specs.Prelude.{All}
use Rattle.blif_order.specs.Orders.{reads_of}
use Rattle.blif_models.specs.Graphs.{IsSearch, Meets}
use Rattle.blif_models.proofs.CappedSums.{held_at}
use Rattle.blif_models.proofs.Searches.{last_within, search_begins, search_ends, search_step}
use Rattle.blif_models.proofs.reached.reached_from.Goals as goal

pub loop-model-init : goal.loop-model-init
loop-model-init c =
    search_begins c.args.holds.now c.args.from c.in_ok-vec.field-0.items c.meet.new.self.met.items c.new.result.items c.meet.new.self.left.items c.requires.from (search (rules, c.in_ok-vec.ensures)) c.new.ensures.items
    c.in_ok-meet.ensures

pub loop-model-preserved : goal.loop-model-preserved
loop-model-preserved c =
    let holds = c.args.holds.now in
    let model = c.in-Some.model in
    let met = c.loop-model.search.met.items in
    let left = c.pop.new.self.items in
    let whole : c.loop-model.search.left.items ≡ left ++ model ∷ [] = c.in-Some.ensures.items in
    let before : IsSearch holds c.args.from met (left ++ model ∷ []) = subst (IsSearch holds c.args.from met) whole c.loop-model.invariant in
    let within : model < length holds = last_within (length holds) left model before.within in
    let held : c.as_slice.result.now ≡ reads_of holds model = c.as_slice.ensures ∙ c.index-holds-model.is ∙ sym (held_at holds model c.index-holds-model.result within) in
    search_step holds c.args.from model met c.meet_all.new.self.met.items left c.meet_all.new.self.left.items before (subst (λ (ms : List ℕ). Meets met left ms c.meet_all.new.self.met.items c.meet_all.new.self.left.items) held c.in_ok-meet_all.ensures)
    (subst (λ (ms : List ℕ). All (λ m. m < length holds) ms) (sym (held_at holds model [] within)) (c.requires.within model [] within))

pub returns : goal.returns
returns c = search_ends c.args.holds.now c.args.from c.loop-model.search.met.items c.loop-model.search.left.items c.loop-model.invariant (search (rules, c.in_default.ensures, c.in_default.is))
