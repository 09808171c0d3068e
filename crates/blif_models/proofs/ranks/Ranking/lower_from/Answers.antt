use Rattle.std.proofs.Common.{List, length, rules, subst, ◌∷◌, ◌++◌, [], ◌≡◌, ◌<◌, ◌∙◌, sym, ℕ}
use Rattle.std.specs.Prelude.{All}
use Rattle.blif_order.specs.Orders.{reads_of}
use Rattle.blif_models.specs.Ranks.{IsRanking, Lowers}
use Rattle.blif_models.proofs.CappedSums.{held_at}
use Rattle.blif_models.proofs.Rankings.{ranking_begins, ranking_ends, ranking_step}
use Rattle.blif_models.proofs.Searches.{last_within}
use Rattle.blif_models.proofs.ranks.Ranking.lower_from.Goals as goal

pub loop-next-init : goal.loop-next-init
loop-next-init c =
    let old = c.args.self.now in
    let new = c.lower.new.self in
    ranking_begins c.args.holds.now c.args.rank c.args.model old.ranks.items old.left.items new.ranks.items new.left.items c.requires.many c.requires.left c.requires.ranks c.requires.model c.in_ok-lower.ensures

pub loop-next-preserved : goal.loop-next-preserved
loop-next-preserved c =
    let holds = c.args.holds.now in
    let rank = c.args.rank in
    let next = c.in-Some.next in
    let ranks = c.loop-next.self.ranks.items in
    let left = c.pop.new.self.items in
    let new = c.lower_all.new.self in
    let whole : c.loop-next.self.left.items ≡ left ++ next ∷ [] = c.in-Some.ensures.items in
    let before : IsRanking holds rank ranks (left ++ next ∷ []) = subst (IsRanking holds rank ranks) whole c.loop-next.invariant in
    let within : next < length holds = last_within (length holds) left next before.within in
    let held : c.as_slice.result.now ≡ reads_of holds next = c.as_slice.ensures ∙ c.index-holds-next.is ∙ sym (held_at holds next c.index-holds-next.result within) in
    ranking_step holds rank next ranks left new.ranks.items new.left.items before (subst (λ (ms : List ℕ). Lowers rank ranks left ms new.ranks.items new.left.items) held c.in_ok-lower_all.ensures)
    (subst (λ (ms : List ℕ). All (λ m. m < length holds) ms) (sym (held_at holds next [] within)) (c.requires.within next [] within))

pub returns-clause-ranks : goal.returns-clause-ranks
returns-clause-ranks c = ranking_ends c.args.holds.now c.args.rank c.loop-next.self.ranks.items c.loop-next.self.left.items c.loop-next.invariant (search (rules, c.in_default.ensures, c.in_default.is))
