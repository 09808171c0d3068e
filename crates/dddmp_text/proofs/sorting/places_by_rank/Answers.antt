use Rattle.std.proofs.Common.{◌∙◌, ◌≡◌, ap, sym, subst, arith, List, ℕ, map}
use Rattle.std.specs.List.Sorted.{IsPermutation}
use Rattle.std.proofs.lemmas.List.{take_all}
use Rattle.dddmp_text.specs.Ranks.{AreByRank}
use Rattle.dddmp_text.proofs.ByRank.{Entry, by-rank}
use Rattle.dddmp_text.proofs.sorting.places_by_rank.Goals as goal

pub returns-clause-ranks : goal.returns-clause-ranks
returns-clause-ranks c =
    let sorted = c.sort_unstable.new.self.items in
    let moved = subst (λ (xs : List Entry). IsPermutation xs sorted) c.in_ok-pairs.ensures.pairs c.sort_unstable.ensures.permutation in
    let all : c.loop-rank.places.items ≡ map (λ (pair : Entry). pair.1) sorted =
    c.loop-rank.invariant ∙ ap (λ (xs : List Entry). map (λ (pair : Entry). pair.1) xs) (take_all c.loop-rank.rank sorted (omega (arith, c.loop-rank-test.false, c.len-rank-end.ensures))) in
    subst (λ (places : List ℕ). AreByRank c.args.entries.now places) (sym all)
    (by-rank c.args.entries.now sorted moved (λ k d low less. c.sort_unstable.ensures.sorted k d low less))
