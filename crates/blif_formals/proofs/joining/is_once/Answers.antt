use Rattle.std.proofs.Common.{ℕ, List, ap, subst, sym, ◌∙◌}
use Rattle.std.specs.List.Sorted.{IsPermutation}
use Rattle.std.proofs.lemmas.List.Sorted.{IsNonDecreasingBy-from_sort, IsPermutation-sym}
use Rattle.blif_formals.specs.Joining.{is_rising}
use Rattle.blif_formals.proofs.Once.{once_moved, once_rising}
use Rattle.blif_formals.proofs.joining.is_once.Goals as goal

pub returns : goal.returns
returns c =
    let ns = c.args.numbers.now in
    let sorted = c.sort_unstable.new.self.items in
    let moved : IsPermutation ns sorted = subst (λ (ys : List ℕ). IsPermutation ys sorted) c.in_ok-sorted.ensures.items c.sort_unstable.ensures.permutation in
    c.is_rising.ensures ∙ ap is_rising c.deref.ensures.value ∙ sym (once_rising sorted (IsNonDecreasingBy-from_sort (λ x. x) sorted c.sort_unstable.ensures.sorted))
    ∙ sym (once_moved ns sorted moved (IsPermutation-sym ns sorted moved))
