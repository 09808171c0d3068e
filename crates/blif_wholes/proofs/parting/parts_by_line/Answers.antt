use Rattle.std.proofs.Common.{rules}
use Rattle.std.proofs.lemmas.List.Sorted.{IsNonDecreasingBy-from_sort, answers_always}
use Rattle.blif_wholes.specs.declared.parting.WholeCover.{WholeCover}
use Rattle.blif_wholes.proofs.parting.parts_by_line.Goals as goal

pub returns-clause-rising : goal.returns-clause-rising
returns-clause-rising c =
    IsNonDecreasingBy-from_sort (λ (one : WholeCover). one.cover.line) _
    (c.sort_unstable_by_key.ensures.sorted (λ (one : WholeCover). one.cover.line) (answers_always _ _ _ (λ f a r g h. search rules)))
