use Rattle.std.proofs.Common.{◌≡◌, List, rules, subst, sym, ◌∙◌, ℕ, ap, length, replicate}
use Rattle.std.proofs.lemmas.List.{length-replicate}
use Rattle.blif_models.specs.Ranks.{AreRanks}
use Rattle.blif_models.proofs.Rankings.{equal_ranks, holder_within}
use Rattle.blif_models.proofs.ranks.ranks_of.Goals as goal

pub loop-place-init : goal.loop-place-init
loop-place-init c =
    let holds = c.args.holds.now in
    let same : c.in_ok-vec.field-0.items ≡ replicate (length holds) 18446744073709551615 = search (rules, c.in_ok-vec.ensures) in
    record {
      many = ap (λ (xs : List ℕ). length xs) same ∙ length-replicate (length holds) 18446744073709551615;
      left = c.new.ensures.items;
      ranks = subst (λ (xs : List ℕ). AreRanks holds xs) (sym same) (equal_ranks holds 18446744073709551615 (λ m n e. holder_within holds m n e));
    }
