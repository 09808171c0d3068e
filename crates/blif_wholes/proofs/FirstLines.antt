-- The first of some lines, in whatever order they stand.
use Rattle.std.proofs.Common.{◌≡◌, ℕ, List, ◌++◌, append_assoc, ap, sym, ◌∙◌}
use Rattle.blif_models.specs.ModelFaults.{least}
use Rattle.blif_formals.specs.Clashes.{least_of}
use Rattle.blif_formals.proofs.Clashing.{least_both, turned}

pub least_after : (a b c : List ℕ) → least b ≡ least c → least (a ++ b) ≡ least (a ++ c)
least_after a b c h = least_both a b ∙ ap (least_of (least a)) h ∙ sym (least_both a c)

pub least_swapped : (a b c : List ℕ) → least (a ++ (b ++ c)) ≡ least (b ++ (a ++ c))
least_swapped a b c =
    ap least (sym (append_assoc a b c))
    ∙ least_both (a ++ b) c
    ∙ ap (λ o. least_of o (least c)) (least_both a b ∙ turned (least a) (least b) ∙ sym (least_both b a))
    ∙ sym (least_both (b ++ a) c)
    ∙ ap least (append_assoc b a c)
