-- The first line of uses, where one more cover or latch stands at the end.
use Rattle.std.proofs.Common.{◌≡◌, ℕ, ◌||◌, not, Bool, true, false, cond, List, [], ◌∷◌, ◌++◌, append-nil, filter, map, nat_lt, Option, None, Some, refl, ap, sym, ◌∙◌, arith, if◌then◌else◌}
use Rattle.std.specs.List.{list_any}
use Rattle.std.proofs.lemmas.Bool.Decides.{nat_tests}
use Rattle.std.proofs.lemmas.Grind.{flat_map-append}
use Rattle.blif_order.specs.Orders.{is_in}
use Rattle.blif_models.specs.declared.numbered.Laid.{Laid}
use Rattle.blif_models.specs.ModelFaults.{least, lesser}
use Rattle.blif_formals.specs.Clashes.{least_of}
use Rattle.blif_formals.proofs.Clashing.{least_both, turned}
use Rattle.blif_drafts.specs.Signals.{is_marked}
use Rattle.blif_wholes.specs.declared.uses.SpotUse.{SpotUse}
use Rattle.blif_wholes.specs.Uses.{laid_line, laid_reads, undefined_among, unmarked_lines, uses_at, uses_laid}
use Rattle.blif_wholes.proofs.FirstLines.{least_swapped}
use Rattle.blif_wholes.proofs.SpotUses.{lines_both}

-- one line, once or more often
once_or_more : (marks : List Bool) (line : ℕ) (ins : List ℕ) → least (unmarked_lines marks (uses_at line ins)) ≡ (if list_any (λ n. not (is_marked marks n)) ins then Some line else None)
once_or_more marks line [] = refl
once_or_more marks line (n ∷ ins) = by_cases (not (is_marked marks n)) (list_any (λ m. not (is_marked marks m)) ins) (once_or_more marks line ins)
  where
    not_lower : (m : ℕ) → nat_lt m m ≡ false
    not_lower m = grind (arith, nat_tests)

    by_cases : (a b : Bool) → least (unmarked_lines marks (uses_at line ins)) ≡ (if b then Some line else None)
        → least (map (λ (one : SpotUse). one.line) (cond a (record { spot = n; line = line } ∷ filter (λ one. not (is_marked marks one.spot)) (uses_at line ins)) (filter (λ one. not (is_marked marks one.spot)) (uses_at line ins))))
        ≡ (if (a || b) then Some line else None)
    by_cases true true more = ap (λ o. Some (lesser line o)) more ∙ ap (λ t. Some (if t then line else line)) (not_lower line)
    by_cases true false more = ap (λ o. Some (lesser line o)) more
    by_cases false b more = more

through : (before : Option ℕ) (line : ℕ) (ns : List ℕ) → least_of before (Some (lesser line (least ns))) ≡ Some (lesser line (least_of before (least ns)))
through None line ns = refl
through (Some b) line ns = least_swapped (b ∷ []) (line ∷ []) ns

pub laid_more : (before : Option ℕ) (marks : List Bool) (front : List Laid) (one : Laid)
    → least_of before (least (unmarked_lines marks (uses_laid (front ++ one ∷ []))))
    ≡ (if list_any (λ n. not (is_marked marks n)) (laid_reads one) then Some (lesser (laid_line one) (least_of before (least (unmarked_lines marks (uses_laid front))))) else least_of before (least (unmarked_lines marks (uses_laid front))))
laid_more before marks front one =
    let p = λ (two : SpotUse). not (is_marked marks two.spot) in
    let own = uses_at (laid_line one) (laid_reads one) in
    let lines = unmarked_lines marks (uses_laid front) in
    ap (λ uses. least_of before (least (unmarked_lines marks uses))) (flat_map-append (λ (two : Laid). uses_at (laid_line two) (laid_reads two)) front (one ∷ []) ∙ ap (λ t. uses_laid front ++ t) (append-nil own))
    ∙ ap (λ ns. least_of before (least ns)) (lines_both p (uses_laid front) own)
    ∙ ap (least_of before) (least_both lines (unmarked_lines marks own) ∙ ap (least_of (least lines)) (once_or_more marks (laid_line one) (laid_reads one)))
    ∙ by_cases (list_any (λ n. not (is_marked marks n)) (laid_reads one))
  where
    by_cases : (b : Bool) → least_of before (least_of (least (unmarked_lines marks (uses_laid front))) (if b then Some (laid_line one) else None))
        ≡ (if b then Some (lesser (laid_line one) (least_of before (least (unmarked_lines marks (uses_laid front))))) else least_of before (least (unmarked_lines marks (uses_laid front))))
    by_cases true = ap (least_of before) (turned (least (unmarked_lines marks (uses_laid front))) (Some (laid_line one))) ∙ through before (laid_line one) (unmarked_lines marks (uses_laid front))
    by_cases false = ap (least_of before) (turned (least (unmarked_lines marks (uses_laid front))) None)

-- where the marks are those of signals
pub told_by_marks : (marks : List Bool) (signals : List ℕ) → ((n : ℕ) → is_marked marks n ≡ is_in signals n) → (outputs uses : List SpotUse)
    → least_of (least (unmarked_lines marks outputs)) (least (unmarked_lines marks uses)) ≡ undefined_among signals (outputs ++ uses)
told_by_marks marks signals h outputs uses =
    sym (least_both (unmarked_lines marks outputs) (unmarked_lines marks uses))
    ∙ ap least (sym (lines_both (λ one. not (is_marked marks one.spot)) outputs uses))
    ∙ ap (λ (p : SpotUse → Bool). least (map (λ (one : SpotUse). one.line) (filter p (outputs ++ uses)))) (λ i one. not (h one.spot i))
