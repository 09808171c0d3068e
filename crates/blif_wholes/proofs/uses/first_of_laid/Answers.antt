use Rattle.std.proofs.Common.{◌≡◌, ◌+◌, ◌++◌, ◌∷◌, [], Some, not, take, ap, sym, ◌∙◌, if◌then◌else◌}
use Rattle.std.specs.List.{list_any}
use Rattle.std.proofs.lemmas.List.{take_more}
use Rattle.blif_models.specs.ModelFaults.{least, lesser}
use Rattle.blif_formals.specs.Clashes.{least_of}
use Rattle.blif_drafts.specs.Signals.{is_marked}
use Rattle.blif_wholes.specs.Uses.{laid_line, laid_reads, unmarked_lines, uses_laid}
use Rattle.blif_wholes.proofs.LaidSteps.{laid_more}
use Rattle.blif_wholes.proofs.uses.first_of_laid.Goals as goal
use Rattle.blif_wholes.proofs.uses.first_of_laid.Goals.{then-reads_unmarked, else-reads_unmarked}

pub loop-one-preserved : goal.loop-one-preserved
loop-one-preserved c =
    let all = c.args.laid.now in
    let marks = c.args.marks.now in
    let i = c.loop-one.one-index in
    let one = c.one-item.result in
    let reads = list_any (λ n. not (is_marked marks n)) (laid_reads one) in
    let found = least_of c.args.before (least (unmarked_lines marks (uses_laid (take i all)))) in
    let more : least_of c.args.before (least (unmarked_lines marks (uses_laid (take (i + 1) all)))) ≡ (if reads then Some (lesser (laid_line one) found) else found) =
    ap (λ xs. least_of c.args.before (least (unmarked_lines marks (uses_laid xs)))) (take_more all i one c.loop-one-test.true ∙ ap (λ item. take i all ++ item ∷ []) (sym c.one-item.is)) ∙ laid_more c.args.before marks (take i all) one in
    let test = sym c.reads_unmarked.ensures in
    elim c.if-reads_unmarked.branch [
      | then-reads_unmarked w ↦
          w.first-is ∙ ap Some (w.lesser.ensures ∙ (λ j. lesser (w.laid_line.ensures j) (c.loop-one.invariant j))) ∙ sym (more ∙ ap (λ t. if t then Some (lesser (laid_line one) found) else found) (test ∙ w.if-reads_unmarked.true))
      | else-reads_unmarked w ↦
          w.first-is ∙ c.loop-one.invariant ∙ sym (more ∙ ap (λ t. if t then Some (lesser (laid_line one) found) else found) (test ∙ w.if-reads_unmarked.false))
    ]
