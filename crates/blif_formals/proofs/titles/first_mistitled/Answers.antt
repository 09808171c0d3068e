use Rattle.std.proofs.Common.{◌≡◌, ◌+◌, None, Some, filter, get_or, map, take, ap, sym, ◌∙◌, if◌then◌else◌}
use Rattle.std.proofs.lemmas.List.{take_more}
use Rattle.blif_models.specs.ModelFaults.{least, lesser}
use Rattle.blif_formals.specs.declared.titles.Heading.{Heading}
use Rattle.blif_formals.specs.Titles.{mistitled_by}
use Rattle.blif_formals.proofs.Clashing.{lines_last}
use Rattle.blif_formals.proofs.titles.first_mistitled.Goals as goal
use Rattle.blif_formals.proofs.titles.first_mistitled.Goals.{then-is_mistitled, else-is_mistitled}

pub loop-heading-preserved : goal.loop-heading-preserved
loop-heading-preserved c =
    let headings = c.args.headings.now in
    let i = c.loop-heading.heading-index in
    let one : Heading = get_or headings i (record { line = 0; title = None }) in
    let p = λ (heading : Heading). mistitled_by c.args.titles.now heading.title in
    let before = least (map (λ heading. heading.line) (filter p (take i headings))) in
    let more : least (map (λ heading. heading.line) (filter p (take (i + 1) headings))) ≡ (if p one then Some (lesser one.line before) else before) =
    ap (λ xs. least (map (λ heading. heading.line) (filter p xs))) (take_more headings i (record { line = 0; title = None }) c.loop-heading-test.true) ∙ lines_last (λ heading. heading.line) p (take i headings) one in
    let test = sym c.is_mistitled.ensures in
    elim c.if-is_mistitled.branch [
      | then-is_mistitled w ↦
          w.first-is ∙ ap Some (w.lesser.ensures ∙ ap (lesser one.line) c.loop-heading.invariant) ∙ sym (more ∙ ap (λ t. if t then Some (lesser one.line before) else before) (test ∙ w.if-is_mistitled.true))
      | else-is_mistitled w ↦
          w.first-is ∙ c.loop-heading.invariant ∙ sym (more ∙ ap (λ t. if t then Some (lesser one.line before) else before) (test ∙ w.if-is_mistitled.false))
    ]
