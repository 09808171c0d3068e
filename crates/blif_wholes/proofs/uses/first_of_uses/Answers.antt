use Rattle.std.proofs.Common.{◌≡◌, ◌+◌, Some, not, filter, get_or, map, take, ap, sym, ◌∙◌, if◌then◌else◌}
use Rattle.std.proofs.lemmas.List.{take_more}
use Rattle.blif_models.specs.ModelFaults.{least, lesser}
use Rattle.blif_formals.proofs.Clashing.{lines_last}
use Rattle.blif_drafts.specs.Signals.{is_marked}
use Rattle.blif_wholes.specs.declared.uses.SpotUse.{SpotUse}
use Rattle.blif_wholes.proofs.uses.first_of_uses.Goals as goal
use Rattle.blif_wholes.proofs.uses.first_of_uses.Goals.{then-is_unmarked, else-is_unmarked}

pub loop-one-preserved : goal.loop-one-preserved
loop-one-preserved c =
    let uses = c.args.uses.now in
    let i = c.loop-one.one-index in
    let one : SpotUse = get_or uses i (record { spot = 0; line = 0 }) in
    let p = λ (two : SpotUse). not (is_marked c.args.marks.now two.spot) in
    let before = least (map (λ two. two.line) (filter p (take i uses))) in
    let more : least (map (λ two. two.line) (filter p (take (i + 1) uses))) ≡ (if p one then Some (lesser one.line before) else before) =
    ap (λ xs. least (map (λ two. two.line) (filter p xs))) (take_more uses i (record { spot = 0; line = 0 }) c.loop-one-test.true) ∙ lines_last (λ two. two.line) p (take i uses) one in
    let test = sym c.is_unmarked.ensures in
    elim c.if-is_unmarked.branch [
      | then-is_unmarked w ↦
          w.first-is ∙ ap Some (w.lesser.ensures ∙ ap (lesser one.line) c.loop-one.invariant) ∙ sym (more ∙ ap (λ t. if t then Some (lesser one.line before) else before) (test ∙ w.if-is_unmarked.true))
      | else-is_unmarked w ↦
          w.first-is ∙ c.loop-one.invariant ∙ sym (more ∙ ap (λ t. if t then Some (lesser one.line before) else before) (test ∙ w.if-is_unmarked.false))
    ]
