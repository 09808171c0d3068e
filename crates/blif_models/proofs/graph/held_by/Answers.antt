use Rattle.std.proofs.Common.{List, ℕ, take, sym, ap, append-nil, ◌≡◌, ◌∙◌, ◌++◌, ◌∷◌, []}
use Rattle.std.proofs.lemmas.List.{take_more}
use Rattle.blif_models.specs.declared.numbered.Entry.{Entry}
use Rattle.blif_models.specs.NumberedGraphs.{held_by}
use Rattle.blif_models.proofs.NumberedGraphs.{held_more, no_instance}
use Rattle.blif_models.proofs.graph.held_by.Goals as goal
use Rattle.blif_models.proofs.graph.held_by.Goals.{in-Instance+in_ok-push, in_default}

pub loop-entry-preserved : goal.loop-entry-preserved
loop-entry-preserved c =
    let i = c.loop-entry.entry-index in
    let es = c.args.entries.now in
    let item = c.entry-item.result in
    let front : List ℕ = c.loop-entry.held in
    let more : c.match-entry.held ≡ front ++ held_by (item ∷ []) =
    elim c.match-entry.branch [
      | in-Instance+in_ok-push w ↦ w.held-is ∙ w.in_ok-push.ensures.ok ∙ ap (λ (e : Entry). front ++ held_by (e ∷ [])) (sym w.in-Instance.is)
      | in_default w ↦ w.held-is ∙ sym (append-nil front) ∙ ap (λ (ns : List ℕ). front ++ ns) (sym (no_instance item w.in_default.not-Instance))
    ] in
    more
    ∙ ap (λ (ns : List ℕ). ns ++ held_by (item ∷ [])) c.loop-entry.invariant
    ∙ sym (held_more (take i es) item)
    ∙ ap (λ (e : Entry). held_by (take i es ++ e ∷ [])) c.entry-item.is
    ∙ ap held_by (sym (take_more es i item c.loop-entry-test.true))
