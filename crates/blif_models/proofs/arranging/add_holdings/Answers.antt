use Rattle.std.proofs.Common.{List, take, sym, ap, append-nil, append_assoc, ◌≡◌, ◌∙◌, ◌++◌, ◌∷◌, []}
use Rattle.std.proofs.lemmas.List.{take_more}
use Rattle.blif_models.specs.declared.cycles.Holding.{Holding}
use Rattle.blif_models.specs.declared.numbered.Entry.{Entry}
use Rattle.blif_models.specs.Arrangements.{holdings_by}
use Rattle.blif_models.proofs.Arranged.{holdings_more, no_holding}
use Rattle.blif_models.proofs.arranging.add_holdings.Goals as goal
use Rattle.blif_models.proofs.arranging.add_holdings.Goals.{in-Instance+in_ok-push, in_default}

pub loop-entry-preserved : goal.loop-entry-preserved
loop-entry-preserved c =
    let i = c.loop-entry.entry-index in
    let by = c.args.by in
    let es = c.args.entries.now in
    let old = c.args.found.now.items in
    let item = c.entry-item.result in
    let front : List Holding = c.loop-entry.found.items in
    let more : c.match-entry.found.items ≡ front ++ holdings_by by (item ∷ []) =
    elim c.match-entry.branch [
      | in-Instance+in_ok-push w ↦ ap (λ v. v.items) w.found-is ∙ w.in_ok-push.ensures.items ∙ ap (λ (e : Entry). front ++ holdings_by by (e ∷ [])) (sym w.in-Instance.is)
      | in_default w ↦ ap (λ v. v.items) w.found-is ∙ sym (append-nil front) ∙ ap (λ (hs : List Holding). front ++ hs) (sym (no_holding by item w.in_default.not-Instance))
    ] in
    more
    ∙ ap (λ (hs : List Holding). hs ++ holdings_by by (item ∷ [])) c.loop-entry.invariant
    ∙ append_assoc old (holdings_by by (take i es)) (holdings_by by (item ∷ []))
    ∙ ap (λ (hs : List Holding). old ++ hs) (sym (holdings_more by (take i es) item)
    ∙ ap (λ (e : Entry). holdings_by by (take i es ++ e ∷ [])) c.entry-item.is
    ∙ ap (holdings_by by) (sym (take_more es i item c.loop-entry-test.true)))
