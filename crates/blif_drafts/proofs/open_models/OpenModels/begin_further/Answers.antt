use Rattle.std.proofs.Common.{◌≡◌, ◌∙◌, ◌++◌, ◌∷◌, [], ap, subst, sym}
use Rattle.blif_formals.specs.Formals.{words_in}
use Rattle.blif_drafts.specs.declared.open_draft.OpenDraft.{OpenDraft}
use Rattle.blif_drafts.specs.OpenDrafts.{Begins, first_word}
use Rattle.blif_drafts.proofs.ManyOpen.{further_begun}
use Rattle.blif_drafts.proofs.ModelNames.{further_names}
use Rattle.blif_drafts.proofs.open_models.OpenModels.begin_further.Goals as goal

pub returns-clause-ok : goal.returns-clause-ok
returns-clause-ok c =
    let heading = c.in_ok-heading in
    let begun = subst (Begins heading.heading) (sym c.replace-ended.ensures.after) c.new-begun.ensures.begins in
    further_begun c.args.self.now c.heading_of.new.titles heading.heading c.push.new.self c.replace-ended.new.dest c.args.line (first_word (words_in c.args.words.now)) heading.ensures.titles heading.ensures.line heading.ensures.title begun
    (c.in_ok-push.ensures.items ∙ ap (λ (d : OpenDraft). c.args.self.now.closed.items ++ d.draft ∷ []) c.replace-ended.ensures.value)

pub returns-clause-names : goal.returns-clause-names
returns-clause-names c =
    let begun = subst (λ (d : OpenDraft). d.draft.names ≡ []) (sym c.replace-ended.ensures.after) c.new-begun.ensures.names in
    further_names c.args.self.now c.heading_of.new.titles c.push.new.self c.replace-ended.new.dest (c.in_ok-push.ensures.items ∙ ap (λ (d : OpenDraft). c.args.self.now.closed.items ++ d.draft ∷ []) c.replace-ended.ensures.value) begun
