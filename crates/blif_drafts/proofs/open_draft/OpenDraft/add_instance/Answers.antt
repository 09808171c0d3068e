use Rattle.std.proofs.Common.{◌∙◌, ◌++◌, ◌∷◌, [], Bor, List, ℕ, ap, map, subst, sym}
use Rattle.job_words.specs.Text.{Word}
use Rattle.blif_models.specs.Models.{join_of}
use Rattle.blif_formals.specs.Formals.{words_in}
use Rattle.blif_formals.specs.Words.{AddsOnly}
use Rattle.blif_drafts.proofs.Refusing.{actuals_found, instance_held, words_behind}
use Rattle.blif_drafts.proofs.open_draft.OpenDraft.add_instance.Goals as goal

pub returns-clause-ok : goal.returns-clause-ok
returns-clause-ok c =
    let joins = c.behind_first-joins.result.now in
    let found = c.in_ok-actuals.actuals in
    instance_held c.args.self.now c.args.titles.now c.title_in.new.titles c.actuals_in.new.names c.args.line (words_in c.args.words.now) c.in_ok-title.title found joins c.push-3.new.self c.push.new.self c.push-2.new.self c.in_ok-title.ensures.titles
    c.in_ok-title.ensures.title c.in_ok-actuals.ensures.names (actuals_found c.actuals_in.new.names (words_in joins) found c.in_ok-actuals.ensures.actuals) (words_behind c.args.words.now joins c.behind_first-joins.ensures) c.in_ok-push-3.ensures.ok
    c.in_ok-push.ensures.ok (c.in_ok-push-2.ensures.ok ∙ ap (λ (ws : List (Bor (List ℕ))). c.args.self.now.draft.joined ++ ws ∷ []) (c.from_vec.ensures ∙ c.in_ok-joined.ensures.items))

pub returns-clause-names : goal.returns-clause-names
returns-clause-names c =
    let joins = c.behind_first-joins.result.now in
    subst (λ (ws : List Word). AddsOnly c.args.self.now.draft.names (map (λ word. (join_of word).actual) ws) c.actuals_in.new.names) (sym (words_behind c.args.words.now joins c.behind_first-joins.ensures)) c.in_ok-actuals.ensures.added
