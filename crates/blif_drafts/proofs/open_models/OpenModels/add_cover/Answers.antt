use Rattle.std.proofs.Common.{◌++◌, ◌∷◌, []}
use Rattle.std.proofs.lemmas.Result.{on_ok_weaker}
use Rattle.blif_formals.specs.Formals.{words_in}
use Rattle.blif_drafts.specs.OpenDrafts.{cover_at, cover_refused, with_item}
use Rattle.blif_drafts.proofs.GoingOn.{lines_go_on}
use Rattle.blif_drafts.proofs.ManyOpen.{taken}
use Rattle.blif_drafts.proofs.ModelNames.{line_names}
use Rattle.blif_drafts.proofs.open_models.OpenModels.add_cover.Goals as goal

pub returns-clause-ok : goal.returns-clause-ok
returns-clause-ok c =
    let ins = words_in c.args.ins.now in
    let name = c.args.name.now in
    on_ok_weaker c.add_cover.result
    (λ takes rows.
    taken c.args.self.now c.add_cover.new.self c.args.line (cover_refused name) (with_item (cover_at c.args.line ins name rows)) (λ before model below. lines_go_on.item (cover_at c.args.line ins name rows) before model below) (takes rows)) c.add_cover.ensures.ok

pub returns-clause-names : goal.returns-clause-names
returns-clause-names c = on_ok_weaker c.add_cover.result (λ adds. line_names c.args.self.now c.args.self.now.titles (words_in c.args.ins.now ++ c.args.name.now ∷ []) c.add_cover.new.self adds) c.add_cover.ensures.names
