use Rattle.std.proofs.Common.{◌∷◌, []}
use Rattle.std.proofs.lemmas.Result.{on_ok_weaker}
use Rattle.blif_drafts.specs.OpenDrafts.{latch_at, latch_refused, with_item}
use Rattle.blif_drafts.proofs.GoingOn.{lines_go_on}
use Rattle.blif_drafts.proofs.ManyOpen.{taken}
use Rattle.blif_drafts.proofs.ModelNames.{line_names}
use Rattle.blif_drafts.proofs.open_models.OpenModels.add_latch.Goals as goal

pub returns-clause-ok : goal.returns-clause-ok
returns-clause-ok c =
    let latch = latch_at c.args.line c.args.input.now c.args.output.now in
    on_ok_weaker c.add_latch.result
    (λ takes. taken c.args.self.now c.add_latch.new.self c.args.line (latch_refused c.args.output.now) (with_item latch) (λ before model below. lines_go_on.item latch before model below) takes) c.add_latch.ensures.ok

pub returns-clause-names : goal.returns-clause-names
returns-clause-names c = on_ok_weaker c.add_latch.result (λ adds. line_names c.args.self.now c.args.self.now.titles (c.args.input.now ∷ c.args.output.now ∷ []) c.add_latch.new.self adds) c.add_latch.ensures.names
