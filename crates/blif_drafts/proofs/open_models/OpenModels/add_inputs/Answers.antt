use Rattle.std.proofs.lemmas.Result.{on_ok_weaker}
use Rattle.blif_formals.specs.Formals.{words_in}
use Rattle.blif_drafts.specs.OpenDrafts.{inputs_refused, with_inputs}
use Rattle.blif_drafts.proofs.GoingOn.{lines_go_on}
use Rattle.blif_drafts.proofs.ManyOpen.{taken}
use Rattle.blif_drafts.proofs.ModelNames.{line_names}
use Rattle.blif_drafts.proofs.open_models.OpenModels.add_inputs.Goals as goal

pub returns-clause-ok : goal.returns-clause-ok
returns-clause-ok c =
    let words = words_in c.args.words.now in
    on_ok_weaker c.add_inputs.result (λ takes. taken c.args.self.now c.add_inputs.new.self c.args.line (inputs_refused words) (with_inputs c.args.line words) (λ before model below. lines_go_on.inputs c.args.line words before model below) takes) c.add_inputs.ensures.ok

pub returns-clause-names : goal.returns-clause-names
returns-clause-names c = on_ok_weaker c.add_inputs.result (λ adds. line_names c.args.self.now c.args.self.now.titles (words_in c.args.words.now) c.add_inputs.new.self adds) c.add_inputs.ensures.names
