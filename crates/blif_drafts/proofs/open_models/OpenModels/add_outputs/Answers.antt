use Rattle.std.proofs.Common.{suc, ◌∷◌, ◌++◌, [], arith}
use Rattle.std.proofs.lemmas.Result.{on_ok_weaker}
use Rattle.blif_formals.specs.Formals.{words_in}
use Rattle.blif_drafts.specs.OpenDrafts.{outputs_refused, with_outputs}
use Rattle.blif_drafts.proofs.GoingOn.{lines_go_on}
use Rattle.blif_drafts.proofs.ManyOpen.{taken}
use Rattle.blif_drafts.proofs.ModelNames.{line_names}
use Rattle.blif_drafts.proofs.open_models.OpenModels.add_outputs.Goals as goal

pub returns-clause-ok : goal.returns-clause-ok
returns-clause-ok c =
    let words = words_in c.args.words.now in
    on_ok_weaker c.add_outputs.result
    (λ takes line.
    taken c.args.self.now c.add_outputs.new.self line (outputs_refused words) (with_outputs line words)
    (λ before model below. lines_go_on.later line (suc line) (before ++ with_outputs line words model ∷ []) (omega arith) (lines_go_on.outputs line words before model below)) (takes line)) c.add_outputs.ensures.ok

pub returns-clause-names : goal.returns-clause-names
returns-clause-names c = on_ok_weaker c.add_outputs.result (λ adds. line_names c.args.self.now c.args.self.now.titles (words_in c.args.words.now) c.add_outputs.new.self adds) c.add_outputs.ensures.names
