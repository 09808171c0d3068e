use Rattle.std.proofs.Common.{drop, map}
use Rattle.std.proofs.lemmas.Result.{on_ok_weaker}
use Rattle.blif_models.specs.Models.{join_of}
use Rattle.blif_formals.specs.Formals.{words_in}
use Rattle.blif_drafts.proofs.ManyOpen.{held_more}
use Rattle.blif_drafts.proofs.ModelNames.{line_names}
use Rattle.blif_drafts.proofs.open_models.OpenModels.add_instance.Goals as goal

pub returns-clause-ok : goal.returns-clause-ok
returns-clause-ok c = on_ok_weaker c.add_instance.result (λ holds. held_more c.args.self.now c.add_instance.new.titles c.add_instance.new.self c.args.line (words_in c.args.words.now) holds) c.add_instance.ensures.ok

pub returns-clause-names : goal.returns-clause-names
returns-clause-names c =
    on_ok_weaker c.add_instance.result (λ adds. line_names c.args.self.now c.add_instance.new.titles (map (λ word. (join_of word).actual) (drop 1 (words_in c.args.words.now))) c.add_instance.new.self adds) c.add_instance.ensures.names
