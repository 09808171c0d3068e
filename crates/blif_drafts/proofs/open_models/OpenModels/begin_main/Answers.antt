use Rattle.blif_formals.specs.Formals.{words_in}
use Rattle.blif_drafts.specs.OpenDrafts.{first_word}
use Rattle.blif_drafts.proofs.ManyOpen.{main_begun}
use Rattle.blif_drafts.proofs.ModelNames.{main_names}
use Rattle.blif_drafts.proofs.open_models.OpenModels.begin_main.Goals as goal

pub returns-clause-ok : goal.returns-clause-ok
returns-clause-ok c =
    let heading = c.in_ok-heading in
    main_begun c.args.self.now c.heading_of.new.titles heading.heading c.new.result c.args.line (first_word (words_in c.args.words.now)) heading.ensures.titles heading.ensures.line heading.ensures.title c.new.ensures.begins

pub returns-clause-names : goal.returns-clause-names
returns-clause-names c = main_names c.args.self.now c.heading_of.new.titles c.new.result c.new.ensures.names
