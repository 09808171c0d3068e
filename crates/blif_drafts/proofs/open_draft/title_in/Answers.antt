use Rattle.blif_formals.proofs.Numbering.{keeps_all, keeps_more}
use Rattle.blif_drafts.proofs.open_draft.title_in.Goals as goal

pub returns-in_ok-number_of-in-len1-up-clause-titles : goal.returns-in_ok-number_of-in-len1-up-clause-titles
returns-in_ok-number_of-in-len1-up-clause-titles c = keeps_more c.args.titles.now c.args.titles.now c.number_of.new.self _ (keeps_all c.args.titles.now) c.in_ok-number_of-in-len1-up.ensures.words
