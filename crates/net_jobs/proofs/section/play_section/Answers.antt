use Rattle.net_jobs.proofs.EndLemmas.{plays_section}
use Rattle.net_jobs.proofs.section.play_section.Goals as goal

pub returns-clause-said : goal.returns-clause-said
returns-clause-said g c =
    plays_section c.args.session.now c.say_all.new.session c.drop_all.new.session c.args.commands.now c.say_all.new.script c.drop_all.new.script c.in_ok-say_all.ensures.said c.in_ok-drop_all.ensures.said

pub drop_all-requires-clause-assigned : goal.drop_all-requires-clause-assigned
drop_all-requires-clause-assigned g c = c.in_ok-say_all.ensures.said.1.within
