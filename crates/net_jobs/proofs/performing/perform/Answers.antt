use Rattle.std.proofs.Common.{sym, subst}
use Rattle.job_commands.specs.declared.acts.Act.{Act}
use Rattle.net_jobs.specs.Saying.{AnswersAct}
use Rattle.net_jobs.proofs.performing.perform.Goals as goal

pub returns-in_ok-sift-in-Sift-clause-answered : goal.returns-in_ok-sift-in-Sift-clause-answered
returns-in_ok-sift-in-Sift-clause-answered g c =
    subst (λ (a : Act). AnswersAct c.args.session.now c.sift.new.session c.args.names.now a c.in_ok-sift-in-Sift.field-0) (sym c.in-Sift.is) (c.in_ok-sift-in-Sift.ensures.answered c.args.names.now)
