use Rattle.std.proofs.Common.{refl, subst}
use Rattle.function_laws.specs.declared.history.Call.TheVariants as calls
use Rattle.function_laws.specs.declared.history.Reply.TheVariants as replies
use Rattle.dd_session.specs.Sessions.{Called, Seen}
use Rattle.net_jobs.proofs.AnswerLaws.{called_spared}
use Rattle.net_jobs.proofs.performing.copy.Goals as goal

pub returns-clause-answered : goal.returns-clause-answered
returns-clause-answered c =
    let old = c.args.session.now in
    let new = c.copy.new.self in
    let call = calls.Copy c.args.name in
    let reply = replies.Made c.copy.result.value in
    c.made.ensures old new call refl
    (called_spared old new _ call reply c.copy.result.place (subst (λ (s : Seen). Called s new call reply c.copy.result.place) c.in_ok-reserve.ensures.ok c.copy.ensures.told))
