use Rattle.std.proofs.Common.{sym, subst}
use Rattle.function_laws.specs.declared.history.Call.TheVariants as calls
use Rattle.function_laws.specs.declared.history.Reply.TheVariants as replies
use Rattle.function_laws.specs.declared.orders.Order.{Order}
use Rattle.job_commands.specs.declared.acts.Act.TheVariants as acts
use Rattle.dd_session.specs.Sessions.{Called, Seen}
use Rattle.net_jobs.specs.Saying.{AnswersAct}
use Rattle.net_jobs.proofs.SiftLemmas.{elements_answered, variables_answered}
use Rattle.net_jobs.proofs.performing.sift.Goals as goal
use Rattle.net_jobs.proofs.performing.sift.Goals.{in-Elements, in-Variables}

pub returns-clause-answered : goal.returns-clause-answered
returns-clause-answered g c =
    let old = c.args.session.now in
    let new = c.match-order.session in
    let place = c.match-order.placed.place in
    elim c.match-order.branch [
      | in-Variables w ↦ (λ names.
          let sifts = w.sift-placed.ensures.sifted in
          let called = subst (λ (s : Seen). Called old s (calls.Sift sifts.sifting) replies.Done place) (sym w.session-is)
          (subst (λ p. Called old w.sift-placed.new.self (calls.Sift sifts.sifting) replies.Done p.place) (sym w.placed-is) sifts.told) in
          subst (λ (o : Order). AnswersAct old new names (acts.Sift o) c.done.result) (sym w.in-Variables.is) (variables_answered old new sifts.sifting place c.done.result called (c.done.ensures old new) names))
      | in-Elements w ↦ (λ names.
          let sifts = w.sift_elements-placed.ensures.sifted in
          let called = subst (λ (s : Seen). Called old s (calls.SiftElements sifts.sifting) replies.Done place) (sym w.session-is)
          (subst (λ p. Called old w.sift_elements-placed.new.self (calls.SiftElements sifts.sifting) replies.Done p.place) (sym w.placed-is) sifts.told) in
          subst (λ (o : Order). AnswersAct old new names (acts.Sift o) c.done.result) (sym w.in-Elements.is) (elements_answered old new sifts.sifting place c.done.result called (c.done.ensures old new) names))
    ]
