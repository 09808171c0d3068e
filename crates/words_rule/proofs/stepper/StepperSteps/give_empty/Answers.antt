use Rattle.node_slots.specs.Stores.{lent_room}
use Rattle.std.proofs.Common.{◌≡◌, None, ap, refl, sym, ◌∙◌, subst}
use Rattle.step_store.specs.Knowing.{risen}
use Rattle.words_rule.specs.Known.{own_none, own_of}
use Rattle.words_rule.specs.Passes.{view}
use Rattle.words_rule.specs.Kept.{whole_of}
use Rattle.words_rule.specs.Shapes.{shape_in}
use Rattle.words_rule.specs.Known.{denoted_in}
use Rattle.std.proofs.Common.{Some}
use Rattle.words_rule.specs.Steppers.{IsOperating, knows}
use Rattle.words_rule.specs.declared.view.View.{View}
use Rattle.function_laws.specs.Kinds.{Denoted}
use Rattle.words_rule.proofs.FreeClauses.{is_due}
use Rattle.words_rule.proofs.Steppers.{due_decoded, due_own, due_same, empty_given_on, risen_few}
use Rattle.words_rule.proofs.stepper.StepperSteps.give_empty.Goals as goal

pub returns-clause-own : goal.returns-clause-own
returns-clause-own g c = let s = c.args.self.now in let e = c.give_empty.ensures in subst (λ o. IsOperating g.S.Content.free_slots g.S.Content.memo s.guard.now c.give_empty.new.pass o s.memo (lent_room s.scratch)) (sym c.take.ensures.after) (empty_given_on g.S.Content.free_slots g.S.Content.memo s.guard.now s.pass c.give_empty.new.pass s.free s.memo (lent_room s.scratch) c.requires.own e.own.0 c.in-Some.content (sym c.take.ensures.value ∙ c.in-Some.is) _ refl (risen_few (view s.pass).work.fulls) e.given e.own.1)

pub returns-clause-given : goal.returns-clause-given
returns-clause-given g c =
    let s = c.args.self.now in
    let k = knows (view s.pass) (lent_room s.scratch) in
    subst (λ (v : View). knows v (lent_room s.scratch) ≡ record k { view = record k.view { fulls = risen k.view.fulls; due = (knows v (lent_room s.scratch)).view.due }; hand = record k.hand { free = None } }) (sym c.give_empty.ensures.given) refl

pub returns-clause-due : goal.returns-clause-due
returns-clause-due g c =
    let s = c.args.self.now in
    let v = view s.pass in
    let job = c.args.job.now in
    let w = (knows v (lent_room s.scratch)).view in
    is_due w (knows (view c.give_empty.new.pass) (lent_room s.scratch)).view job c.requires.may
    (ap (λ (x : View). (knows x (lent_room s.scratch)).view.due) c.give_empty.ensures.given
    ∙ ap (λ (f : Denoted). Some (denoted_in v.draws.vars (whole_of (shape_in v.draws) f))) (due_own v own_none (own_of v (lent_room s.scratch)) job ∙ due_same w job c.requires.may)
    ∙ ap Some (due_decoded v (own_of v (lent_room s.scratch)) job c.requires.may))

pub give_empty-requires-clause-roomy : goal.give_empty-requires-clause-roomy
give_empty-requires-clause-roomy g c = c.requires.own.roomy c.in-Some.content (sym c.take.ensures.value ∙ c.in-Some.is)
