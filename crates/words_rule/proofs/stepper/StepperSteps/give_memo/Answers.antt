use Rattle.node_slots.specs.Stores.{lent_room}
use Rattle.std.proofs.Common.{◌≡◌, ◌∷◌, false, None, ap, sym, ◌∙◌, subst}
use Rattle.atomic_table.specs.Table.{rest}
use Rattle.words_rule.specs.Remembered.{AreAnswers}
use Rattle.words_rule.specs.Passes.{view}
use Rattle.words_rule.specs.declared.view.View.{View}
use Rattle.words_rule.specs.Steppers.{IsOperating, knows}
use Rattle.words_rule.proofs.Steppers.{memo_first, memo_given_on}
use Rattle.words_rule.proofs.stepper.StepperSteps.give_memo.Goals as goal

pub give_memo-requires-clause-hand : goal.give_memo-requires-clause-hand
give_memo-requires-clause-hand g c =
    let s = c.args.self.now in
    let first = c.turn.ensures.turned ∙ memo_first g.S.Content.free_slots g.S.Content.memo s.guard.now s.pass s.pass s.free s.memo (lent_room s.scratch) c.requires.own c.in-Some.content (sym c.take.ensures.value ∙ c.in-Some.is) in
    first ∙ ap (λ l. (2, None) ∷ l) (sym (ap rest first))

pub give_memo-requires-clause-holds : goal.give_memo-requires-clause-holds
give_memo-requires-clause-holds g c =
    let s = c.args.self.now in
    subst (λ (v : View). AreAnswers (knows v (lent_room s.scratch)).view (g.S.Content.memo c.in-Some.content)) (sym c.turn.ensures.same.1) (c.requires.own.answers c.in-Some.content (sym c.take.ensures.value ∙ c.in-Some.is))

pub returns-clause-own : goal.returns-clause-own
returns-clause-own g c =
    let s = c.args.self.now in
    let e = c.give_memo.ensures in
    let t = c.turn.ensures in
    let first = t.turned ∙ memo_first g.S.Content.free_slots g.S.Content.memo s.guard.now s.pass s.pass s.free s.memo (lent_room s.scratch) c.requires.own c.in-Some.content (sym c.take.ensures.value ∙ c.in-Some.is) in
    subst (λ o. IsOperating g.S.Content.free_slots g.S.Content.memo s.guard.now c.give_memo.new.pass s.free o (lent_room s.scratch)) (sym c.take.ensures.after) (memo_given_on g.S.Content.free_slots g.S.Content.memo s.guard.now s.pass c.give_memo.new.pass s.free s.memo (lent_room s.scratch) c.requires.own e.own.0 (subst (λ (v : View). view c.give_memo.new.pass ≡ record v { hand = record v.hand { memo = false } }) t.same.1 e.given) (e.own.1 ∙ ap rest first))

pub returns-clause-given : goal.returns-clause-given
returns-clause-given g c = let s = c.args.self.now in ap (λ (v : View). knows v (lent_room s.scratch)) (c.give_memo.ensures.given ∙ ap (λ (v : View). record v { hand = record v.hand { memo = false } }) c.turn.ensures.same.1)
