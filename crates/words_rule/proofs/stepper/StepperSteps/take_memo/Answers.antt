use Rattle.node_slots.specs.Stores.{lent_room}
use Rattle.std.proofs.Common.{ap, sym, ◌∙◌, subst}
use Rattle.step_store.specs.Knowing.{Learns}
use Rattle.atomic_table.specs.Table.{turned}
use Rattle.words_rule.specs.Loads.{LearntMemo}
use Rattle.words_rule.specs.Known.{known_of, own_of}
use Rattle.words_rule.specs.Passes.{view}
use Rattle.words_rule.specs.declared.view.View.{View}
use Rattle.words_rule.specs.Steppers.{knows}
use Rattle.words_rule.proofs.Steppers.{memo_taken_on, not_some, own_same, same_on}
use Rattle.words_rule.proofs.stepper.StepperSteps.take_memo.Goals as goal

pub returns-in-Some-clause-own : goal.returns-in-Some-clause-own
returns-in-Some-clause-own g c =
    let s = c.args.self.now in
    let e = c.in-Some.ensures.taken in
    let t = c.turn.ensures in
    memo_taken_on g.S.Content.free_slots g.S.Content.memo s.guard.now s.pass c.turn.new.self s.free s.memo (lent_room s.scratch) c.requires.own (t.same.0 ∙ c.take_memo.ensures.own) c.in-Some.content (not_some s.memo (sym c.is_some.ensures ∙ c.if-is_some.false))
    (subst (λ (v : View). LearntMemo (own_of (view s.pass) (lent_room s.scratch)) (g.S.Content.memo c.in-Some.content) (view s.pass) v) (sym t.same.1) e.0) (t.turned ∙ ap turned e.1)

pub returns-in-Some-clause-learns : goal.returns-in-Some-clause-learns
returns-in-Some-clause-learns g c =
    let s = c.args.self.now in
    let e = c.in-Some.ensures.taken.0 in
    subst (λ (v : View). Learns (knows (view s.pass) (lent_room s.scratch)) (knows v (lent_room s.scratch))) (sym c.turn.ensures.same.1)
    (subst (λ o. Learns (knows (view s.pass) (lent_room s.scratch)) (known_of (view c.take_memo.new.pass) o)) (sym (own_same (view s.pass) (view c.take_memo.new.pass) (lent_room s.scratch) e.work e.seat.draws)) e.learns)

pub returns-in-None-clause-own : goal.returns-in-None-clause-own
returns-in-None-clause-own g c = let s = c.args.self.now in same_on g.S.Content.free_slots g.S.Content.memo s.guard.now s.pass c.take_memo.new.pass s.free s.memo (lent_room s.scratch) c.requires.own c.take_memo.ensures.own c.in-None.ensures.missed
