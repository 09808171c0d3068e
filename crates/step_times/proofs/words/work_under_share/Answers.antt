use Rattle.std.proofs.Common.{ap, ◌∙◌, arith}
use Rattle.words_rule.specs.Passes.{view}
use Rattle.step_times.proofs.Lists.{table_in}
use Rattle.step_times.proofs.words.work_under_share.Goals as goal

pub stepper-seat-requires-clause-few : goal.stepper-seat-requires-clause-few
stepper-seat-requires-clause-few g c = let same = ap (λ w. w.fulls) c.op_wait-share.ensures.1.0.0.work in let none = c.requires.ready.fulls in omega (arith, same, none)

pub stepper-seat-requires-clause-idle : goal.stepper-seat-requires-clause-idle
stepper-seat-requires-clause-idle g c = let h = c.op_wait-share.ensures.1.0.0.hand in (ap (λ x. x.levels) h ∙ c.requires.ready.back.settled.levels, ap (λ x. x.free) h ∙ c.requires.ready.back.settled.free, ap (λ x. x.link) h ∙ c.requires.ready.link, ap (λ x. x.memo) h ∙ c.requires.ready.back.settled.memo)

pub op_out-requires : goal.op_out-requires
op_out-requires g c =
    let i = c.into_share-share.ensures.share in
    let first = c.stepper-seat.ensures.own.1 in
    let home = c.work_at_home-seat.ensures.home in
    let share = c.op_wait-share.ensures.0 in
    let table = ap (λ p. p.seat.table_id) i.2 ∙ ap table_in home ∙ ap (λ p. p.seat.table_id) first ∙ share.0.0 in
    let shares = ap (λ p. (view p).shares) i.2 ∙ ap (λ b. b.shares) home ∙ ap (λ p. (view p).shares) first in
    ((table, i.0.1), ap (λ x. x.walk) shares ∙ share.1, ap (λ x. x.order) shares ∙ share.2, ap (λ x. x.full) shares ∙ share.3, i.1)
