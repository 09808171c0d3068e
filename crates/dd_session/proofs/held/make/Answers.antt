use Rattle.std.proofs.Common.{Some, ap, inl, refl, subst, sym, true≢false, ◌∙◌}
use Rattle.std.specs.Prelude.{IfSome}
use Rattle.operator_calls.specs.Taking.{of_lent}
use Rattle.seat_guard.specs.declared.view.Draws.{Draws}
use Rattle.dd_session.specs.MadeRows.{HasTaken, MakesOrTells, by_edges}
use Rattle.dd_session.specs.Sessions.{Seen}
use Rattle.dd_session.specs.Turns.{HasPlace, seen_of}
use Rattle.dd_session.proofs.AtRest.{idle_still, keeps_still, seen_still}
use Rattle.dd_session.proofs.Awaiting.{makes_later}
use Rattle.dd_session.proofs.held.make.Goals as goal

pub op_wait-share-requires : goal.op_wait-share-requires
op_wait-share-requires g c = ((c.requires.idle.0, c.requires.idle.1), c.requires.unshared)

pub make_once-made-requires-clause-idle : goal.make_once-made-requires-clause-idle
make_once-made-requires-clause-idle g c = idle_still c.args.guard.now c.args.pass c.op_wait-share.result.pass c.requires.idle.0 c.op_wait-share.ensures.0.0.0 c.op_wait-share.ensures.1 c.requires.idle

pub make_once-made-requires-clause-keeps : goal.make_once-made-requires-clause-keeps
make_once-made-requires-clause-keeps g c = keeps_still c.args.guard.now c.args.pass c.op_wait-share.result.pass c.requires.idle.0 c.op_wait-share.ensures.0.0.0 c.op_wait-share.ensures.1.0 c.args.book.now c.requires.keeps

pub make_once-made-requires-clause-place : goal.make_once-made-requires-clause-place
make_once-made-requires-clause-place g c = subst HasPlace (sym c.op_wait-share.ensures.1.0) c.requires.place

pub make_once-made-requires-clause-can : goal.make_once-made-requires-clause-can
make_once-made-requires-clause-can g c = subst (λ (s : Seen). HasTaken s (of_lent c.args.making)) (sym (seen_still c.args.guard.now c.args.pass c.op_wait-share.result.pass c.requires.idle.0 c.op_wait-share.ensures.0.0.0 c.op_wait-share.ensures.1.0 c.args.book.now)) c.requires.can

pub make_once-made-requires-clause-same : goal.make_once-made-requires-clause-same
make_once-made-requires-clause-same g c = c.requires.same ∙ ap (λ (d : Draws). by_edges d.rows (of_lent c.args.making)) (sym c.op_wait-share.ensures.1.0)

pub returns-in-Some-clause-idle : goal.returns-in-Some-clause-idle
returns-in-Some-clause-idle g c = idle_still c.args.guard.now c.make_once-made.new.pass c.op_out-pass.result c.make_once-made.ensures.idle.0 c.op_out-pass.ensures.0.0.0 c.op_out-pass.ensures.1 (let i = c.make_once-made.ensures.idle in (i.0, i.1, i.2, i.3, (i.4, c.make_once-made.ensures.first refl)))

pub returns-in-Some-clause-keeps : goal.returns-in-Some-clause-keeps
returns-in-Some-clause-keeps g c = keeps_still c.args.guard.now c.make_once-made.new.pass c.op_out-pass.result c.make_once-made.ensures.idle.0 c.op_out-pass.ensures.0.0.0 c.op_out-pass.ensures.1.0 c.make_once-made.new.book c.make_once-made.ensures.keeps

pub returns-in-Some-clause-made : goal.returns-in-Some-clause-made
returns-in-Some-clause-made g c = subst (λ (z : Seen × Seen). IfSome (Some c.in-Some.made) (MakesOrTells z.0 z.1 (of_lent c.args.making))) (λ i. (seen_still c.args.guard.now c.args.pass c.op_wait-share.result.pass c.requires.idle.0 c.op_wait-share.ensures.0.0.0 c.op_wait-share.ensures.1.0 c.args.book.now i, sym (seen_still c.args.guard.now c.make_once-made.new.pass c.op_out-pass.result c.make_once-made.ensures.idle.0 c.op_out-pass.ensures.0.0.0 c.op_out-pass.ensures.1.0 c.make_once-made.new.book) i)) (subst (λ o. IfSome o (MakesOrTells (seen_of c.op_wait-share.result.pass c.args.book.now) (seen_of c.make_once-made.new.pass c.make_once-made.new.book) (of_lent c.args.making))) c.in-Some.is c.make_once-made.ensures.made)

pub make_last-requires-clause-can : goal.make_last-requires-clause-can
make_last-requires-clause-can g c =
    let waits = c.in-None.ensures.waits in
    let first = seen_still c.args.guard.now c.args.pass c.op_wait-share.result.pass c.requires.idle.0 c.op_wait-share.ensures.0.0.0 c.op_wait-share.ensures.1.0 c.args.book.now in
    let last = seen_still c.args.guard.now c.make_once-made.new.pass c.op_out-pass.result c.make_once-made.ensures.idle.0 c.op_out-pass.ensures.0.0.0 c.op_out-pass.ensures.1.0 c.make_once-made.new.book in
    subst (λ (s : Seen). HasTaken s (of_lent c.args.making)) (sym last)
    (subst (λ (s : Seen). HasTaken s (of_lent c.args.making)) (sym waits.1.0.0) (subst (λ (s : Seen). HasTaken s (of_lent c.args.making)) (sym first) c.requires.can))

pub returns-in-None-clause-made : goal.returns-in-None-clause-made
returns-in-None-clause-made g c =
    let making = of_lent c.args.making in
    let waits = c.in-None.ensures.waits in
    let first = seen_still c.args.guard.now c.args.pass c.op_wait-share.result.pass c.requires.idle.0 c.op_wait-share.ensures.0.0.0 c.op_wait-share.ensures.1.0 c.args.book.now in
    let last = seen_still c.args.guard.now c.make_once-made.new.pass c.op_out-pass.result c.make_once-made.ensures.idle.0 c.op_out-pass.ensures.0.0.0 c.op_out-pass.ensures.1.0 c.make_once-made.new.book in
    let now = seen_of c.make_last.result.0 c.make_last.new.book in
    let made = subst (λ (s : Seen). MakesOrTells s now making c.make_last.result.1) last c.make_last.ensures.made in
    subst (λ (s : Seen). MakesOrTells s now making c.make_last.result.1) first
    (makes_later (seen_of c.op_wait-share.result.pass c.args.book.now) (seen_of c.make_once-made.new.pass c.make_once-made.new.book) now making c.make_last.result.1 waits.1 made)

pub make_once-made-requires-clause-may : goal.make_once-made-requires-clause-may
make_once-made-requires-clause-may g c = inl c.op_wait-share.result.held

pub make_once-made-requires-clause-hold : goal.make_once-made-requires-clause-hold
make_once-made-requires-clause-hold g c = λ last. absurd (true≢false (sym last))

pub make_last-requires-clause-idle : goal.make_last-requires-clause-idle
make_last-requires-clause-idle g c = idle_still c.args.guard.now c.make_once-made.new.pass c.op_out-pass.result c.make_once-made.ensures.idle.0 c.op_out-pass.ensures.0.0.0 c.op_out-pass.ensures.1 (let i = c.make_once-made.ensures.idle in (i.0, i.1, i.2, i.3, (i.4, c.make_once-made.ensures.first refl)))
