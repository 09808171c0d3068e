use Rattle.std.proofs.Common.{Some, ap, inr, subst, sym, ◌∙◌}
use Rattle.dd_session.specs.Sessions.{Seen}
use Rattle.dd_session.specs.Turns.{HasPlace, seen_of}
use Rattle.dd_session.proofs.AtRest.{freed_then, idle_freed, idle_still, keeps_still, kept_then, seen_still}
use Rattle.std.specs.Prelude.{IfSome}
use Rattle.operator_calls.specs.Taking.{of_lent}
use Rattle.dd_session.specs.MadeRows.{HasTaken, MakesOrTells, by_edges}
use Rattle.seat_guard.specs.declared.view.Draws.{Draws}
use Rattle.seat_guard.specs.declared.view.Counts.{Counts}
use Rattle.dd_session.proofs.held.make_last.Goals as goal

pub order_wait-hold-requires : goal.order_wait-hold-requires
order_wait-hold-requires g c = ((c.requires.idle.0, c.requires.idle.1), c.requires.unshared)

pub make_once-requires-clause-idle : goal.make_once-requires-clause-idle
make_once-requires-clause-idle g c = idle_still c.args.guard.now c.args.pass c.full_wait-hold.result.pass c.requires.idle.0 c.full_wait-hold.ensures.0.0.0 (kept_then c.args.pass c.order_wait-hold.result.pass c.full_wait-hold.result.pass c.order_wait-hold.ensures.1 c.full_wait-hold.ensures.1) c.requires.idle

pub make_once-requires-clause-keeps : goal.make_once-requires-clause-keeps
make_once-requires-clause-keeps g c = keeps_still c.args.guard.now c.args.pass c.full_wait-hold.result.pass c.requires.idle.0 c.full_wait-hold.ensures.0.0.0 (kept_then c.args.pass c.order_wait-hold.result.pass c.full_wait-hold.result.pass c.order_wait-hold.ensures.1 c.full_wait-hold.ensures.1).0 c.args.book.now c.requires.keeps

pub make_once-requires-clause-place : goal.make_once-requires-clause-place
make_once-requires-clause-place g c = subst HasPlace (sym (kept_then c.args.pass c.order_wait-hold.result.pass c.full_wait-hold.result.pass c.order_wait-hold.ensures.1 c.full_wait-hold.ensures.1).0) c.requires.place

pub make_once-requires-clause-can : goal.make_once-requires-clause-can
make_once-requires-clause-can g c = subst (λ (s : Seen). HasTaken s (of_lent c.args.making)) (sym (seen_still c.args.guard.now c.args.pass c.full_wait-hold.result.pass c.requires.idle.0 c.full_wait-hold.ensures.0.0.0 (kept_then c.args.pass c.order_wait-hold.result.pass c.full_wait-hold.result.pass c.order_wait-hold.ensures.1 c.full_wait-hold.ensures.1).0 c.args.book.now)) c.requires.can

pub make_once-requires-clause-same : goal.make_once-requires-clause-same
make_once-requires-clause-same g c = c.requires.same ∙ ap (λ (d : Draws). by_edges d.rows (of_lent c.args.making)) (sym (kept_then c.args.pass c.order_wait-hold.result.pass c.full_wait-hold.result.pass c.order_wait-hold.ensures.1 c.full_wait-hold.ensures.1).0)

pub returns-clause-idle : goal.returns-clause-idle
returns-clause-idle g c = idle_freed c.args.guard.now c.make_once.new.pass c.order_out.result c.make_once.ensures.idle.0 c.order_out.ensures.0.0.0 (freed_then c.make_once.new.pass c.full_out-hold.result.pass c.order_out.result c.full_out-hold.ensures.1 c.order_out.ensures.1 c.full_out-hold.result.held) c.make_once.ensures.idle

pub returns-clause-keeps : goal.returns-clause-keeps
returns-clause-keeps g c = keeps_still c.args.guard.now c.make_once.new.pass c.order_out.result c.make_once.ensures.idle.0 c.order_out.ensures.0.0.0 (freed_then c.make_once.new.pass c.full_out-hold.result.pass c.order_out.result c.full_out-hold.ensures.1 c.order_out.ensures.1 c.full_out-hold.result.held).0 c.make_once.new.book c.make_once.ensures.keeps

pub returns-clause-made : goal.returns-clause-made
returns-clause-made g c = subst (λ (z : Seen × Seen). IfSome (Some c.in-Some.made) (MakesOrTells z.0 z.1 (of_lent c.args.making))) (λ i. (seen_still c.args.guard.now c.args.pass c.full_wait-hold.result.pass c.requires.idle.0 c.full_wait-hold.ensures.0.0.0 (kept_then c.args.pass c.order_wait-hold.result.pass c.full_wait-hold.result.pass c.order_wait-hold.ensures.1 c.full_wait-hold.ensures.1).0 c.args.book.now i, sym (seen_still c.args.guard.now c.make_once.new.pass c.order_out.result c.make_once.ensures.idle.0 c.order_out.ensures.0.0.0 (freed_then c.make_once.new.pass c.full_out-hold.result.pass c.order_out.result c.full_out-hold.ensures.1 c.order_out.ensures.1 c.full_out-hold.result.held).0 c.make_once.new.book) i)) (subst (λ o. IfSome o (MakesOrTells (seen_of c.full_wait-hold.result.pass c.args.book.now) (seen_of c.make_once.new.pass c.make_once.new.book) (of_lent c.args.making))) c.in-Some.is c.make_once.ensures.made)

pub order_out-requires-clause-pins : goal.order_out-requires-clause-pins
order_out-requires-clause-pins g c = ap (λ (z : Counts). z.pins) c.full_out-hold.ensures.1.2 ∙ c.make_once.ensures.idle.4.pins

pub make_once-requires-clause-may : goal.make_once-requires-clause-may
make_once-requires-clause-may g c = inr c.full_wait-hold.result.held.1

pub make_once-requires-clause-hold : goal.make_once-requires-clause-hold
make_once-requires-clause-hold g c = λ _. c.full_wait-hold.result.held.0
