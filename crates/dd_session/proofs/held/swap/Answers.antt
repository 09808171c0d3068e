use Rattle.std.proofs.Common.{ap, subst, sym, ◌+◌, ◌<◌, ◌∙◌}
use Rattle.dd_session.specs.Sessions.{Seen}
use Rattle.dd_session.specs.Turns.{HasPlace, levels_in}
use Rattle.dd_session.proofs.AtRest.{freed_then, idle_freed, idle_still, keeps_still, kept_then, seen_still}
use Rattle.dd_session.specs.Reorderings.{SwapsLevels}
use Rattle.seat_guard.specs.declared.view.Draws.{Draws}
use Rattle.seat_guard.specs.declared.view.Counts.{Counts}
use Rattle.dd_session.proofs.held.swap.Goals as goal

pub order_wait-hold-requires : goal.order_wait-hold-requires
order_wait-hold-requires g c = ((c.requires.idle.0, c.requires.idle.1), c.requires.unshared)

pub swap_at-done-requires-clause-idle : goal.swap_at-done-requires-clause-idle
swap_at-done-requires-clause-idle g c = idle_still c.args.guard.now c.args.pass c.full_wait-hold.result.pass c.requires.idle.0 c.full_wait-hold.ensures.0.0.0 (kept_then c.args.pass c.order_wait-hold.result.pass c.full_wait-hold.result.pass c.order_wait-hold.ensures.1 c.full_wait-hold.ensures.1) c.requires.idle

pub swap_at-done-requires-clause-keeps : goal.swap_at-done-requires-clause-keeps
swap_at-done-requires-clause-keeps g c = keeps_still c.args.guard.now c.args.pass c.full_wait-hold.result.pass c.requires.idle.0 c.full_wait-hold.ensures.0.0.0 (kept_then c.args.pass c.order_wait-hold.result.pass c.full_wait-hold.result.pass c.order_wait-hold.ensures.1 c.full_wait-hold.ensures.1).0 c.args.book.now c.requires.keeps

pub swap_at-done-requires-clause-place : goal.swap_at-done-requires-clause-place
swap_at-done-requires-clause-place g c = subst HasPlace (sym (kept_then c.args.pass c.order_wait-hold.result.pass c.full_wait-hold.result.pass c.order_wait-hold.ensures.1 c.full_wait-hold.ensures.1).0) c.requires.place

pub swap_at-done-requires-clause-level : goal.swap_at-done-requires-clause-level
swap_at-done-requires-clause-level g c = subst (λ (d : Draws). c.args.level + 1 < levels_in d c.args.order) (sym (kept_then c.args.pass c.order_wait-hold.result.pass c.full_wait-hold.result.pass c.order_wait-hold.ensures.1 c.full_wait-hold.ensures.1).0) c.requires.level

pub returns-clause-idle : goal.returns-clause-idle
returns-clause-idle g c = idle_freed c.args.guard.now c.swap_at-done.new.pass c.order_out.result c.swap_at-done.ensures.idle.0 c.order_out.ensures.0.0.0 (freed_then c.swap_at-done.new.pass c.full_out-hold.result.pass c.order_out.result c.full_out-hold.ensures.1 c.order_out.ensures.1 c.full_out-hold.result.held) c.swap_at-done.ensures.idle

pub returns-clause-keeps : goal.returns-clause-keeps
returns-clause-keeps g c = keeps_still c.args.guard.now c.swap_at-done.new.pass c.order_out.result c.swap_at-done.ensures.idle.0 c.order_out.ensures.0.0.0 (freed_then c.swap_at-done.new.pass c.full_out-hold.result.pass c.order_out.result c.full_out-hold.ensures.1 c.order_out.ensures.1 c.full_out-hold.result.held).0 c.swap_at-done.new.book c.swap_at-done.ensures.keeps

pub returns-clause-swaps : goal.returns-clause-swaps
returns-clause-swaps g c = subst (λ (z : Seen × Seen). SwapsLevels c.args.order c.args.level z.0 z.1 c.swap_at-done.result) (λ i. (seen_still c.args.guard.now c.args.pass c.full_wait-hold.result.pass c.requires.idle.0 c.full_wait-hold.ensures.0.0.0 (kept_then c.args.pass c.order_wait-hold.result.pass c.full_wait-hold.result.pass c.order_wait-hold.ensures.1 c.full_wait-hold.ensures.1).0 c.args.book.now i, sym (seen_still c.args.guard.now c.swap_at-done.new.pass c.order_out.result c.swap_at-done.ensures.idle.0 c.order_out.ensures.0.0.0 (freed_then c.swap_at-done.new.pass c.full_out-hold.result.pass c.order_out.result c.full_out-hold.ensures.1 c.order_out.ensures.1 c.full_out-hold.result.held).0 c.swap_at-done.new.book) i)) c.swap_at-done.ensures.swaps

pub order_out-requires-clause-pins : goal.order_out-requires-clause-pins
order_out-requires-clause-pins g c = ap (λ (z : Counts). z.pins) c.full_out-hold.ensures.1.2 ∙ c.swap_at-done.ensures.idle.4.pins

pub swap_at-done-requires-clause-hold : goal.swap_at-done-requires-clause-hold
swap_at-done-requires-clause-hold g c = c.full_wait-hold.result.held.0
