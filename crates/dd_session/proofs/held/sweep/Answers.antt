use Rattle.std.proofs.Common.{ap, subst, sym, ◌∙◌}
use Rattle.dd_session.specs.Sessions.{Seen}
use Rattle.dd_session.specs.Turns.{HasPlace}
use Rattle.dd_session.proofs.AtRest.{freed_then, idle_freed, idle_still, keeps_still, kept_then, seen_still}
use Rattle.function_laws.specs.declared.history.Call.TheVariants as calls
use Rattle.function_laws.specs.declared.history.Reply.TheVariants as replies
use Rattle.dd_session.specs.Sessions.{Called}
use Rattle.dd_session.specs.Works.{IsSweepAsked, StoresNothing}
use Rattle.seat_guard.specs.declared.view.Counts.{Counts}
use Rattle.dd_session.proofs.held.sweep.Goals as goal

pub order_wait-hold-requires : goal.order_wait-hold-requires
order_wait-hold-requires g c = ((c.requires.idle.0, c.requires.idle.1), c.requires.unshared)

pub sweep-placed-requires-clause-idle : goal.sweep-placed-requires-clause-idle
sweep-placed-requires-clause-idle g c = idle_still c.args.guard.now c.args.pass c.full_wait-hold.result.pass c.requires.idle.0 c.full_wait-hold.ensures.0.0.0 (kept_then c.args.pass c.order_wait-hold.result.pass c.full_wait-hold.result.pass c.order_wait-hold.ensures.1 c.full_wait-hold.ensures.1) c.requires.idle

pub sweep-placed-requires-clause-keeps : goal.sweep-placed-requires-clause-keeps
sweep-placed-requires-clause-keeps g c = keeps_still c.args.guard.now c.args.pass c.full_wait-hold.result.pass c.requires.idle.0 c.full_wait-hold.ensures.0.0.0 (kept_then c.args.pass c.order_wait-hold.result.pass c.full_wait-hold.result.pass c.order_wait-hold.ensures.1 c.full_wait-hold.ensures.1).0 c.args.book.now c.requires.keeps

pub sweep-placed-requires-clause-place : goal.sweep-placed-requires-clause-place
sweep-placed-requires-clause-place g c = subst HasPlace (sym (kept_then c.args.pass c.order_wait-hold.result.pass c.full_wait-hold.result.pass c.order_wait-hold.ensures.1 c.full_wait-hold.ensures.1).0) c.requires.place

pub returns-clause-idle : goal.returns-clause-idle
returns-clause-idle g c = idle_freed c.args.guard.now c.sweep-placed.new.pass c.order_out.result c.sweep-placed.ensures.idle.0 c.order_out.ensures.0.0.0 (freed_then c.sweep-placed.new.pass c.full_out-hold.result.pass c.order_out.result c.full_out-hold.ensures.1 c.order_out.ensures.1 c.full_out-hold.result.held) c.sweep-placed.ensures.idle

pub returns-clause-keeps : goal.returns-clause-keeps
returns-clause-keeps g c = keeps_still c.args.guard.now c.sweep-placed.new.pass c.order_out.result c.sweep-placed.ensures.idle.0 c.order_out.ensures.0.0.0 (freed_then c.sweep-placed.new.pass c.full_out-hold.result.pass c.order_out.result c.full_out-hold.ensures.1 c.order_out.ensures.1 c.full_out-hold.result.held).0 c.sweep-placed.new.book c.sweep-placed.ensures.keeps

pub returns-clause-told : goal.returns-clause-told
returns-clause-told g c = subst (λ (z : Seen × Seen). Called z.0 z.1 calls.Sweep replies.Done c.sweep-placed.result.place) (λ i. (seen_still c.args.guard.now c.args.pass c.full_wait-hold.result.pass c.requires.idle.0 c.full_wait-hold.ensures.0.0.0 (kept_then c.args.pass c.order_wait-hold.result.pass c.full_wait-hold.result.pass c.order_wait-hold.ensures.1 c.full_wait-hold.ensures.1).0 c.args.book.now i, sym (seen_still c.args.guard.now c.sweep-placed.new.pass c.order_out.result c.sweep-placed.ensures.idle.0 c.order_out.ensures.0.0.0 (freed_then c.sweep-placed.new.pass c.full_out-hold.result.pass c.order_out.result c.full_out-hold.ensures.1 c.order_out.ensures.1 c.full_out-hold.result.held).0 c.sweep-placed.new.book) i)) c.sweep-placed.ensures.told

pub returns-clause-swept : goal.returns-clause-swept
returns-clause-swept g c = subst (λ (z : Seen × Seen). IsSweepAsked z.0 z.1 c.sweep-placed.result.value) (λ i. (seen_still c.args.guard.now c.args.pass c.full_wait-hold.result.pass c.requires.idle.0 c.full_wait-hold.ensures.0.0.0 (kept_then c.args.pass c.order_wait-hold.result.pass c.full_wait-hold.result.pass c.order_wait-hold.ensures.1 c.full_wait-hold.ensures.1).0 c.args.book.now i, sym (seen_still c.args.guard.now c.sweep-placed.new.pass c.order_out.result c.sweep-placed.ensures.idle.0 c.order_out.ensures.0.0.0 (freed_then c.sweep-placed.new.pass c.full_out-hold.result.pass c.order_out.result c.full_out-hold.ensures.1 c.order_out.ensures.1 c.full_out-hold.result.held).0 c.sweep-placed.new.book) i)) c.sweep-placed.ensures.swept

pub returns-clause-stored : goal.returns-clause-stored
returns-clause-stored g c = subst (λ (z : Seen × Seen). StoresNothing z.0 z.1) (λ i. (seen_still c.args.guard.now c.args.pass c.full_wait-hold.result.pass c.requires.idle.0 c.full_wait-hold.ensures.0.0.0 (kept_then c.args.pass c.order_wait-hold.result.pass c.full_wait-hold.result.pass c.order_wait-hold.ensures.1 c.full_wait-hold.ensures.1).0 c.args.book.now i, sym (seen_still c.args.guard.now c.sweep-placed.new.pass c.order_out.result c.sweep-placed.ensures.idle.0 c.order_out.ensures.0.0.0 (freed_then c.sweep-placed.new.pass c.full_out-hold.result.pass c.order_out.result c.full_out-hold.ensures.1 c.order_out.ensures.1 c.full_out-hold.result.held).0 c.sweep-placed.new.book) i)) c.sweep-placed.ensures.stored

pub order_out-requires-clause-pins : goal.order_out-requires-clause-pins
order_out-requires-clause-pins g c = ap (λ (z : Counts). z.pins) c.full_out-hold.ensures.1.2 ∙ c.sweep-placed.ensures.idle.4.pins

pub sweep-placed-requires-clause-hold : goal.sweep-placed-requires-clause-hold
sweep-placed-requires-clause-hold g c = c.full_wait-hold.result.held.0
