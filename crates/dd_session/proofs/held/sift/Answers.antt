use Rattle.std.proofs.Common.{ap, subst, sym, ◌∙◌, ◌≡◌}
use Rattle.dd_session.specs.Sessions.{Seen}
use Rattle.dd_session.specs.Turns.{HasPlace, levels_in}
use Rattle.dd_session.proofs.AtRest.{freed_then, idle_freed, idle_still, keeps_still, kept_then, seen_still}
use Rattle.dd_session.specs.Siftings.{SiftsLevels}
use Rattle.seat_guard.specs.declared.view.Draws.{Draws}
use Rattle.group_sift.specs.Turns.{last_end}
use Rattle.seat_guard.specs.declared.view.Counts.{Counts}
use Rattle.dd_session.proofs.held.sift.Goals as goal

pub order_wait-hold-requires : goal.order_wait-hold-requires
order_wait-hold-requires g c = ((c.requires.idle.0, c.requires.idle.1), c.requires.unshared)

pub sift_at-placed-requires-clause-idle : goal.sift_at-placed-requires-clause-idle
sift_at-placed-requires-clause-idle g c = idle_still c.args.guard.now c.args.pass c.full_wait-hold.result.pass c.requires.idle.0 c.full_wait-hold.ensures.0.0.0 (kept_then c.args.pass c.order_wait-hold.result.pass c.full_wait-hold.result.pass c.order_wait-hold.ensures.1 c.full_wait-hold.ensures.1) c.requires.idle

pub sift_at-placed-requires-clause-keeps : goal.sift_at-placed-requires-clause-keeps
sift_at-placed-requires-clause-keeps g c = keeps_still c.args.guard.now c.args.pass c.full_wait-hold.result.pass c.requires.idle.0 c.full_wait-hold.ensures.0.0.0 (kept_then c.args.pass c.order_wait-hold.result.pass c.full_wait-hold.result.pass c.order_wait-hold.ensures.1 c.full_wait-hold.ensures.1).0 c.args.book.now c.requires.keeps

pub sift_at-placed-requires-clause-place : goal.sift_at-placed-requires-clause-place
sift_at-placed-requires-clause-place g c = subst HasPlace (sym (kept_then c.args.pass c.order_wait-hold.result.pass c.full_wait-hold.result.pass c.order_wait-hold.ensures.1 c.full_wait-hold.ensures.1).0) c.requires.place

pub sift_at-placed-requires-clause-end : goal.sift_at-placed-requires-clause-end
sift_at-placed-requires-clause-end g c = subst (λ (d : Draws). last_end 0 c.args.blocks.now ≡ levels_in d c.args.order) (sym (kept_then c.args.pass c.order_wait-hold.result.pass c.full_wait-hold.result.pass c.order_wait-hold.ensures.1 c.full_wait-hold.ensures.1).0) c.requires.end

pub returns-clause-idle : goal.returns-clause-idle
returns-clause-idle g c = idle_freed c.args.guard.now c.sift_at-placed.new.pass c.order_out.result c.sift_at-placed.ensures.idle.0 c.order_out.ensures.0.0.0 (freed_then c.sift_at-placed.new.pass c.full_out-hold.result.pass c.order_out.result c.full_out-hold.ensures.1 c.order_out.ensures.1 c.full_out-hold.result.held) c.sift_at-placed.ensures.idle

pub returns-clause-keeps : goal.returns-clause-keeps
returns-clause-keeps g c = keeps_still c.args.guard.now c.sift_at-placed.new.pass c.order_out.result c.sift_at-placed.ensures.idle.0 c.order_out.ensures.0.0.0 (freed_then c.sift_at-placed.new.pass c.full_out-hold.result.pass c.order_out.result c.full_out-hold.ensures.1 c.order_out.ensures.1 c.full_out-hold.result.held).0 c.sift_at-placed.new.book c.sift_at-placed.ensures.keeps

pub returns-clause-sifted : goal.returns-clause-sifted
returns-clause-sifted g c = subst (λ (z : Seen × Seen). SiftsLevels c.args.order c.args.blocks.now z.0 z.1 c.sift_at-placed.result) (λ i. (seen_still c.args.guard.now c.args.pass c.full_wait-hold.result.pass c.requires.idle.0 c.full_wait-hold.ensures.0.0.0 (kept_then c.args.pass c.order_wait-hold.result.pass c.full_wait-hold.result.pass c.order_wait-hold.ensures.1 c.full_wait-hold.ensures.1).0 c.args.book.now i, sym (seen_still c.args.guard.now c.sift_at-placed.new.pass c.order_out.result c.sift_at-placed.ensures.idle.0 c.order_out.ensures.0.0.0 (freed_then c.sift_at-placed.new.pass c.full_out-hold.result.pass c.order_out.result c.full_out-hold.ensures.1 c.order_out.ensures.1 c.full_out-hold.result.held).0 c.sift_at-placed.new.book) i)) c.sift_at-placed.ensures.sifted

pub order_out-requires-clause-pins : goal.order_out-requires-clause-pins
order_out-requires-clause-pins g c = ap (λ (z : Counts). z.pins) c.full_out-hold.ensures.1.2 ∙ c.sift_at-placed.ensures.idle.4.pins

pub sift_at-placed-requires-clause-hold : goal.sift_at-placed-requires-clause-hold
sift_at-placed-requires-clause-hold g c = c.full_wait-hold.result.held.0
