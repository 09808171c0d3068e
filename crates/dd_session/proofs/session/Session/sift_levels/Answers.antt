use Rattle.std.proofs.Common.{◌≡◌, subst, sym, ◌∙◌}
use Rattle.group_sift.specs.Turns.{last_end}
use Rattle.dd_session.specs.Reorderings.{levels_of}
use Rattle.dd_session.specs.Siftings.{SiftsLevels}
use Rattle.dd_session.specs.Sessions.{HasRoom, Seen}
use Rattle.dd_session.specs.Turns.{seen_of}
use Rattle.seat_guard.specs.Passes.{known}
use Rattle.dd_session.proofs.Swappings.{levels_known}
use Rattle.dd_session.proofs.AtRest.{has_seat, idle_at, ready_at, rests, seen_at}
use Rattle.dd_session.proofs.session.Session.sift_levels.Goals as goal

pub take_seat-pass-requires : goal.take_seat-pass-requires
take_seat-pass-requires g c = has_seat c.self.inside.seat c.self.inside.book c.self.invariant

pub sift-pass-requires-clause-idle : goal.sift-pass-requires-clause-idle
sift-pass-requires-clause-idle g c = idle_at c.self.inside.seat c.take_seat-pass.result c.self.inside.book c.take_seat-pass.ensures c.manager.inside.guard c.manager.inside.closing c.self.invariant c.self.view_is c.requires.own c.manager.view_is

pub sift-pass-requires-clause-unshared : goal.sift-pass-requires-clause-unshared
sift-pass-requires-clause-unshared g c = (ready_at c.self.inside.seat c.take_seat-pass.result c.self.inside.book c.take_seat-pass.ensures c.self.invariant).0.3

pub sift-pass-requires-clause-keeps : goal.sift-pass-requires-clause-keeps
sift-pass-requires-clause-keeps g c = (ready_at c.self.inside.seat c.take_seat-pass.result c.self.inside.book c.take_seat-pass.ensures c.self.invariant).1

pub sift-pass-requires-clause-place : goal.sift-pass-requires-clause-place
sift-pass-requires-clause-place g c = subst HasRoom (sym (seen_at c.self.inside.seat c.take_seat-pass.result c.self.inside.book c.take_seat-pass.ensures c.self.view_is)) c.requires.room

pub sift-pass-requires-clause-end : goal.sift-pass-requires-clause-end
sift-pass-requires-clause-end g c = subst (λ (s : Seen). last_end 0 c.args.blocks.now ≡ levels_of s c.args.order) (sym (seen_at c.self.inside.seat c.take_seat-pass.result c.self.inside.book c.take_seat-pass.ensures c.self.view_is)) c.requires.end ∙ levels_known c.take_seat-pass.result.seat.table_id (known c.take_seat-pass.result) c.self.inside.book.rows.spare c.args.order

pub invariant_of-self : goal.invariant_of-self
invariant_of-self g c = (rests c.manager.inside.guard c.sift-pass.result.0 c.sift-pass.ensures.idle c.sift-pass.ensures.unshared, c.sift-pass.ensures.keeps)

pub returns-clause-sifted : goal.returns-clause-sifted
returns-clause-sifted g c = subst (λ (s : Seen). SiftsLevels c.args.order c.args.blocks.now s (seen_of c.sift-pass.result.0 c.sift-pass.new.book) c.sift-pass.result.1) (seen_at c.self.inside.seat c.take_seat-pass.result c.self.inside.book c.take_seat-pass.ensures c.self.view_is) c.sift-pass.ensures.sifted
