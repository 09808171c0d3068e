use Rattle.std.proofs.Common.{◌+◌, ◌<◌, subst, sym, arith}
use Rattle.dd_session.specs.Reorderings.{SwapsLevels, levels_of}
use Rattle.dd_session.specs.Sessions.{HasRoom, Seen}
use Rattle.dd_session.specs.Turns.{seen_of}
use Rattle.seat_guard.specs.Passes.{known}
use Rattle.dd_session.proofs.Swappings.{levels_known}
use Rattle.dd_session.proofs.AtRest.{has_seat, idle_at, ready_at, rests, seen_at}
use Rattle.dd_session.proofs.session.Session.swap_levels.Goals as goal

pub take_seat-pass-requires : goal.take_seat-pass-requires
take_seat-pass-requires g c = has_seat c.self.inside.seat c.self.inside.book c.self.invariant

pub swap-pass-requires-clause-idle : goal.swap-pass-requires-clause-idle
swap-pass-requires-clause-idle g c = idle_at c.self.inside.seat c.take_seat-pass.result c.self.inside.book c.take_seat-pass.ensures c.manager.inside.guard c.manager.inside.closing c.self.invariant c.self.view_is c.requires.own c.manager.view_is

pub swap-pass-requires-clause-unshared : goal.swap-pass-requires-clause-unshared
swap-pass-requires-clause-unshared g c = (ready_at c.self.inside.seat c.take_seat-pass.result c.self.inside.book c.take_seat-pass.ensures c.self.invariant).0.3

pub swap-pass-requires-clause-keeps : goal.swap-pass-requires-clause-keeps
swap-pass-requires-clause-keeps g c = (ready_at c.self.inside.seat c.take_seat-pass.result c.self.inside.book c.take_seat-pass.ensures c.self.invariant).1

pub swap-pass-requires-clause-place : goal.swap-pass-requires-clause-place
swap-pass-requires-clause-place g c = subst HasRoom (sym (seen_at c.self.inside.seat c.take_seat-pass.result c.self.inside.book c.take_seat-pass.ensures c.self.view_is)) c.requires.room

pub swap-pass-requires-clause-level : goal.swap-pass-requires-clause-level
swap-pass-requires-clause-level g c = let asked = subst (λ (s : Seen). c.args.level + 1 < levels_of s c.args.order) (sym (seen_at c.self.inside.seat c.take_seat-pass.result c.self.inside.book c.take_seat-pass.ensures c.self.view_is)) c.requires.level in let known_as = levels_known c.take_seat-pass.result.seat.table_id (known c.take_seat-pass.result) c.self.inside.book.rows.spare c.args.order in omega (arith, asked, known_as)

pub invariant_of-self : goal.invariant_of-self
invariant_of-self g c = (rests c.manager.inside.guard c.swap-pass.result.0 c.swap-pass.ensures.idle c.swap-pass.ensures.unshared, c.swap-pass.ensures.keeps)

pub returns : goal.returns
returns g c = subst (λ (s : Seen). SwapsLevels c.args.order c.args.level s (seen_of c.swap-pass.result.0 c.swap-pass.new.book) c.swap-pass.result.1) (seen_at c.self.inside.seat c.take_seat-pass.result c.self.inside.book c.take_seat-pass.ensures c.self.view_is) c.swap-pass.ensures.swaps
