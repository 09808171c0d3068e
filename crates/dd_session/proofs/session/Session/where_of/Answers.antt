use Rattle.std.proofs.Common.{ap₂, subst, sym, ◌∙◌}
use Rattle.seat_guard.specs.declared.view.Draws.{Draws}
use Rattle.dd_session.specs.Sessions.{IsLive, LeadsTo, Seen}
use Rattle.dd_session.specs.Turns.{Keeps, seen_by}
use Rattle.dd_session.proofs.AtRest.{has_seat, idle_at, ready_at, rests, seen_at, unshared_still}
use Rattle.dd_session.proofs.session.Session.where_of.Goals as goal

pub take_seat-pass-requires : goal.take_seat-pass-requires
take_seat-pass-requires c = has_seat c.self.inside.seat c.self.inside.book c.self.invariant

pub where_of-place-requires-clause-idle : goal.where_of-place-requires-clause-idle
where_of-place-requires-clause-idle c = idle_at c.self.inside.seat c.take_seat-pass.result c.self.inside.book c.take_seat-pass.ensures c.manager.inside.guard c.manager.inside.closing c.self.invariant c.self.view_is c.requires.own c.manager.view_is

pub where_of-place-requires-clause-keeps : goal.where_of-place-requires-clause-keeps
where_of-place-requires-clause-keeps c = (ready_at c.self.inside.seat c.take_seat-pass.result c.self.inside.book c.take_seat-pass.ensures c.self.invariant).1

pub where_of-place-requires-clause-live : goal.where_of-place-requires-clause-live
where_of-place-requires-clause-live c = subst (λ (s : Seen). IsLive s c.args.h) (sym (seen_at c.self.inside.seat c.take_seat-pass.result c.self.inside.book c.take_seat-pass.ensures c.self.view_is)) c.requires.live

pub invariant_of-self : goal.invariant_of-self
invariant_of-self c = (rests c.manager.inside.guard c.where_of-place.new.pass c.where_of-place.ensures.idle (unshared_still _ _ c.where_of-place.ensures.stands (ready_at c.self.inside.seat c.take_seat-pass.result c.self.inside.book c.take_seat-pass.ensures c.self.invariant).0.3), subst (λ (d : Draws). Keeps d c.self.inside.book) (sym c.where_of-place.ensures.same) (ready_at c.self.inside.seat c.take_seat-pass.result c.self.inside.book c.take_seat-pass.ensures c.self.invariant).1)

pub returns-clause-same : goal.returns-clause-same
returns-clause-same c =
    ap₂ (λ t d. seen_by t d c.self.inside.book.rows.spare) (c.where_of-place.ensures.idle.0 ∙ sym (idle_at c.self.inside.seat c.take_seat-pass.result c.self.inside.book c.take_seat-pass.ensures c.manager.inside.guard c.manager.inside.closing c.self.invariant c.self.view_is c.requires.own c.manager.view_is).0) c.where_of-place.ensures.same
    ∙ seen_at c.self.inside.seat c.take_seat-pass.result c.self.inside.book c.take_seat-pass.ensures c.self.view_is

pub returns-clause-leads : goal.returns-clause-leads
returns-clause-leads c = subst (λ (s : Seen). LeadsTo s.rows c.args.h c.where_of-place.result.0 c.where_of-place.result.1) (seen_at c.self.inside.seat c.take_seat-pass.result c.self.inside.book c.take_seat-pass.ensures c.self.view_is) c.where_of-place.ensures.leads
