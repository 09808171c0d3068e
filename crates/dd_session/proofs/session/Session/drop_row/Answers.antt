use Rattle.std.proofs.Common.{◌+◌, ap, length, subst, sym, ◌∙◌}
use Rattle.function_laws.specs.declared.history.Call.TheVariants as calls
use Rattle.function_laws.specs.declared.history.Reply.TheVariants as replies
use Rattle.dd_session.specs.Sessions.{Called, HasRoom, IsLive, Seen}
use Rattle.dd_session.specs.Turns.{seen_of}
use Rattle.dd_session.proofs.AtRest.{has_seat, idle_at, ready_at, rests, seen_at, unshared_still}
use Rattle.dd_session.proofs.session.Session.drop_row.Goals as goal

pub take_seat-pass-requires : goal.take_seat-pass-requires
take_seat-pass-requires c = has_seat c.self.inside.seat c.self.inside.book c.self.invariant

pub drop_row-placed-requires-clause-idle : goal.drop_row-placed-requires-clause-idle
drop_row-placed-requires-clause-idle c = idle_at c.self.inside.seat c.take_seat-pass.result c.self.inside.book c.take_seat-pass.ensures c.manager.inside.guard c.manager.inside.closing c.self.invariant c.self.view_is c.requires.own c.manager.view_is

pub drop_row-placed-requires-clause-keeps : goal.drop_row-placed-requires-clause-keeps
drop_row-placed-requires-clause-keeps c = (ready_at c.self.inside.seat c.take_seat-pass.result c.self.inside.book c.take_seat-pass.ensures c.self.invariant).1

pub drop_row-placed-requires-clause-place : goal.drop_row-placed-requires-clause-place
drop_row-placed-requires-clause-place c = subst HasRoom (sym (seen_at c.self.inside.seat c.take_seat-pass.result c.self.inside.book c.take_seat-pass.ensures c.self.view_is)) c.requires.room

pub drop_row-placed-requires-clause-live : goal.drop_row-placed-requires-clause-live
drop_row-placed-requires-clause-live c = subst (λ (s : Seen). IsLive s c.args.h) (sym (seen_at c.self.inside.seat c.take_seat-pass.result c.self.inside.book c.take_seat-pass.ensures c.self.view_is)) c.requires.live

pub invariant_of-self : goal.invariant_of-self
invariant_of-self c = (rests c.manager.inside.guard c.drop_row-placed.new.pass c.drop_row-placed.ensures.idle (unshared_still _ _ c.drop_row-placed.ensures.stands (ready_at c.self.inside.seat c.take_seat-pass.result c.self.inside.book c.take_seat-pass.ensures c.self.invariant).0.3), c.drop_row-placed.ensures.keeps)

pub returns-clause-told : goal.returns-clause-told
returns-clause-told c = subst (λ (s : Seen). Called s (seen_of c.drop_row-placed.new.pass c.drop_row-placed.new.book) (calls.DropRow c.args.h) replies.Done c.drop_row-placed.result.place) (seen_at c.self.inside.seat c.take_seat-pass.result c.self.inside.book c.take_seat-pass.ensures c.self.view_is) c.drop_row-placed.ensures.told

pub returns-clause-fewer : goal.returns-clause-fewer
returns-clause-fewer c = c.drop_row-placed.ensures.fewer ∙ ap (λ (s : Seen). length s.rows) (seen_at c.self.inside.seat c.take_seat-pass.result c.self.inside.book c.take_seat-pass.ensures c.self.view_is)

pub returns-clause-spare : goal.returns-clause-spare
returns-clause-spare c = c.drop_row-placed.ensures.spare ∙ ap (λ (s : Seen). s.spare + 1) (seen_at c.self.inside.seat c.take_seat-pass.result c.self.inside.book c.take_seat-pass.ensures c.self.view_is)
