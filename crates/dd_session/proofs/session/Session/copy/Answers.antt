use Rattle.std.proofs.Common.{◌≤◌, ap, subst, sym, ◌∙◌}
use Rattle.function_laws.specs.declared.history.Call.TheVariants as calls
use Rattle.function_laws.specs.declared.history.Reply.TheVariants as replies
use Rattle.dd_session.specs.Sessions.{Called, HasRoom, IsLive, Seen}
use Rattle.dd_session.specs.Turns.{seen_of}
use Rattle.dd_session.proofs.AtRest.{has_seat, idle_at, ready_at, rests, seen_at, unshared_still}
use Rattle.dd_session.proofs.session.Session.copy.Goals as goal

pub take_seat-pass-requires : goal.take_seat-pass-requires
take_seat-pass-requires c = has_seat c.self.inside.seat c.self.inside.book c.self.invariant

pub copy-placed-requires-clause-idle : goal.copy-placed-requires-clause-idle
copy-placed-requires-clause-idle c = idle_at c.self.inside.seat c.take_seat-pass.result c.self.inside.book c.take_seat-pass.ensures c.manager.inside.guard c.manager.inside.closing c.self.invariant c.self.view_is c.requires.own c.manager.view_is

pub copy-placed-requires-clause-keeps : goal.copy-placed-requires-clause-keeps
copy-placed-requires-clause-keeps c = (ready_at c.self.inside.seat c.take_seat-pass.result c.self.inside.book c.take_seat-pass.ensures c.self.invariant).1

pub copy-placed-requires-clause-place : goal.copy-placed-requires-clause-place
copy-placed-requires-clause-place c = subst HasRoom (sym (seen_at c.self.inside.seat c.take_seat-pass.result c.self.inside.book c.take_seat-pass.ensures c.self.view_is)) c.requires.room

pub copy-placed-requires-clause-spare : goal.copy-placed-requires-clause-spare
copy-placed-requires-clause-spare c = subst (λ (s : Seen). 1 ≤ s.spare) (sym (seen_at c.self.inside.seat c.take_seat-pass.result c.self.inside.book c.take_seat-pass.ensures c.self.view_is)) c.requires.spare

pub copy-placed-requires-clause-live : goal.copy-placed-requires-clause-live
copy-placed-requires-clause-live c = subst (λ (s : Seen). IsLive s c.args.h) (sym (seen_at c.self.inside.seat c.take_seat-pass.result c.self.inside.book c.take_seat-pass.ensures c.self.view_is)) c.requires.live

pub invariant_of-self : goal.invariant_of-self
invariant_of-self c = (rests c.manager.inside.guard c.copy-placed.new.pass c.copy-placed.ensures.idle (unshared_still _ _ c.copy-placed.ensures.stands (ready_at c.self.inside.seat c.take_seat-pass.result c.self.inside.book c.take_seat-pass.ensures c.self.invariant).0.3), c.copy-placed.ensures.keeps)

pub returns-clause-told : goal.returns-clause-told
returns-clause-told c = subst (λ (s : Seen). Called s (seen_of c.copy-placed.new.pass c.copy-placed.new.book) (calls.Copy c.args.h) (replies.Made c.copy-placed.result.value) c.copy-placed.result.place) (seen_at c.self.inside.seat c.take_seat-pass.result c.self.inside.book c.take_seat-pass.ensures c.self.view_is) c.copy-placed.ensures.told

pub returns-clause-spare : goal.returns-clause-spare
returns-clause-spare c = c.copy-placed.ensures.spare ∙ ap (λ (s : Seen). s.spare) (seen_at c.self.inside.seat c.take_seat-pass.result c.self.inside.book c.take_seat-pass.ensures c.self.view_is)
