use Rattle.std.proofs.Common.{ap, subst, sym, ◌∙◌}
use Rattle.function_laws.specs.declared.history.Call.TheVariants as calls
use Rattle.function_laws.specs.declared.history.Reply.TheVariants as replies
use Rattle.handle_count.specs.RowMaps.{RowMap}
use Rattle.dd_session.specs.Sessions.{Called, HasRoom, IsLive, Seen}
use Rattle.dd_session.specs.Turns.{seen_of}
use Rattle.dd_session.proofs.AtRest.{has_seat, idle_at, ready_at, rests, seen_at}
use Rattle.dd_session.proofs.session.Session.post.Goals as goal

pub take_seat-pass-requires : goal.take_seat-pass-requires
take_seat-pass-requires g c = has_seat c.self.inside.seat c.self.inside.book c.self.invariant

pub post-pass-requires-clause-idle : goal.post-pass-requires-clause-idle
post-pass-requires-clause-idle g c = idle_at c.self.inside.seat c.take_seat-pass.result c.self.inside.book c.take_seat-pass.ensures c.manager.inside.guard c.manager.inside.closing c.self.invariant c.self.view_is c.requires.own c.manager.view_is

pub post-pass-requires-clause-keeps : goal.post-pass-requires-clause-keeps
post-pass-requires-clause-keeps g c = (ready_at c.self.inside.seat c.take_seat-pass.result c.self.inside.book c.take_seat-pass.ensures c.self.invariant).1

pub post-pass-requires-clause-place : goal.post-pass-requires-clause-place
post-pass-requires-clause-place g c = subst HasRoom (sym (seen_at c.self.inside.seat c.take_seat-pass.result c.self.inside.book c.take_seat-pass.ensures c.self.view_is)) c.requires.room

pub post-pass-requires-clause-live : goal.post-pass-requires-clause-live
post-pass-requires-clause-live g c = subst (λ (s : Seen). IsLive s c.args.h) (sym (seen_at c.self.inside.seat c.take_seat-pass.result c.self.inside.book c.take_seat-pass.ensures c.self.view_is)) c.requires.live

pub invariant_of-self : goal.invariant_of-self
invariant_of-self g c = (rests c.manager.inside.guard c.post-pass.result.0 c.post-pass.ensures.idle c.post-pass.ensures.unshared, c.post-pass.ensures.keeps)

pub returns-clause-told : goal.returns-clause-told
returns-clause-told g c = subst (λ (s : Seen). Called s (seen_of c.post-pass.result.0 c.post-pass.new.book) (calls.Post c.args.cell c.args.h) replies.Done c.post-pass.result.1.place) (seen_at c.self.inside.seat c.take_seat-pass.result c.self.inside.book c.take_seat-pass.ensures c.self.view_is) c.post-pass.ensures.told

pub returns-clause-spare : goal.returns-clause-spare
returns-clause-spare g c = ap (λ (r : RowMap). r.spare) c.post-pass.ensures.rows ∙ ap (λ (s : Seen). s.spare) (seen_at c.self.inside.seat c.take_seat-pass.result c.self.inside.book c.take_seat-pass.ensures c.self.view_is)

pub post-pass-requires-clause-unshared : goal.post-pass-requires-clause-unshared
post-pass-requires-clause-unshared g c = (ready_at c.self.inside.seat c.take_seat-pass.result c.self.inside.book c.take_seat-pass.ensures c.self.invariant).0.3
