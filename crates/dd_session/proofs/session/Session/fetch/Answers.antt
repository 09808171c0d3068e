use Rattle.std.proofs.Common.{◌≤◌, ap, subst, sym, ◌∙◌}
use Rattle.function_laws.specs.declared.history.Call.TheVariants as calls
use Rattle.function_laws.specs.declared.history.Reply.TheVariants as replies
use Rattle.dd_session.specs.Managing.{is_posted}
use Rattle.dd_session.specs.Sessions.{Called, HasRoom, IsLive, Seen}
use Rattle.dd_session.specs.Turns.{seen_of}
use Rattle.dd_session.proofs.AtRest.{has_seat, idle_at, ready_at, rests, seen_at}
use Rattle.dd_session.proofs.session.Session.fetch.Goals as goal

pub take_seat-pass-requires : goal.take_seat-pass-requires
take_seat-pass-requires g c = has_seat c.self.inside.seat c.self.inside.book c.self.invariant

pub fetch-pass-requires-clause-idle : goal.fetch-pass-requires-clause-idle
fetch-pass-requires-clause-idle g c = idle_at c.self.inside.seat c.take_seat-pass.result c.self.inside.book c.take_seat-pass.ensures c.manager.inside.guard c.manager.inside.closing c.self.invariant c.self.view_is c.requires.own c.manager.view_is

pub fetch-pass-requires-clause-keeps : goal.fetch-pass-requires-clause-keeps
fetch-pass-requires-clause-keeps g c = (ready_at c.self.inside.seat c.take_seat-pass.result c.self.inside.book c.take_seat-pass.ensures c.self.invariant).1

pub fetch-pass-requires-clause-place : goal.fetch-pass-requires-clause-place
fetch-pass-requires-clause-place g c = subst HasRoom (sym (seen_at c.self.inside.seat c.take_seat-pass.result c.self.inside.book c.take_seat-pass.ensures c.self.view_is)) c.requires.room

pub fetch-pass-requires-clause-spare : goal.fetch-pass-requires-clause-spare
fetch-pass-requires-clause-spare g c = subst (λ (s : Seen). 1 ≤ s.spare) (sym (seen_at c.self.inside.seat c.take_seat-pass.result c.self.inside.book c.take_seat-pass.ensures c.self.view_is)) c.requires.spare

pub fetch-pass-requires-clause-live : goal.fetch-pass-requires-clause-live
fetch-pass-requires-clause-live g c = subst (λ (s : Seen). IsLive s c.args.other) (sym (seen_at c.self.inside.seat c.take_seat-pass.result c.self.inside.book c.take_seat-pass.ensures c.self.view_is)) c.requires.live

pub invariant_of-self : goal.invariant_of-self
invariant_of-self g c = (rests c.manager.inside.guard c.fetch-pass.result.0 c.fetch-pass.ensures.idle c.fetch-pass.ensures.unshared, c.fetch-pass.ensures.keeps)

pub returns-clause-told : goal.returns-clause-told
returns-clause-told g c = subst (λ (s : Seen). Called s (seen_of c.fetch-pass.result.0 c.fetch-pass.new.book) (calls.Fetch c.args.cell c.args.other) (replies.Fetched c.fetch-pass.result.1.value.0 (is_posted c.fetch-pass.result.1.value.1)) c.fetch-pass.result.1.place) (seen_at c.self.inside.seat c.take_seat-pass.result c.self.inside.book c.take_seat-pass.ensures c.self.view_is) c.fetch-pass.ensures.told

pub returns-clause-spare : goal.returns-clause-spare
returns-clause-spare g c = c.fetch-pass.ensures.spare ∙ ap (λ (s : Seen). s.spare) (seen_at c.self.inside.seat c.take_seat-pass.result c.self.inside.book c.take_seat-pass.ensures c.self.view_is)

pub fetch-pass-requires-clause-unshared : goal.fetch-pass-requires-clause-unshared
fetch-pass-requires-clause-unshared g c = (ready_at c.self.inside.seat c.take_seat-pass.result c.self.inside.book c.take_seat-pass.ensures c.self.invariant).0.3
