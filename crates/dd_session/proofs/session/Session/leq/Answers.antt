use Rattle.std.proofs.Common.{ap, subst, sym, ◌∙◌, MatchResult}
use Rattle.function_laws.specs.declared.history.Call.TheVariants as calls
use Rattle.function_laws.specs.declared.history.Reply.TheVariants as replies
use Rattle.handle_count.specs.RowMaps.{RowMap}
use Rattle.edge_bits.specs.declared.edges.Kind.TheVariants as kinds
use Rattle.dd_session.specs.Sessions.{Called, HasRoom, IsAsBefore, IsLiveAs, Seen}
use Rattle.dd_session.specs.Turns.{seen_of}
use Rattle.dd_session.proofs.AtRest.{has_seat, idle_at, ready_at, rests, seen_at}
use Rattle.dd_session.proofs.session.Session.leq.Goals as goal

pub take_seat-pass-requires : goal.take_seat-pass-requires
take_seat-pass-requires g c = has_seat c.self.inside.seat c.self.inside.book c.self.invariant

pub leq-pass-requires-clause-idle : goal.leq-pass-requires-clause-idle
leq-pass-requires-clause-idle g c = idle_at c.self.inside.seat c.take_seat-pass.result c.self.inside.book c.take_seat-pass.ensures c.manager.inside.guard c.manager.inside.closing c.self.invariant c.self.view_is c.requires.own c.manager.view_is

pub leq-pass-requires-clause-unshared : goal.leq-pass-requires-clause-unshared
leq-pass-requires-clause-unshared g c = (ready_at c.self.inside.seat c.take_seat-pass.result c.self.inside.book c.take_seat-pass.ensures c.self.invariant).0.3

pub leq-pass-requires-clause-keeps : goal.leq-pass-requires-clause-keeps
leq-pass-requires-clause-keeps g c = (ready_at c.self.inside.seat c.take_seat-pass.result c.self.inside.book c.take_seat-pass.ensures c.self.invariant).1

pub leq-pass-requires-clause-place : goal.leq-pass-requires-clause-place
leq-pass-requires-clause-place g c = subst HasRoom (sym (seen_at c.self.inside.seat c.take_seat-pass.result c.self.inside.book c.take_seat-pass.ensures c.self.view_is)) c.requires.room

pub leq-pass-requires-clause-first : goal.leq-pass-requires-clause-first
leq-pass-requires-clause-first g c = subst (λ (s : Seen). IsLiveAs kinds.Bdd s c.args.f) (sym (seen_at c.self.inside.seat c.take_seat-pass.result c.self.inside.book c.take_seat-pass.ensures c.self.view_is)) c.requires.first

pub leq-pass-requires-clause-second : goal.leq-pass-requires-clause-second
leq-pass-requires-clause-second g c = subst (λ (s : Seen). IsLiveAs kinds.Bdd s c.args.g) (sym (seen_at c.self.inside.seat c.take_seat-pass.result c.self.inside.book c.take_seat-pass.ensures c.self.view_is)) c.requires.second

pub invariant_of-self : goal.invariant_of-self
invariant_of-self g c = (rests c.manager.inside.guard c.leq-pass.result.0 c.leq-pass.ensures.idle c.leq-pass.ensures.unshared, c.leq-pass.ensures.keeps)

pub returns-clause-told : goal.returns-clause-told
returns-clause-told g c = subst (λ (s : Seen). MatchResult c.leq-pass.result.1 (λ placed. Called s (seen_of c.leq-pass.result.0 c.leq-pass.new.book) (calls.Leq c.args.f c.args.g) (replies.Truth placed.value) placed.place) (λ _. IsAsBefore s (seen_of c.leq-pass.result.0 c.leq-pass.new.book))) (seen_at c.self.inside.seat c.take_seat-pass.result c.self.inside.book c.take_seat-pass.ensures c.self.view_is) c.leq-pass.ensures.told

pub returns-clause-spare : goal.returns-clause-spare
returns-clause-spare g c = ap (λ (r : RowMap). r.spare) c.leq-pass.ensures.rows ∙ ap (λ (s : Seen). s.spare) (seen_at c.self.inside.seat c.take_seat-pass.result c.self.inside.book c.take_seat-pass.ensures c.self.view_is)
