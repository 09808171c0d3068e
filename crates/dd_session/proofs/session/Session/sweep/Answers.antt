use Rattle.std.proofs.Common.{ap, subst, sym, ◌∙◌}
use Rattle.function_laws.specs.declared.history.Call.TheVariants as calls
use Rattle.function_laws.specs.declared.history.Reply.TheVariants as replies
use Rattle.handle_count.specs.RowMaps.{RowMap}
use Rattle.dd_session.specs.Works.{IsSweepAsked}
use Rattle.dd_session.specs.Sessions.{Called, HasRoom, Seen}
use Rattle.dd_session.specs.Turns.{seen_of}
use Rattle.dd_session.proofs.AtRest.{has_seat, idle_at, ready_at, rests, seen_at}
use Rattle.dd_session.proofs.session.Session.sweep.Goals as goal

pub take_seat-pass-requires : goal.take_seat-pass-requires
take_seat-pass-requires g c = has_seat c.self.inside.seat c.self.inside.book c.self.invariant

pub sweep-pass-requires-clause-idle : goal.sweep-pass-requires-clause-idle
sweep-pass-requires-clause-idle g c = idle_at c.self.inside.seat c.take_seat-pass.result c.self.inside.book c.take_seat-pass.ensures c.manager.inside.guard c.manager.inside.closing c.self.invariant c.self.view_is c.requires.own c.manager.view_is

pub sweep-pass-requires-clause-unshared : goal.sweep-pass-requires-clause-unshared
sweep-pass-requires-clause-unshared g c = (ready_at c.self.inside.seat c.take_seat-pass.result c.self.inside.book c.take_seat-pass.ensures c.self.invariant).0.3

pub sweep-pass-requires-clause-keeps : goal.sweep-pass-requires-clause-keeps
sweep-pass-requires-clause-keeps g c = (ready_at c.self.inside.seat c.take_seat-pass.result c.self.inside.book c.take_seat-pass.ensures c.self.invariant).1

pub sweep-pass-requires-clause-place : goal.sweep-pass-requires-clause-place
sweep-pass-requires-clause-place g c = subst HasRoom (sym (seen_at c.self.inside.seat c.take_seat-pass.result c.self.inside.book c.take_seat-pass.ensures c.self.view_is)) c.requires.room

pub invariant_of-self : goal.invariant_of-self
invariant_of-self g c = (rests c.manager.inside.guard c.sweep-pass.result.0 c.sweep-pass.ensures.idle c.sweep-pass.ensures.unshared, c.sweep-pass.ensures.keeps)

pub returns-clause-told : goal.returns-clause-told
returns-clause-told g c = subst (λ (s : Seen). Called s (seen_of c.sweep-pass.result.0 c.sweep-pass.new.book) calls.Sweep replies.Done c.sweep-pass.result.1.place) (seen_at c.self.inside.seat c.take_seat-pass.result c.self.inside.book c.take_seat-pass.ensures c.self.view_is) c.sweep-pass.ensures.told

pub returns-clause-swept : goal.returns-clause-swept
returns-clause-swept g c = subst (λ (s : Seen). IsSweepAsked s (seen_of c.sweep-pass.result.0 c.sweep-pass.new.book) c.sweep-pass.result.1.value) (seen_at c.self.inside.seat c.take_seat-pass.result c.self.inside.book c.take_seat-pass.ensures c.self.view_is) c.sweep-pass.ensures.swept

pub returns-clause-spare : goal.returns-clause-spare
returns-clause-spare g c = ap (λ (r : RowMap). r.spare) c.sweep-pass.ensures.rows ∙ ap (λ (s : Seen). s.spare) (seen_at c.self.inside.seat c.take_seat-pass.result c.self.inside.book c.take_seat-pass.ensures c.self.view_is)
