use Rattle.std.proofs.Common.{ap, subst, sym, ◌∙◌}
use Rattle.operator_calls.specs.Taking.{of_lent}
use Rattle.dd_session.specs.MadeRows.{HasTaken, MakesOrTells, by_edges}
use Rattle.dd_session.specs.Sessions.{HasRoom, Seen}
use Rattle.dd_session.specs.Turns.{seen_of}
use Rattle.dd_session.proofs.AtRest.{has_seat, idle_at, ready_at, rests, seen_at}
use Rattle.dd_session.proofs.session.Session.make.Goals as goal

pub take_seat-pass-requires : goal.take_seat-pass-requires
take_seat-pass-requires g c = has_seat c.self.inside.seat c.self.inside.book c.self.invariant

pub make-pass-requires-clause-idle : goal.make-pass-requires-clause-idle
make-pass-requires-clause-idle g c = idle_at c.self.inside.seat c.take_seat-pass.result c.self.inside.book c.take_seat-pass.ensures c.manager.inside.guard c.manager.inside.closing c.self.invariant c.self.view_is c.requires.own c.manager.view_is

pub make-pass-requires-clause-unshared : goal.make-pass-requires-clause-unshared
make-pass-requires-clause-unshared g c = (ready_at c.self.inside.seat c.take_seat-pass.result c.self.inside.book c.take_seat-pass.ensures c.self.invariant).0.3

pub make-pass-requires-clause-keeps : goal.make-pass-requires-clause-keeps
make-pass-requires-clause-keeps g c = (ready_at c.self.inside.seat c.take_seat-pass.result c.self.inside.book c.take_seat-pass.ensures c.self.invariant).1

pub make-pass-requires-clause-place : goal.make-pass-requires-clause-place
make-pass-requires-clause-place g c = subst HasRoom (sym (seen_at c.self.inside.seat c.take_seat-pass.result c.self.inside.book c.take_seat-pass.ensures c.self.view_is)) c.requires.room

pub make-pass-requires-clause-can : goal.make-pass-requires-clause-can
make-pass-requires-clause-can g c = subst (λ (s : Seen). HasTaken s (of_lent c.args.making)) (sym (seen_at c.self.inside.seat c.take_seat-pass.result c.self.inside.book c.take_seat-pass.ensures c.self.view_is)) c.requires.can

pub make-pass-requires-clause-same : goal.make-pass-requires-clause-same
make-pass-requires-clause-same g c = c.renamed-edges.ensures.same ∙ ap (λ (s : Seen). by_edges s.rows (of_lent c.args.making)) (sym (seen_at c.self.inside.seat c.take_seat-pass.result c.self.inside.book c.take_seat-pass.ensures c.self.view_is))

pub invariant_of-self : goal.invariant_of-self
invariant_of-self g c = (rests c.manager.inside.guard c.make-pass.result.0 c.make-pass.ensures.idle c.make-pass.ensures.unshared, c.make-pass.ensures.keeps)

pub returns : goal.returns
returns g c = subst (λ (s : Seen). MakesOrTells s (seen_of c.make-pass.result.0 c.make-pass.new.book) (of_lent c.args.making) c.make-pass.result.1) (seen_at c.self.inside.seat c.take_seat-pass.result c.self.inside.book c.take_seat-pass.ensures c.self.view_is) c.make-pass.ensures.made
