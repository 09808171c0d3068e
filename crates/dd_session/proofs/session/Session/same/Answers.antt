use Rattle.std.proofs.Common.{ap, subst, sym, ◌∙◌}
use Rattle.function_laws.specs.declared.history.Call.TheVariants as calls
use Rattle.function_laws.specs.declared.history.Reply.TheVariants as replies
use Rattle.edge_bits.specs.declared.edges.Kind.{Kind}
use Rattle.handle_count.specs.RowMaps.{RowMap}
use Rattle.dd_session.specs.Sessions.{Called, HasRoom, IsLiveAs, Seen}
use Rattle.dd_session.specs.Turns.{seen_of}
use Rattle.dd_session.proofs.AtRest.{has_seat, idle_at, ready_at, rests, seen_at, unshared_still}
use Rattle.dd_session.proofs.session.Session.same.Goals as goal

pub take_seat-pass-requires : goal.take_seat-pass-requires
take_seat-pass-requires c = has_seat c.self.inside.seat c.self.inside.book c.self.invariant

pub same-placed-requires-clause-idle : goal.same-placed-requires-clause-idle
same-placed-requires-clause-idle c = idle_at c.self.inside.seat c.take_seat-pass.result c.self.inside.book c.take_seat-pass.ensures c.manager.inside.guard c.manager.inside.closing c.self.invariant c.self.view_is c.requires.own c.manager.view_is

pub same-placed-requires-clause-keeps : goal.same-placed-requires-clause-keeps
same-placed-requires-clause-keeps c = (ready_at c.self.inside.seat c.take_seat-pass.result c.self.inside.book c.take_seat-pass.ensures c.self.invariant).1

pub same-placed-requires-clause-place : goal.same-placed-requires-clause-place
same-placed-requires-clause-place c = subst HasRoom (sym (seen_at c.self.inside.seat c.take_seat-pass.result c.self.inside.book c.take_seat-pass.ensures c.self.view_is)) c.requires.room

pub same-placed-requires-clause-alike : goal.same-placed-requires-clause-alike
same-placed-requires-clause-alike c = subst (λ (s : Seen). (k : Kind) × IsLiveAs k s c.args.f × IsLiveAs k s c.args.g) (sym (seen_at c.self.inside.seat c.take_seat-pass.result c.self.inside.book c.take_seat-pass.ensures c.self.view_is)) c.requires.alike

pub invariant_of-self : goal.invariant_of-self
invariant_of-self c = (rests c.manager.inside.guard c.same-placed.new.pass c.same-placed.ensures.idle (unshared_still _ _ c.same-placed.ensures.stands (ready_at c.self.inside.seat c.take_seat-pass.result c.self.inside.book c.take_seat-pass.ensures c.self.invariant).0.3), c.same-placed.ensures.keeps)

pub returns-clause-told : goal.returns-clause-told
returns-clause-told c = subst (λ (s : Seen). Called s (seen_of c.same-placed.new.pass c.same-placed.new.book) (calls.Same c.args.f c.args.g) (replies.Truth c.same-placed.result.value) c.same-placed.result.place) (seen_at c.self.inside.seat c.take_seat-pass.result c.self.inside.book c.take_seat-pass.ensures c.self.view_is) c.same-placed.ensures.told

pub returns-clause-spare : goal.returns-clause-spare
returns-clause-spare c = ap (λ (r : RowMap). r.spare) c.same-placed.ensures.rows ∙ ap (λ (s : Seen). s.spare) (seen_at c.self.inside.seat c.take_seat-pass.result c.self.inside.book c.take_seat-pass.ensures c.self.view_is)
