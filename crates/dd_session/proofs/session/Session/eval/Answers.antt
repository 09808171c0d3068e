use Rattle.std.proofs.Common.{◌≤◌, ℕ, ap, length, subst, sym, ◌∙◌}
use Rattle.edge_bits.specs.declared.edges.Kind.{Kind}
use Rattle.function_laws.specs.declared.history.Call.TheVariants as calls
use Rattle.function_laws.specs.declared.history.Reply.TheVariants as replies
use Rattle.handle_count.specs.RowMaps.{RowMap}
use Rattle.dd_session.specs.Sessions.{Called, HasRoom, IsLiveAs, Seen}
use Rattle.dd_session.specs.Turns.{seen_of}
use Rattle.dd_session.specs.Walking.{bits_of}
use Rattle.dd_session.proofs.AtRest.{has_seat, idle_at, ready_at, rests, seen_at}
use Rattle.dd_session.proofs.session.Session.eval.Goals as goal

pub take_seat-pass-requires : goal.take_seat-pass-requires
take_seat-pass-requires g c = has_seat c.self.inside.seat c.self.inside.book c.self.invariant

pub eval-pass-requires-clause-idle : goal.eval-pass-requires-clause-idle
eval-pass-requires-clause-idle g c = idle_at c.self.inside.seat c.take_seat-pass.result c.self.inside.book c.take_seat-pass.ensures c.manager.inside.guard c.manager.inside.closing c.self.invariant c.self.view_is c.requires.own c.manager.view_is

pub eval-pass-requires-clause-unshared : goal.eval-pass-requires-clause-unshared
eval-pass-requires-clause-unshared g c = (ready_at c.self.inside.seat c.take_seat-pass.result c.self.inside.book c.take_seat-pass.ensures c.self.invariant).0.3

pub eval-pass-requires-clause-keeps : goal.eval-pass-requires-clause-keeps
eval-pass-requires-clause-keeps g c = (ready_at c.self.inside.seat c.take_seat-pass.result c.self.inside.book c.take_seat-pass.ensures c.self.invariant).1

pub eval-pass-requires-clause-place : goal.eval-pass-requires-clause-place
eval-pass-requires-clause-place g c = subst HasRoom (sym (seen_at c.self.inside.seat c.take_seat-pass.result c.self.inside.book c.take_seat-pass.ensures c.self.view_is)) c.requires.room

pub eval-pass-requires-clause-live : goal.eval-pass-requires-clause-live
eval-pass-requires-clause-live g c =
    let live = c.requires.live in
    subst (λ (k : Kind). IsLiveAs k (seen_of c.take_seat-pass.result c.self.inside.book) c.args.f) (sym (c.kind-kind.ensures live.0 live.1)) (subst (λ (s : Seen). IsLiveAs live.0 s c.args.f) (sym (seen_at c.self.inside.seat c.take_seat-pass.result c.self.inside.book c.take_seat-pass.ensures c.self.view_is)) live.1)

pub eval-pass-requires-clause-count : goal.eval-pass-requires-clause-count
eval-pass-requires-clause-count g c = c.bits_read-count.ensures ∙ ap (bits_of c.kind-kind.result) (sym c.requires.own) ∙ ap (λ (s : Seen). bits_of c.kind-kind.result s.manager) (sym (seen_at c.self.inside.seat c.take_seat-pass.result c.self.inside.book c.take_seat-pass.ensures c.self.view_is))

pub eval-pass-requires-clause-bits : goal.eval-pass-requires-clause-bits
eval-pass-requires-clause-bits g c =
    let live = c.requires.live in
    subst (λ (n : ℕ). n ≤ length c.args.bits.now) (sym (c.bits_read-count.ensures ∙ ap (bits_of c.kind-kind.result) (sym c.requires.own) ∙ ap (λ (k : Kind). bits_of k c.args.self.now.manager) (c.kind-kind.ensures live.0 live.1))) live.2

pub invariant_of-self : goal.invariant_of-self
invariant_of-self g c = (rests c.manager.inside.guard c.eval-pass.result.0 c.eval-pass.ensures.idle c.eval-pass.ensures.unshared, c.eval-pass.ensures.keeps)

pub returns-clause-told : goal.returns-clause-told
returns-clause-told g c = subst (λ (s : Seen). Called s (seen_of c.eval-pass.result.0 c.eval-pass.new.book) (calls.Eval c.args.f c.args.bits.now) (replies.Value c.eval-pass.result.1.value) c.eval-pass.result.1.place) (seen_at c.self.inside.seat c.take_seat-pass.result c.self.inside.book c.take_seat-pass.ensures c.self.view_is) c.eval-pass.ensures.told

pub returns-clause-spare : goal.returns-clause-spare
returns-clause-spare g c = ap (λ (r : RowMap). r.spare) c.eval-pass.ensures.rows ∙ ap (λ (s : Seen). s.spare) (seen_at c.self.inside.seat c.take_seat-pass.result c.self.inside.book c.take_seat-pass.ensures c.self.view_is)
