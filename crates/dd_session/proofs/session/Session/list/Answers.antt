use Rattle.std.proofs.Common.{All, ap, subst, sym, MatchResult}
use Rattle.edge_bits.specs.declared.edges.Kind.TheVariants as kinds
use Rattle.dd_session.specs.Listings.{IsListed}
use Rattle.dd_session.specs.Sessions.{IsAsBefore, IsLiveAs, Seen}
use Rattle.dd_session.specs.Turns.{seen_of}
use Rattle.dd_session.proofs.AtRest.{has_seat, idle_at, ready_at, rests, seen_at}
use Rattle.dd_session.proofs.session.Session.list.Goals as goal

pub take_seat-pass-requires : goal.take_seat-pass-requires
take_seat-pass-requires g c = has_seat c.self.inside.seat c.self.inside.book c.self.invariant

pub list-pass-requires-clause-idle : goal.list-pass-requires-clause-idle
list-pass-requires-clause-idle g c = idle_at c.self.inside.seat c.take_seat-pass.result c.self.inside.book c.take_seat-pass.ensures c.manager.inside.guard c.manager.inside.closing c.self.invariant c.self.view_is c.requires.own c.manager.view_is

pub list-pass-requires-clause-unshared : goal.list-pass-requires-clause-unshared
list-pass-requires-clause-unshared g c = (ready_at c.self.inside.seat c.take_seat-pass.result c.self.inside.book c.take_seat-pass.ensures c.self.invariant).0.3

pub list-pass-requires-clause-keeps : goal.list-pass-requires-clause-keeps
list-pass-requires-clause-keeps g c = (ready_at c.self.inside.seat c.take_seat-pass.result c.self.inside.book c.take_seat-pass.ensures c.self.invariant).1

pub list-pass-requires-clause-live : goal.list-pass-requires-clause-live
list-pass-requires-clause-live g c = subst (λ (s : Seen). All (IsLiveAs kinds.Bdd s) c.args.rows.now) (sym (seen_at c.self.inside.seat c.take_seat-pass.result c.self.inside.book c.take_seat-pass.ensures c.self.view_is)) c.requires.live

pub invariant_of-self : goal.invariant_of-self
invariant_of-self g c = (rests c.manager.inside.guard c.list-pass.result.0 c.list-pass.ensures.idle c.list-pass.ensures.unshared, c.list-pass.ensures.keeps)

pub returns-clause-told : goal.returns-clause-told
returns-clause-told g c = subst (λ (s : Seen). MatchResult c.list-pass.result.1 (IsListed s (seen_of c.list-pass.result.0 c.self.inside.book) c.args.rows.now) (λ _. IsAsBefore s (seen_of c.list-pass.result.0 c.self.inside.book))) (seen_at c.self.inside.seat c.take_seat-pass.result c.self.inside.book c.take_seat-pass.ensures c.self.view_is) c.list-pass.ensures.told

pub returns-clause-spare : goal.returns-clause-spare
returns-clause-spare g c = ap (λ (s : Seen). s.spare) (seen_at c.self.inside.seat c.take_seat-pass.result c.self.inside.book c.take_seat-pass.ensures c.self.view_is)
