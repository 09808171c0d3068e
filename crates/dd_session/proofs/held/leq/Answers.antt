use Rattle.std.proofs.Common.{subst, sym, MatchResult}
use Rattle.dd_session.specs.Sessions.{Seen}
use Rattle.dd_session.specs.Turns.{HasPlace}
use Rattle.dd_session.proofs.AtRest.{idle_still, keeps_still, seen_still}
use Rattle.function_laws.specs.declared.history.Call.TheVariants as calls
use Rattle.function_laws.specs.declared.history.Reply.TheVariants as replies
use Rattle.dd_session.specs.Sessions.{Called, IsAsBefore, IsNamed}
use Rattle.dd_session.specs.Works.{StoresNothing}
use Rattle.edge_bits.specs.declared.edges.Kind.TheVariants as kinds
use Rattle.seat_guard.specs.declared.view.Draws.{Draws}
use Rattle.dd_session.proofs.held.leq.Goals as goal

pub op_wait-share-requires : goal.op_wait-share-requires
op_wait-share-requires g c = ((c.requires.idle.0, c.requires.idle.1), c.requires.unshared)

pub leq-told-requires-clause-idle : goal.leq-told-requires-clause-idle
leq-told-requires-clause-idle g c = idle_still c.args.guard.now c.args.pass c.op_wait-share.result.pass c.requires.idle.0 c.op_wait-share.ensures.0.0.0 c.op_wait-share.ensures.1 c.requires.idle

pub leq-told-requires-clause-keeps : goal.leq-told-requires-clause-keeps
leq-told-requires-clause-keeps g c = keeps_still c.args.guard.now c.args.pass c.op_wait-share.result.pass c.requires.idle.0 c.op_wait-share.ensures.0.0.0 c.op_wait-share.ensures.1.0 c.args.book.now c.requires.keeps

pub leq-told-requires-clause-place : goal.leq-told-requires-clause-place
leq-told-requires-clause-place g c = subst HasPlace (sym c.op_wait-share.ensures.1.0) c.requires.place

pub leq-told-requires-clause-first : goal.leq-told-requires-clause-first
leq-told-requires-clause-first g c = subst (λ (d : Draws). IsNamed kinds.Bdd d.rows c.args.f) (sym c.op_wait-share.ensures.1.0) c.requires.first

pub leq-told-requires-clause-second : goal.leq-told-requires-clause-second
leq-told-requires-clause-second g c = subst (λ (d : Draws). IsNamed kinds.Bdd d.rows c.args.g) (sym c.op_wait-share.ensures.1.0) c.requires.second

pub returns-clause-idle : goal.returns-clause-idle
returns-clause-idle g c = idle_still c.args.guard.now c.leq-told.new.pass c.op_out.result c.leq-told.ensures.idle.0 c.op_out.ensures.0.0.0 c.op_out.ensures.1 c.leq-told.ensures.idle

pub returns-clause-keeps : goal.returns-clause-keeps
returns-clause-keeps g c = keeps_still c.args.guard.now c.leq-told.new.pass c.op_out.result c.leq-told.ensures.idle.0 c.op_out.ensures.0.0.0 c.op_out.ensures.1.0 c.leq-told.new.book c.leq-told.ensures.keeps

pub returns-clause-told : goal.returns-clause-told
returns-clause-told g c = subst (λ (z : Seen × Seen). MatchResult c.leq-told.result (λ placed. Called z.0 z.1 (calls.Leq c.args.f c.args.g) (replies.Truth placed.value) placed.place) (λ _. IsAsBefore z.0 z.1)) (λ i. (seen_still c.args.guard.now c.args.pass c.op_wait-share.result.pass c.requires.idle.0 c.op_wait-share.ensures.0.0.0 c.op_wait-share.ensures.1.0 c.args.book.now i, sym (seen_still c.args.guard.now c.leq-told.new.pass c.op_out.result c.leq-told.ensures.idle.0 c.op_out.ensures.0.0.0 c.op_out.ensures.1.0 c.leq-told.new.book) i)) c.leq-told.ensures.told

pub returns-clause-stored : goal.returns-clause-stored
returns-clause-stored g c = subst (λ (z : Seen × Seen). StoresNothing z.0 z.1) (λ i. (seen_still c.args.guard.now c.args.pass c.op_wait-share.result.pass c.requires.idle.0 c.op_wait-share.ensures.0.0.0 c.op_wait-share.ensures.1.0 c.args.book.now i, sym (seen_still c.args.guard.now c.leq-told.new.pass c.op_out.result c.leq-told.ensures.idle.0 c.op_out.ensures.0.0.0 c.op_out.ensures.1.0 c.leq-told.new.book) i)) c.leq-told.ensures.stored
