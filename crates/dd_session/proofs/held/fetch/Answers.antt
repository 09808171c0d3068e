use Rattle.std.proofs.Common.{inl, subst, sym}
use Rattle.dd_session.specs.Sessions.{Seen}
use Rattle.dd_session.specs.Turns.{HasPlace}
use Rattle.dd_session.proofs.AtRest.{idle_still, keeps_still, seen_still}
use Rattle.function_laws.specs.declared.history.Call.TheVariants as calls
use Rattle.function_laws.specs.declared.history.Reply.TheVariants as replies
use Rattle.dd_session.specs.Sessions.{Called, IsNamed}
use Rattle.dd_session.specs.Works.{StoresNothing}
use Rattle.seat_guard.specs.declared.view.Draws.{Draws}
use Rattle.edge_bits.specs.declared.edges.Kind.{Kind}
use Rattle.dd_session.specs.Managing.{is_posted}
use Rattle.dd_session.proofs.held.fetch.Goals as goal

pub op_wait-share-requires : goal.op_wait-share-requires
op_wait-share-requires g c = ((c.requires.idle.0, c.requires.idle.1), c.requires.unshared)

pub fetch-placed-requires-clause-idle : goal.fetch-placed-requires-clause-idle
fetch-placed-requires-clause-idle g c = idle_still c.args.guard.now c.args.pass c.op_wait-share.result.pass c.requires.idle.0 c.op_wait-share.ensures.0.0.0 c.op_wait-share.ensures.1 c.requires.idle

pub fetch-placed-requires-clause-keeps : goal.fetch-placed-requires-clause-keeps
fetch-placed-requires-clause-keeps g c = keeps_still c.args.guard.now c.args.pass c.op_wait-share.result.pass c.requires.idle.0 c.op_wait-share.ensures.0.0.0 c.op_wait-share.ensures.1.0 c.args.book.now c.requires.keeps

pub fetch-placed-requires-clause-place : goal.fetch-placed-requires-clause-place
fetch-placed-requires-clause-place g c = subst HasPlace (sym c.op_wait-share.ensures.1.0) c.requires.place

pub fetch-placed-requires-clause-may : goal.fetch-placed-requires-clause-may
fetch-placed-requires-clause-may g c = inl c.op_wait-share.result.held

pub fetch-placed-requires-clause-live : goal.fetch-placed-requires-clause-live
fetch-placed-requires-clause-live g c = subst (λ (d : Draws). (k : Kind) × IsNamed k d.rows c.args.other) (sym c.op_wait-share.ensures.1.0) c.requires.live

pub returns-clause-idle : goal.returns-clause-idle
returns-clause-idle g c = idle_still c.args.guard.now c.fetch-placed.new.pass c.op_out.result c.fetch-placed.ensures.idle.0 c.op_out.ensures.0.0.0 c.op_out.ensures.1 c.fetch-placed.ensures.idle

pub returns-clause-keeps : goal.returns-clause-keeps
returns-clause-keeps g c = keeps_still c.args.guard.now c.fetch-placed.new.pass c.op_out.result c.fetch-placed.ensures.idle.0 c.op_out.ensures.0.0.0 c.op_out.ensures.1.0 c.fetch-placed.new.book c.fetch-placed.ensures.keeps

pub returns-clause-told : goal.returns-clause-told
returns-clause-told g c = subst (λ (z : Seen × Seen). Called z.0 z.1 (calls.Fetch c.args.cell c.args.other) (replies.Fetched c.fetch-placed.result.value.0 (is_posted c.fetch-placed.result.value.1)) c.fetch-placed.result.place) (λ i. (seen_still c.args.guard.now c.args.pass c.op_wait-share.result.pass c.requires.idle.0 c.op_wait-share.ensures.0.0.0 c.op_wait-share.ensures.1.0 c.args.book.now i, sym (seen_still c.args.guard.now c.fetch-placed.new.pass c.op_out.result c.fetch-placed.ensures.idle.0 c.op_out.ensures.0.0.0 c.op_out.ensures.1.0 c.fetch-placed.new.book) i)) c.fetch-placed.ensures.told

pub returns-clause-stored : goal.returns-clause-stored
returns-clause-stored g c = subst (λ (z : Seen × Seen). StoresNothing z.0 z.1) (λ i. (seen_still c.args.guard.now c.args.pass c.op_wait-share.result.pass c.requires.idle.0 c.op_wait-share.ensures.0.0.0 c.op_wait-share.ensures.1.0 c.args.book.now i, sym (seen_still c.args.guard.now c.fetch-placed.new.pass c.op_out.result c.fetch-placed.ensures.idle.0 c.op_out.ensures.0.0.0 c.op_out.ensures.1.0 c.fetch-placed.new.book) i)) c.fetch-placed.ensures.stored
