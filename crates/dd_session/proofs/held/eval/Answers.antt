use Rattle.std.proofs.Common.{ap, subst, sym, ◌∙◌}
use Rattle.dd_session.specs.Sessions.{Seen}
use Rattle.dd_session.specs.Turns.{HasPlace}
use Rattle.dd_session.proofs.AtRest.{idle_still, keeps_still, seen_still}
use Rattle.function_laws.specs.declared.history.Call.TheVariants as calls
use Rattle.function_laws.specs.declared.history.Reply.TheVariants as replies
use Rattle.dd_session.specs.Sessions.{Called, IsNamed}
use Rattle.dd_session.specs.Walking.{bits_of}
use Rattle.dd_session.specs.Works.{StoresNothing}
use Rattle.seat_guard.specs.declared.view.Draws.{Draws}
use Rattle.dd_session.proofs.held.eval.Goals as goal

pub walk_wait-share-requires : goal.walk_wait-share-requires
walk_wait-share-requires g c = ((c.requires.idle.0, c.requires.idle.1), c.requires.unshared)

pub eval-placed-requires-clause-idle : goal.eval-placed-requires-clause-idle
eval-placed-requires-clause-idle g c = idle_still c.args.guard.now c.args.pass c.walk_wait-share.result.pass c.requires.idle.0 c.walk_wait-share.ensures.0.0.0 c.walk_wait-share.ensures.1 c.requires.idle

pub eval-placed-requires-clause-keeps : goal.eval-placed-requires-clause-keeps
eval-placed-requires-clause-keeps g c = keeps_still c.args.guard.now c.args.pass c.walk_wait-share.result.pass c.requires.idle.0 c.walk_wait-share.ensures.0.0.0 c.walk_wait-share.ensures.1.0 c.args.book.now c.requires.keeps

pub eval-placed-requires-clause-place : goal.eval-placed-requires-clause-place
eval-placed-requires-clause-place g c = subst HasPlace (sym c.walk_wait-share.ensures.1.0) c.requires.place

pub eval-placed-requires-clause-live : goal.eval-placed-requires-clause-live
eval-placed-requires-clause-live g c = subst (λ (d : Draws). IsNamed c.args.kind d.rows c.args.f) (sym c.walk_wait-share.ensures.1.0) c.requires.live

pub eval-placed-requires-clause-count : goal.eval-placed-requires-clause-count
eval-placed-requires-clause-count g c = c.requires.count ∙ ap (λ (s : Seen). bits_of c.args.kind s.manager) (sym (seen_still c.args.guard.now c.args.pass c.walk_wait-share.result.pass c.requires.idle.0 c.walk_wait-share.ensures.0.0.0 c.walk_wait-share.ensures.1.0 c.args.book.now))

pub returns-clause-idle : goal.returns-clause-idle
returns-clause-idle g c = idle_still c.args.guard.now c.eval-placed.new.pass c.walk_out.result c.eval-placed.ensures.idle.0 c.walk_out.ensures.0.0.0 c.walk_out.ensures.1 c.eval-placed.ensures.idle

pub returns-clause-keeps : goal.returns-clause-keeps
returns-clause-keeps g c = keeps_still c.args.guard.now c.eval-placed.new.pass c.walk_out.result c.eval-placed.ensures.idle.0 c.walk_out.ensures.0.0.0 c.walk_out.ensures.1.0 c.eval-placed.new.book c.eval-placed.ensures.keeps

pub returns-clause-told : goal.returns-clause-told
returns-clause-told g c = subst (λ (z : Seen × Seen). Called z.0 z.1 (calls.Eval c.args.f c.args.bits.now) (replies.Value c.eval-placed.result.value) c.eval-placed.result.place) (λ i. (seen_still c.args.guard.now c.args.pass c.walk_wait-share.result.pass c.requires.idle.0 c.walk_wait-share.ensures.0.0.0 c.walk_wait-share.ensures.1.0 c.args.book.now i, sym (seen_still c.args.guard.now c.eval-placed.new.pass c.walk_out.result c.eval-placed.ensures.idle.0 c.walk_out.ensures.0.0.0 c.walk_out.ensures.1.0 c.eval-placed.new.book) i)) c.eval-placed.ensures.told

pub returns-clause-stored : goal.returns-clause-stored
returns-clause-stored g c = subst (λ (z : Seen × Seen). StoresNothing z.0 z.1) (λ i. (seen_still c.args.guard.now c.args.pass c.walk_wait-share.result.pass c.requires.idle.0 c.walk_wait-share.ensures.0.0.0 c.walk_wait-share.ensures.1.0 c.args.book.now i, sym (seen_still c.args.guard.now c.eval-placed.new.pass c.walk_out.result c.eval-placed.ensures.idle.0 c.walk_out.ensures.0.0.0 c.walk_out.ensures.1.0 c.eval-placed.new.book) i)) c.eval-placed.ensures.stored
