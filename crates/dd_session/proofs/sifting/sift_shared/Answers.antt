use Rattle.std.proofs.Common.{ap, sym, subst}
use Rattle.seat_guard.specs.declared.view.Telling.{Telling}
use Rattle.seat_guard.specs.Passes.{known, counts_of}
use Rattle.seat_guard.specs.Views.{MayTell, told_of}
use Rattle.shared_store.specs.Sharing.{Serving}
use Rattle.dd_session.proofs.SiftTellings.{may_sift, serves_sifted, moves_sift}
use Rattle.seat_guard.specs.Moves.{MayMove}
use Rattle.seat_guard.specs.Tallies.{counts_after}
use Rattle.dd_session.proofs.sifting.sift_shared.Goals as goal

pub finish_done-place-requires-clause-step : goal.finish_done-place-requires-clause-step
finish_done-place-requires-clause-step g c = subst (MayTell (known c.args.pass.now)) (sym c.requires.tells) (may_sift c.args.shared c.requires.store (known c.args.pass.now) (counts_of c.args.pass.now) c.requires.hold.2 c.requires.serves c.requires.read c.args.order c.args.blocks.now)

pub finish_done-place-requires-clause-serves : goal.finish_done-place-requires-clause-serves
finish_done-place-requires-clause-serves g c = subst (λ (t : Telling). Serving c.sift-shared.result.0 (told_of (known c.args.pass.now) 0 t) (counts_after t.change (known c.args.pass.now).cells (known c.args.pass.now).rows (counts_of c.args.pass.now))) (sym c.requires.tells)
    (serves_sifted c.args.shared c.sift-shared.result.0 c.requires.store (known c.args.pass.now) (counts_of c.args.pass.now) c.args.order c.args.blocks.now c.requires.hold.5 c.requires.serves c.requires.read c.sift-shared.ensures.lasts c.sift-shared.ensures.orders)

pub returns-clause-told : goal.returns-clause-told
returns-clause-told g c = (c.sift-shared.result.0, g.E.Told.told, ap (λ (t : Telling). t.call) c.requires.tells, ap (λ (t : Telling). t.reply) c.requires.tells, c.finish_done-place.ensures.drew)

pub finish_done-place-requires-clause-moves : goal.finish_done-place-requires-clause-moves
finish_done-place-requires-clause-moves g c = subst (MayMove (known c.args.pass.now) (counts_of c.args.pass.now)) (sym c.requires.tells) (moves_sift c.args.shared c.requires.store (known c.args.pass.now) (counts_of c.args.pass.now) c.requires.hold.5 c.requires.serves c.requires.read c.args.order c.args.blocks.now)
