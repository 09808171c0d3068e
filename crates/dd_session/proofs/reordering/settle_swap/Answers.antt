use Rattle.dd_session.specs.declared.request.Request.TheVariants as requests
use Rattle.function_laws.specs.declared.history.Reply.TheVariants as replies
use Rattle.std.proofs.Common.{ap, sym, subst, arith}
use Rattle.seat_guard.specs.Passes.{known, counts_of}
use Rattle.seat_guard.specs.declared.view.Draws.{Draws}
use Rattle.dd_session.specs.Turns.{Tied}
use Rattle.dd_session.proofs.Tellings.{may_swap, swap_refused}
use Rattle.dd_session.proofs.Tying.{longer_by, tied_same}
use Rattle.dd_session.proofs.Movings.{moves_quiet, settles_quiet}
use Rattle.dd_session.proofs.RequestLemmas.{carries_none}
use Rattle.dd_session.proofs.Soundness.{sizes_of, sound_same}
use Rattle.shared_store.specs.Reordering.{swap_call}
use Rattle.dd_session.proofs.reordering.settle_swap.Goals as goal

pub finish-place-requires-clause-step : goal.finish-place-requires-clause-step
finish-place-requires-clause-step c = may_swap (known c.args.pass.now) c.args.order c.args.level c.requires.hold.2 c.requires.level

pub be_full-requires-clause-fits : goal.be_full-requires-clause-fits
be_full-requires-clause-fits c = (swap_refused (known c.args.pass.now) c.args.order c.args.level c.requires.level).0

pub be_full-requires-clause-outcome : goal.be_full-requires-clause-outcome
be_full-requires-clause-outcome c = (swap_refused (known c.args.pass.now) c.args.order c.args.level c.requires.level).1

pub returns-in-Ok-clause-keeps : goal.returns-in-Ok-clause-keeps
returns-in-Ok-clause-keeps c =
    let d = known c.args.pass.now in
    let e = known c.finish-place.new.pass in
    let left = c.finish-place.ensures.drew.left in
    let more = longer_by d e _ (ap (λ (z : Draws). z.entries) left) in record {
      rows = subst (Tied e) (sym c.finish-place.ensures.rows) (tied_same d e c.args.book.now.rows c.requires.keeps.rows (ap (λ (z : Draws). z.rows) left) (ap (λ (z : Draws). z.adds) left) (omega (arith, more)));
      sound = sound_same d e (ap (λ (z : Draws). z.rows) left) (ap sizes_of left) c.requires.keeps.sound;
      calls = c.finish-place.ensures.calls.0;
      fulls = c.finish-place.ensures.calls.1;
    }

pub finish-place-requires-clause-moves : goal.finish-place-requires-clause-moves
finish-place-requires-clause-moves c = moves_quiet (known c.args.pass.now) (counts_of c.args.pass.now) (swap_call c.args.order c.args.level) replies.Done c.requires.hold.5 (carries_none (counts_of c.args.pass.now) (requests.Swap c.args.order c.args.level))

pub returns-in-Ok-clause-settles : goal.returns-in-Ok-clause-settles
returns-in-Ok-clause-settles c = settles_quiet (counts_of c.args.pass.now) (counts_of c.finish-place.new.pass) c.requires.hold.5 c.finish-place.ensures.moved
