use Rattle.std.proofs.Common.{ap, length, max, ◌∙◌, sym, subst}
use Rattle.std.specs.Result.{is_err}
use Rattle.seat_guard.specs.Passes.{known}
use Rattle.seat_guard.specs.declared.view.Draws.{Draws}
use Rattle.dd_session.specs.Turns.{Took, IsSettled}
use Rattle.dd_session.proofs.Calls.{keeps_taken, room_made, took_of}
use Rattle.dd_session.proofs.Soundness.{sizes_of, sound_same}
use Rattle.dd_session.proofs.starting.start.Goals as goal

pub returns : goal.returns
returns g c =
    let d = known c.args.pass.now in
    let e = known c.take.new.pass in
    let book = c.args.book.now in
    let t : Took d e c.take.result = took_of c.take.ensures.took c.take.ensures.board in
    let room = room_made c.reserve.result book.rows c.reserve.new.self (max book.rows.spare 1) c.reserve.ensures.ok (ap is_err c.in_ok-reserve.was) in
    let k = keeps_taken d e c.take.result book.rows c.reserve.new.self book.calls book.fulls t c.requires.keeps.rows c.requires.keeps.calls c.requires.keeps.fulls room.0 room.1 in
    record {
      holds = (c.take.ensures.own, ap (λ (z : Draws). z.live) t.is ∙ c.requires.idle.1, ap (λ (z : Draws). z.holds) t.is, c.take.ensures.hand, ap (λ (z : Draws). length z.cells) t.is ∙ t.many, subst IsSettled (sym c.take.ensures.stands.1) c.requires.idle.4.0);
      took = t;
      keeps = record { rows = k.0; sound = sound_same d e (ap (λ (z : Draws). z.rows) t.is) (ap sizes_of t.is) c.requires.keeps.sound; calls = k.1; fulls = k.2 };
      spare = room.2;
      serves = c.take.ensures.took.2;
      stands = c.take.ensures.stands;
    }
