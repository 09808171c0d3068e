use Rattle.std.proofs.Common.{refl, ap, sym, subst, arith}
use Rattle.seat_guard.specs.Passes.{known, counts_of}
use Rattle.seat_guard.specs.declared.view.Draws.{Draws}
use Rattle.dd_session.specs.Requests.{call_of}
use Rattle.dd_session.specs.Sessions.{reply_unmade}
use Rattle.dd_session.specs.Turns.{Tied}
use Rattle.dd_session.proofs.Serving.{serves-same}
use Rattle.dd_session.proofs.Tellings.{knows_quiet, leaves_unmade, may_be_unmade, quiet}
use Rattle.dd_session.proofs.Tying.{longer_by, tied_same}
use Rattle.dd_session.proofs.Movings.{moves_quiet, settles_quiet}
use Rattle.dd_session.proofs.RequestLemmas.{carries_none}
use Rattle.dd_session.proofs.Soundness.{sizes_of, sound_same}
use Rattle.dd_session.proofs.settling.tell_unmade.Goals as goal

pub finish-requires-clause-step : goal.finish-requires-clause-step
finish-requires-clause-step c = may_be_unmade (known c.args.pass.now) c.args.request c.args.why c.requires.hold.2 c.requires.outcome

pub finish-requires-clause-serves : goal.finish-requires-clause-serves
finish-requires-clause-serves c = serves-same c.args.shared (known c.args.pass.now) _ (counts_of c.args.pass.now) _ c.requires.serves (knows_quiet (known c.args.pass.now) c.args.request (reply_unmade c.args.why) (leaves_unmade c.args.request c.args.why)) refl refl refl

pub returns-clause-keeps : goal.returns-clause-keeps
returns-clause-keeps c =
    let d = known c.args.pass.now in
    let e = known c.finish.new.pass in
    let left = c.finish.ensures.drew.left in
    let more = longer_by d e _ (ap (λ (z : Draws). z.entries) left) in record {
      rows = subst (Tied e) (sym c.finish.ensures.rows) (tied_same d e c.args.book.now.rows c.requires.keeps.rows (ap (λ (z : Draws). z.rows) left) (ap (λ (z : Draws). z.adds) left) (omega (arith, more)));
      sound = sound_same d e (ap (λ (z : Draws). z.rows) left) (ap sizes_of left) c.requires.keeps.sound;
      calls = c.finish.ensures.calls.0;
      fulls = c.finish.ensures.calls.1;
    }

pub returns-clause-told : goal.returns-clause-told
returns-clause-told c = (c.args.shared, quiet (call_of c.args.request) (reply_unmade c.args.why), refl, refl, c.finish.ensures.drew)

pub returns-clause-notes : goal.returns-clause-notes
returns-clause-notes c = let drew = c.finish.ensures.drew in (drew.leaving, ap (λ (z : Draws). z.stored) drew.left, ap (λ (z : Draws). z.due) drew.left, drew.is_leaving, ap (λ (z : Draws). z.turns) drew.left)

pub finish-requires-clause-moves : goal.finish-requires-clause-moves
finish-requires-clause-moves c = moves_quiet (known c.args.pass.now) (counts_of c.args.pass.now) (call_of c.args.request) (reply_unmade c.args.why) c.requires.hold.5 (carries_none (counts_of c.args.pass.now) c.args.request)

pub returns-clause-settles : goal.returns-clause-settles
returns-clause-settles c = settles_quiet (counts_of c.args.pass.now) (counts_of c.finish.new.pass) c.requires.hold.5 c.finish.ensures.moved
