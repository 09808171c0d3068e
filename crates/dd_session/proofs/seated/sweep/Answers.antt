use Rattle.std.proofs.Common.{refl, ap, sym, ◌∙◌, subst}
use Rattle.function_laws.specs.declared.history.Call.TheVariants as calls
use Rattle.function_laws.specs.declared.history.Reply.TheVariants as replies
use Rattle.seat_guard.specs.declared.view.Draws.{Draws}
use Rattle.seat_guard.specs.Passes.{known, counts_of}
use Rattle.shared_store.proofs.Lasting.{serves-lasts}
use Rattle.dd_session.specs.declared.request.Request.TheVariants as requests
use Rattle.shared_store.specs.Sharing.{view_of}
use Rattle.dd_session.proofs.Calls.{called, has_rows, stands_taken, took_of}
use Rattle.node_slots.specs.Wholes.{content_view}
use Rattle.dd_session.proofs.Serving.{serves-same}
use Rattle.dd_session.proofs.Sweepings.{swept_beside}
use Rattle.dd_session.proofs.Tellings.{knows_quiet, may_sweep, quiet}
use Rattle.dd_session.proofs.Turning.{drew_nothing, kept_book, took_read, found_settled}
use Rattle.dd_session.proofs.Movings.{moves_quiet, settles_quiet}
use Rattle.dd_session.proofs.Calm.{drawn_still}
use Rattle.dd_session.specs.Turns.{IsSettled}
use Rattle.seat_guard.specs.declared.view.Counts.{Counts}
use Rattle.dd_session.proofs.seated.sweep.Goals as goal

pub finish-place-requires-clause-step : goal.finish-place-requires-clause-step
finish-place-requires-clause-step g c = may_sweep (known c.read_counts.new.pass)

pub finish-place-requires-clause-moves : goal.finish-place-requires-clause-moves
finish-place-requires-clause-moves g c = moves_quiet (known c.read_counts.new.pass) (counts_of c.read_counts.new.pass) calls.Sweep replies.Done
    (found_settled _ _ c.read_counts.ensures.found (subst IsSettled (sym c.take-shared.ensures.stands.1) c.requires.idle.4.0)) tt

pub finish-place-requires-clause-serves : goal.finish-place-requires-clause-serves
finish-place-requires-clause-serves g c =
    let e = known c.read_counts.new.pass in
    let n = counts_of c.read_counts.new.pass in
    let x = c.read_counts.new.shared in
    let y = c.sweep-shared.result.0 in
    serves-same y e _ n _ (serves-lasts x y c.tell_sound.ensures.store c.sweep-shared.ensures.lasts e n c.read_counts.ensures.read c.sweep-shared.ensures.orders c.read_counts.ensures.serves) (knows_quiet e requests.Sweep replies.Done (record { plain = λ name n e. cc; no_swap = λ order level a b. cc })) refl refl refl

pub read_counts-requires-clause-serves : goal.read_counts-requires-clause-serves
read_counts-requires-clause-serves g c = c.take-shared.ensures.took.2

pub read_counts-requires-clause-fresh : goal.read_counts-requires-clause-fresh
read_counts-requires-clause-fresh g c = let s = c.take-shared.ensures.stands.1 in (ap (λ (z : Counts). z.zeros) s ∙ c.requires.idle.4.1, ap (λ (z : Counts). z.pins) s ∙ c.requires.idle.4.0.pins)

pub returns-clause-keeps : goal.returns-clause-keeps
returns-clause-keeps g c =
    let t = took_read (known c.args.pass.now) (known c.take-shared.new.pass) (known c.read_counts.new.pass) c.take-shared.result c.read_counts.new.shared (counts_of c.read_counts.new.pass) (took_of c.take-shared.ensures.took c.take-shared.ensures.board) c.read_counts.ensures.rest c.read_counts.ensures.own.1 c.read_counts.ensures.serves in
    kept_book (known c.args.pass.now) (known c.read_counts.new.pass) c.read_counts.new.shared t (known c.finish-place.new.pass) _ _ c.finish-place.result c.args.book.now c.finish-place.new.book c.requires.keeps c.finish-place.ensures.drew refl refl c.finish-place.ensures.rows c.finish-place.ensures.calls

pub returns-clause-told : goal.returns-clause-told
returns-clause-told g c =
    let t = took_read (known c.args.pass.now) (known c.take-shared.new.pass) (known c.read_counts.new.pass) c.take-shared.result c.read_counts.new.shared (counts_of c.read_counts.new.pass) (took_of c.take-shared.ensures.took c.take-shared.ensures.board) c.read_counts.ensures.rest c.read_counts.ensures.own.1 c.read_counts.ensures.serves in
    called (known c.args.pass.now) (known c.read_counts.new.pass) (known c.finish-place.new.pass) c.read_counts.new.shared _ _ _ _ calls.Sweep replies.Done c.finish-place.result (c.finish-place.ensures.own.0 ∙ sym c.requires.idle.0)
    t (c.sweep-shared.result.0, quiet calls.Sweep replies.Done, refl, refl, c.finish-place.ensures.drew)

pub returns-clause-stored : goal.returns-clause-stored
returns-clause-stored g c =
    let t = took_read (known c.args.pass.now) (known c.take-shared.new.pass) (known c.read_counts.new.pass) c.take-shared.result c.read_counts.new.shared (counts_of c.read_counts.new.pass) (took_of c.take-shared.ensures.took c.take-shared.ensures.board) c.read_counts.ensures.rest c.read_counts.ensures.own.1 c.read_counts.ensures.serves in
    drew_nothing (known c.args.pass.now) (known c.read_counts.new.pass) c.read_counts.new.shared t (known c.finish-place.new.pass) _ _ c.finish-place.result c.sweep-shared.ensures.stored c.finish-place.ensures.drew

pub returns-clause-idle : goal.returns-clause-idle
returns-clause-idle g c =
    let t = took_read (known c.args.pass.now) (known c.take-shared.new.pass) (known c.read_counts.new.pass) c.take-shared.result c.read_counts.new.shared (counts_of c.read_counts.new.pass) (took_of c.take-shared.ensures.took c.take-shared.ensures.board) c.read_counts.ensures.rest c.read_counts.ensures.own.1 c.read_counts.ensures.serves in
    let settles = settles_quiet (counts_of c.read_counts.new.pass) (counts_of c.finish-place.new.pass) (found_settled _ _ c.read_counts.ensures.found (subst IsSettled (sym c.take-shared.ensures.stands.1) c.requires.idle.4.0)) c.finish-place.ensures.moved in
    drawn_still c.args.guard.now c.args.pass.now c.read_counts.new.pass c.finish-place.new.pass _ _ c.finish-place.result c.requires.idle t.is c.finish-place.ensures.own c.finish-place.ensures.drew settles.0

pub returns-clause-swept : goal.returns-clause-swept
returns-clause-swept g c =
    let t = took_read (known c.args.pass.now) (known c.take-shared.new.pass) (known c.read_counts.new.pass) c.take-shared.result c.read_counts.new.shared (counts_of c.read_counts.new.pass) (took_of c.take-shared.ensures.took c.take-shared.ensures.board) c.read_counts.ensures.rest c.read_counts.ensures.own.1 c.read_counts.ensures.serves in record {
      sweep = record {
        before = content_view c.read_counts.new.shared.store;
        after = content_view c.sweep-shared.result.0.store;
        seen = view_of c.read_counts.new.shared;
        has = (has_rows _ (known c.args.pass.now) _ c.read_counts.new.shared (stands_taken (known c.args.pass.now) (known c.read_counts.new.pass) c.read_counts.new.shared t));
        same = refl;
        is_swept = swept_beside _ _ _ c.sweep-shared.ensures.swept;
      };
      found = sym (ap (λ (d : Draws). d.functions) c.finish-place.ensures.drew.left ∙ ap (λ (d : Draws). d.functions) t.is);
    }
