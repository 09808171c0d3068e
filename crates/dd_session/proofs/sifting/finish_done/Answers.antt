use Rattle.std.proofs.Common.{[], ◌∷◌, length, length-append, ap, sym, ◌∙◌, arith, subst}
use Rattle.function_laws.specs.declared.history.Entry.{Entry}
use Rattle.function_laws.specs.SessionEntries.{entry}
use Rattle.seat_guard.specs.Passes.{known, counts_of}
use Rattle.seat_guard.specs.declared.view.Draws.{Draws}
use Rattle.seat_guard.specs.Views.{adds_after, rows_after}
use Rattle.dd_session.specs.Sessions.{fulls_in, is_full, names_in}
use Rattle.dd_session.specs.Turns.{names_by}
use Rattle.dd_session.proofs.Tellings.{drew_turn, fulls-append}
use Rattle.dd_session.proofs.Tying.{longer_by, tied_same}
use Rattle.dd_session.proofs.Movings.{settles_quiet}
use Rattle.dd_session.proofs.Soundness.{sizes_of, sound_same}
use Rattle.seat_guard.specs.declared.view.Counts.{Counts}
use Rattle.seat_guard.specs.declared.view.Change.{Change}
use Rattle.seat_guard.specs.Tallies.{counts_after}
use Rattle.shared_store.specs.Sharing.{Serving}
use Rattle.dd_session.proofs.sifting.finish_done.Goals as goal

pub returns-clause-drew : goal.returns-clause-drew
returns-clause-drew g c = drew_turn (known c.args.pass.now) (known c.place-place.new.pass) (known c.put_back.new.pass) c.args.shared g.E.Told.told c.place-place.result c.requires.step
    (ap names_by c.requires.quiet ∙ sym (ap names_in c.requires.done)) c.place-place.ensures.later (c.place-place.ensures.held c.requires.hold.2) c.put_back.ensures.gave

pub returns-clause-keeps : goal.returns-clause-keeps
returns-clause-keeps g c =
    let d = known c.args.pass.now in
    let e = known c.put_back.new.pass in
    let one : Entry = entry c.place-place.result d.session g.E.Told.told.call g.E.Told.told.reply in
    let drew = drew_turn d (known c.place-place.new.pass) e c.args.shared g.E.Told.told c.place-place.result c.requires.step
    (ap names_by c.requires.quiet ∙ sym (ap names_in c.requires.done)) c.place-place.ensures.later (c.place-place.ensures.held c.requires.hold.2) c.put_back.ensures.gave in
    let left = drew.left in
    let more = longer_by d e _ (ap (λ (z : Draws). z.entries) left) in
    let many = ap (λ (z : Draws). length z.entries) left in
    let fulls = ap (λ (z : Draws). fulls_in z.entries) left in
    let a = length-append d.entries (one ∷ []) in
    let b = fulls-append d.entries one in
    let none = ap is_full c.requires.done in
    let calls = c.requires.keeps.calls in
    let before = c.requires.keeps.fulls in record {
      rows = tied_same d e c.args.book.now.rows c.requires.keeps.rows (ap (λ (z : Draws). z.rows) left ∙ ap (λ change. rows_after change d.rows) c.requires.quiet)
          (ap (λ (z : Draws). z.adds) left ∙ ap (λ change. adds_after change d.adds) c.requires.quiet) (omega (arith, more));
      sound = sound_same d e (ap (λ (z : Draws). z.rows) left ∙ ap (λ change. rows_after change d.rows) c.requires.quiet) (ap sizes_of left) c.requires.keeps.sound;
      calls = omega (arith, many, a, calls);
      fulls = omega (arith, fulls, b, none, before);
    }

pub put_back-requires-clause-serves : goal.put_back-requires-clause-serves
put_back-requires-clause-serves g c =
    let d = known c.args.pass.now in
    let serves = c.requires.serves in
    subst (λ (z : Draws × Counts). Serving c.args.shared z.0 z.1) (λ i. (sym (c.place-place.ensures.held c.requires.hold.2) i, sym c.place-place.ensures.moved i))
    (record { rows_kept = serves.rows_kept; raised_kept = serves.raised_kept; owed_kept = serves.owed_kept; others_kept = serves.others_kept; cells_kept = serves.cells_kept; board_is = serves.board_is; counts_are = serves.counts_are; orders_are = serves.orders_are })

pub returns-clause-settles : goal.returns-clause-settles
returns-clause-settles g c = settles_quiet (counts_of c.args.pass.now) (counts_of c.put_back.new.pass) c.requires.hold.5
    (c.put_back.ensures.stands.1 ∙ c.place-place.ensures.moved ∙ ap (λ (x : Change). counts_after x (known c.args.pass.now).cells (known c.args.pass.now).rows (counts_of c.args.pass.now)) c.requires.quiet)
