use Rattle.std.proofs.Common.{[], ◌∷◌, length, ap, ◌∙◌, arith, length-append}
use Rattle.function_laws.specs.declared.history.Entry.{Entry}
use Rattle.function_laws.specs.SessionEntries.{entry}
use Rattle.seat_guard.specs.Passes.{counts_of, known}
use Rattle.seat_guard.specs.Tallies.{counts_after}
use Rattle.seat_guard.specs.Views.{told_with}
use Rattle.seat_guard.specs.declared.view.Draws.{Draws}
use Rattle.seat_guard.specs.declared.view.Telling.{Telling}
use Rattle.dd_session.specs.Requests.{alone_telling}
use Rattle.dd_session.specs.Sessions.{fulls_in}
use Rattle.dd_session.proofs.OnRows.{counted_alone, not_full}
use Rattle.dd_session.proofs.Tellings.{fulls-append}
use Rattle.dd_session.proofs.alone.draw_alone.Goals as goal

pub returns-clause-drew : goal.returns-clause-drew
returns-clause-drew g c = record {
  may = c.requires.step;
  counted = counted_alone (known c.args.pass.now).rows c.args.alone;
  later = c.place-place.ensures.later;
  now = c.place-place.ensures.drew.0;
  left = c.place-place.ensures.drew.2 ∙ ap (told_with c.place-place.ensures.drew.0 (known c.args.pass.now) c.place-place.result) c.requires.told;
}

pub returns-clause-moved : goal.returns-clause-moved
returns-clause-moved g c = c.place-place.ensures.moved ∙ ap (λ (t : Telling). counts_after t.change (known c.args.pass.now).cells (known c.args.pass.now).rows (counts_of c.args.pass.now)) c.requires.told

pub returns-clause-calls : goal.returns-clause-calls
returns-clause-calls g c =
    let d = known c.args.pass.now in
    let x : Telling = alone_telling d.rows c.args.alone in
    let one : Entry = entry c.place-place.result d.session x.call x.reply in
    let left = c.place-place.ensures.drew.2 ∙ ap (told_with c.place-place.ensures.drew.0 d c.place-place.result) c.requires.told in
    let many = ap (λ (z : Draws). length z.entries) left in
    let fulls = ap (λ (z : Draws). fulls_in z.entries) left in
    let a = length-append d.entries (one ∷ []) in
    let b = fulls-append d.entries one in
    let none = not_full d.rows c.args.alone in
    let calls = c.requires.calls.0 in
    let before = c.requires.calls.1 in (omega (arith, many, a, calls), omega (arith, fulls, b, none, before))
