use Rattle.std.proofs.Common.{refl, ap, sym, subst, arith}
use Rattle.seat_guard.specs.declared.view.Change.TheVariants.{Nothing, Adds}
use Rattle.seat_guard.specs.declared.view.Counts.{Counts}
use Rattle.seat_guard.specs.declared.view.Draws.{Draws}
use Rattle.seat_guard.specs.declared.view.Row.{Row}
use Rattle.seat_guard.specs.Passes.{counts_of, known}
use Rattle.seat_guard.specs.Tallies.{counts_after}
use Rattle.seat_guard.specs.Views.{MayTell, told_of}
use Rattle.shared_store.specs.Sharing.{Serving, held_of, view_of}
use Rattle.dd_session.specs.declared.request.Answer.TheVariants.{Added}
use Rattle.dd_session.specs.Requests.{added_as, call_of, telling_of}
use Rattle.dd_session.specs.Turns.{Tied}
use Rattle.dd_session.proofs.Movings.{moves_added, settles_added}
use Rattle.dd_session.proofs.RequestLemmas.{carries_none}
use Rattle.dd_session.proofs.Serving.{serves-added}
use Rattle.dd_session.proofs.Soundness.{sizes_of, sound_same, sound_serving}
use Rattle.dd_session.proofs.Tellings.{added_drew, held-row, is_adding, knows_added, may_add, row-kept}
use Rattle.dd_session.proofs.Tying.{longer_by, tied_more}
use Rattle.dd_session.proofs.settling.add_row.Goals as goal

pub raise-generation-requires-clause-held : goal.raise-generation-requires-clause-held
raise-generation-requires-clause-held c = refl

pub finish-place-requires-clause-step : goal.finish-place-requires-clause-step
finish-place-requires-clause-step c =
    let d = known c.args.pass.now in
    let a = c.add-name.ensures.generation in
    let b = c.requires.keeps.rows.adds_are in
    subst (λ (e : Draws). MayTell e (telling_of (view_of c.args.shared) c.args.request (Added c.args.adding c.add-name.result c.args.cell c.raise-generation.result))) (sym c.raise-generation.ensures.own.1)
    (may_add d (view_of c.args.shared) c.args.request c.args.adding c.add-name.result c.args.cell c.raise-generation.result c.requires.serves.counts_are (omega (arith, a, b)) c.requires.hold.2 c.requires.adds)

pub finish-place-requires-clause-moves : goal.finish-place-requires-clause-moves
finish-place-requires-clause-moves c =
    let row : Row = record { name = c.add-name.result; held = held_of (view_of c.args.shared) c.args.cell; generation = c.raise-generation.result } in
    moves_added (known c.raise-generation.new.pass) (counts_of c.args.pass.now) (counts_of c.raise-generation.new.pass) row (call_of c.args.request) (added_as (view_of c.args.shared) c.args.adding c.add-name.result c.args.cell) c.requires.hold.5 c.raise-generation.ensures.raised
    (is_adding (view_of c.args.shared) c.args.adding c.add-name.result c.args.cell c.raise-generation.result) (carries_none (counts_of c.raise-generation.new.pass) c.args.request)

pub finish-place-requires-clause-serves : goal.finish-place-requires-clause-serves
finish-place-requires-clause-serves c =
    let d = known c.args.pass.now in
    let x = c.args.shared in
    subst (λ (e : Draws). Serving x (told_of e 0 (telling_of (view_of x) c.args.request (Added c.args.adding c.add-name.result c.args.cell c.raise-generation.result))) (counts_after (Adds (record { name = c.add-name.result; held = held_of (view_of x) c.args.cell; generation = c.raise-generation.result })) e.cells e.rows (counts_of c.raise-generation.new.pass))) (sym c.raise-generation.ensures.own.1)
    (serves-added x d _ (counts_of c.args.pass.now) _ (record { name = c.add-name.result; held = held_of (view_of x) c.args.cell; generation = c.raise-generation.result }) c.requires.serves (knows_added d (view_of x) c.args.request c.args.adding c.add-name.result c.args.cell c.raise-generation.result)
    (row-kept x c.args.cell c.requires.is) refl refl (ap (λ (z : Counts). z.zeros) c.raise-generation.ensures.raised))

pub returns-clause-keeps : goal.returns-clause-keeps
returns-clause-keeps c =
    let d = known c.args.pass.now in
    let e = known c.finish-place.new.pass in
    let x = c.args.shared in
    let drew = added_drew c.args.pass.now c.raise-generation.new.pass e x _ c.finish-place.result c.raise-generation.ensures.own.1 c.finish-place.ensures.drew in
    let told = told_of d c.finish-place.result (telling_of (view_of x) c.args.request (Added c.args.adding c.add-name.result c.args.cell c.raise-generation.result)) in
    let held = held_of (view_of x) c.args.cell in record {
      rows = subst (Tied e) (sym c.finish-place.ensures.rows)
          (tied_more d e c.args.book.now.rows c.add-name.new.self c.add-name.result held c.raise-generation.result c.requires.keeps.rows (ap (λ (z : Draws). z.rows) drew.left) (ap (λ (z : Draws). z.adds) drew.left) (longer_by d e _ (ap (λ (z : Draws). z.entries) drew.left))
          (held-row (view_of x) c.args.cell c.add-name.result _ _ c.add-name.ensures.added) c.add-name.ensures.never c.add-name.ensures.adds);
      sound = sound_same (told_of d 0 (telling_of (view_of x) c.args.request (Added c.args.adding c.add-name.result c.args.cell c.raise-generation.result))) e (ap (λ (z : Draws). z.rows) drew.left) (ap sizes_of drew.left)
          (sound_serving x c.raise-generation.ensures.store _ _ (serves-added x d (told_of d 0 (telling_of (view_of x) c.args.request (Added c.args.adding c.add-name.result c.args.cell c.raise-generation.result))) (counts_of c.args.pass.now) (counts_after Nothing d.cells d.rows (counts_of c.args.pass.now)) (record { name = c.add-name.result; held = held; generation = c.raise-generation.result }) c.requires.serves (knows_added d (view_of x) c.args.request c.args.adding c.add-name.result c.args.cell c.raise-generation.result)
          (row-kept x c.args.cell c.requires.is) refl refl refl));
      calls = c.finish-place.ensures.calls.0;
      fulls = c.finish-place.ensures.calls.1;
    }

pub returns-clause-told : goal.returns-clause-told
returns-clause-told c =
    let x = c.args.shared in
    (x, telling_of (view_of x) c.args.request (Added c.args.adding c.add-name.result c.args.cell c.raise-generation.result), refl, refl, added_drew c.args.pass.now c.raise-generation.new.pass (known c.finish-place.new.pass) x _ c.finish-place.result c.raise-generation.ensures.own.1 c.finish-place.ensures.drew)

pub returns-clause-notes : goal.returns-clause-notes
returns-clause-notes c =
    let drew = added_drew c.args.pass.now c.raise-generation.new.pass (known c.finish-place.new.pass) c.args.shared _ c.finish-place.result c.raise-generation.ensures.own.1 c.finish-place.ensures.drew in
    (drew.leaving, ap (λ (z : Draws). z.stored) drew.left, ap (λ (z : Draws). z.due) drew.left, drew.is_leaving, ap (λ (z : Draws). z.turns) drew.left)

pub returns-clause-settles : goal.returns-clause-settles
returns-clause-settles c = settles_added (counts_of c.args.pass.now) (counts_of c.raise-generation.new.pass) (counts_of c.finish-place.new.pass) (record { name = c.add-name.result; held = held_of (view_of c.args.shared) c.args.cell; generation = c.raise-generation.result }) c.requires.hold.5 c.raise-generation.ensures.raised c.finish-place.ensures.moved
