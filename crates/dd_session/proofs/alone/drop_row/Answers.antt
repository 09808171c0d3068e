use Rattle.std.proofs.Common.{ℕ, ◌<◌, length, refl, ap, sym, subst, ◌∙◌, arith}
use Rattle.edge_bits.specs.declared.edges.Edge.{Edge}
use Rattle.seat_guard.specs.declared.view.Counts.{Counts}
use Rattle.seat_guard.specs.declared.view.Draws.{Draws}
use Rattle.seat_guard.specs.Passes.{counts_of, known}
use Rattle.dd_session.specs.declared.request.Alone.TheVariants.{Dropped}
use Rattle.dd_session.specs.Requests.{alone_telling}
use Rattle.dd_session.specs.Turns.{Tied}
use Rattle.dd_session.proofs.Movings.{moves_dropped}
use Rattle.dd_session.proofs.OnRows.{called_alone, had_no_turn, may_let, owes_one, row_edge, row_within}
use Rattle.dd_session.proofs.Soundness.{sizes_of, sound_dropped}
use Rattle.dd_session.proofs.Tying.{fewer, longer_by, tied_less}
use Rattle.dd_session.proofs.Naming.{finds_row, finds_some}
use Rattle.dd_session.proofs.OnRows.{after_drew, removed_edge}
use Rattle.dd_session.proofs.alone.drop_row.Goals as goal

pub remove-requires : goal.remove-requires
remove-requires c = finds_some (known c.args.pass.now) c.args.book.now.rows c.args.h c.requires.keeps.rows c.requires.live

pub draw_alone-place-requires-clause-told : goal.draw_alone-place-requires-clause-told
draw_alone-place-requires-clause-told c = refl

pub draw_alone-place-requires-clause-step : goal.draw_alone-place-requires-clause-step
draw_alone-place-requires-clause-step c = may_let (known c.args.pass.now) c.args.h c.requires.live

pub draw_alone-place-requires-clause-moves : goal.draw_alone-place-requires-clause-moves
draw_alone-place-requires-clause-moves c = moves_dropped (known c.args.pass.now) (counts_of c.args.pass.now) c.args.h c.requires.idle.4.0

pub count_down-requires-clause-at : goal.count_down-requires-clause-at
count_down-requires-clause-at c =
    let d = known c.args.pass.now in
    let left = c.draw_alone-place.ensures.drew.left in (
      c.draw_alone-place.ensures.own.0,
      ap (λ (z : Draws). z.live) left ∙ c.requires.idle.1,
      subst (λ (x : ℕ × Draws). x.0 < x.1.slots) (λ i. (sym (c.index.ensures ∙ ap (λ (e : Edge). e.index) (c.edge_at-edge.ensures.own ∙ row_edge d c.args.h c.requires.live)) i, sym left i)) (row_within d c.args.h c.requires.live c.requires.keeps.sound),
    )

pub count_down-requires-clause-owed : goal.count_down-requires-clause-owed
count_down-requires-clause-owed c =
    let d = known c.args.pass.now in
    (owes_one d (counts_of c.args.pass.now) (counts_of c.draw_alone-place.new.pass) c.args.h c.requires.keeps.rows.apart c.requires.live c.draw_alone-place.ensures.moved _ (sym (c.index.ensures ∙ ap (λ (e : Edge). e.index) (c.edge_at-edge.ensures.own ∙ row_edge d c.args.h c.requires.live)))).0

pub returns-clause-idle : goal.returns-clause-idle
returns-clause-idle c =
    let d = known c.args.pass.now in
    let left = c.draw_alone-place.ensures.drew.left in
    let own = c.count_down.ensures.own in
    let moved = c.draw_alone-place.ensures.moved in
    let lowered = c.count_down.ensures.lowered in
    let paid = (owes_one d (counts_of c.args.pass.now) (counts_of c.draw_alone-place.new.pass) c.args.h c.requires.keeps.rows.apart c.requires.live moved _ (sym (c.index.ensures ∙ ap (λ (e : Edge). e.index) (c.edge_at-edge.ensures.own ∙ row_edge d c.args.h c.requires.live)))).1 in (
      own.0,
      ap (λ (z : Draws). z.live) (own.1 ∙ left) ∙ c.requires.idle.1,
      ap (λ (z : Draws). z.holds) (own.1 ∙ left) ∙ c.requires.idle.2,
      own.2 ∙ c.draw_alone-place.ensures.own.1 ∙ c.requires.idle.3,
      (
        record {
          raised = ap (λ (z : Counts). z.raised) lowered ∙ ap (λ (z : Counts). z.raised) moved;
          owed = ap (λ (z : Counts). z.owed) lowered ∙ paid;
          pins = ap (λ (z : Counts). z.pins) lowered ∙ ap (λ (z : Counts). z.pins) moved ∙ c.requires.idle.4.0.pins;
        },
        ap (λ (z : Counts). z.zeros) lowered ∙ ap (λ (z : Counts). z.zeros) moved ∙ c.requires.idle.4.1,
      ),
    )

pub returns-clause-keeps : goal.returns-clause-keeps
returns-clause-keeps c =
    let d = known c.args.pass.now in
    let e = known c.draw_alone-place.new.pass in
    let q = known c.count_down.new.pass in
    let left = c.count_down.ensures.own.1 ∙ c.draw_alone-place.ensures.drew.left in
    let live = c.requires.live in
    let h = finds_row d c.args.book.now.rows c.args.h c.requires.keeps.rows live.0 live.1 in
    let edge = removed_edge d c.args.book.now.rows c.remove.new.self c.args.h h.0 c.remove.result.0 c.remove.result.1 c.requires.keeps.rows h.1 c.remove.ensures.removed c.remove.ensures.gone in record {
      rows = subst (Tied q) (sym c.draw_alone-place.ensures.rows)
          (tied_less c.args.h d q c.args.book.now.rows c.remove.new.self h.0 (record { name = c.args.h; kind = c.remove.result.0; edge = c.remove.result.1 }) c.requires.keeps.rows h.1 refl edge (ap (λ (z : Draws). z.rows) left) (ap (λ (z : Draws). z.adds) left)
          (longer_by d q _ (ap (λ (z : Draws). z.entries) left)) c.remove.ensures.removed c.remove.ensures.gone c.remove.ensures.adds);
      sound = sound_dropped d q c.args.h (ap (λ (z : Draws). z.rows) left) (ap sizes_of left) c.requires.keeps.sound;
      calls = c.draw_alone-place.ensures.calls.0 ∙ ap (λ (z : Draws). length z.entries) (sym c.count_down.ensures.own.1);
      fulls = c.draw_alone-place.ensures.calls.1 ∙ ap (λ (z : Draws). Rattle.dd_session.specs.Sessions.fulls_in z.entries) (sym c.count_down.ensures.own.1);
    }

pub returns-clause-told : goal.returns-clause-told
returns-clause-told c =
    let drew = after_drew (known c.args.pass.now) (known c.draw_alone-place.new.pass) (known c.count_down.new.pass) _ c.draw_alone-place.result c.count_down.ensures.own.1 c.draw_alone-place.ensures.drew in
    called_alone (known c.args.pass.now) (known c.count_down.new.pass) (alone_telling (known c.args.pass.now).rows (Dropped c.args.h)) _ _ _ _ c.draw_alone-place.result (c.count_down.ensures.own.0 ∙ sym c.requires.idle.0) c.requires.idle.2 drew

pub returns-clause-turns : goal.returns-clause-turns
returns-clause-turns c =
    let drew = after_drew (known c.args.pass.now) (known c.draw_alone-place.new.pass) (known c.count_down.new.pass) _ c.draw_alone-place.result c.count_down.ensures.own.1 c.draw_alone-place.ensures.drew in
    had_no_turn (known c.args.pass.now) (known c.count_down.new.pass) _ c.args.pass.now.seat.table_id c.count_down.new.pass.seat.table_id c.args.book.now.rows.spare c.draw_alone-place.new.book.rows.spare c.draw_alone-place.result drew

pub returns-clause-fewer : goal.returns-clause-fewer
returns-clause-fewer c =
    let d = known c.args.pass.now in
    let live = c.requires.live in
    let h = finds_row d c.args.book.now.rows c.args.h c.requires.keeps.rows live.0 live.1 in
    let one = (fewer c.args.h d.rows h.0 c.requires.keeps.rows.apart h.1).0 in
    let left = ap (λ (z : Draws). length z.rows) (c.count_down.ensures.own.1 ∙ c.draw_alone-place.ensures.drew.left) in
    omega (arith, one, left)

pub returns-clause-spare : goal.returns-clause-spare
returns-clause-spare c = ap (λ r. r.spare) c.draw_alone-place.ensures.rows ∙ c.remove.ensures.spare
