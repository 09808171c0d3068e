use Rattle.std.proofs.Common.{refl, ap, sym, subst, ◌∙◌, arith}
use Rattle.seat_guard.specs.declared.view.Draws.{Draws}
use Rattle.seat_guard.specs.Moves.{MayMove}
use Rattle.seat_guard.specs.Passes.{counts_of, known}
use Rattle.seat_guard.specs.Views.{MayTell}
use Rattle.dd_session.specs.declared.request.Alone.TheVariants.{Copied}
use Rattle.dd_session.specs.Requests.{alone_telling, row_held}
use Rattle.dd_session.specs.Turns.{Tied}
use Rattle.dd_session.proofs.Movings.{moves_added, settles_added}
use Rattle.dd_session.proofs.OnRows.{alone_drew, called_alone, had_no_turn, has_row, live_held, may_copy, named_kind, row_edge}
use Rattle.dd_session.proofs.Soundness.{sizes_of, sound_copied}
use Rattle.dd_session.proofs.Tying.{longer_by, tied_more}
use Rattle.function_laws.specs.declared.history.Call.TheVariants as calls
use Rattle.function_laws.specs.declared.history.Reply.TheVariants as replies
use Rattle.std.proofs.Common.{inl}
use Rattle.dd_session.proofs.alone.copy.Goals as goal

pub raise_row-generation-requires-clause-held : goal.raise_row-generation-requires-clause-held
raise_row-generation-requires-clause-held c = refl

pub raise_row-generation-requires-clause-edge : goal.raise_row-generation-requires-clause-edge
raise_row-generation-requires-clause-edge c = c.edge_at-edge.ensures.own ∙ row_edge (known c.args.pass.now) c.args.h c.requires.live

pub draw_alone-place-requires-clause-told : goal.draw_alone-place-requires-clause-told
draw_alone-place-requires-clause-told c = refl

pub draw_alone-place-requires-clause-step : goal.draw_alone-place-requires-clause-step
draw_alone-place-requires-clause-step c =
    let a = c.add-name.ensures.generation in
    let b = c.requires.keeps.rows.adds_are in
    subst (λ (e : Draws). MayTell e (alone_telling e.rows (Copied c.args.h c.add-name.result c.raise_row-generation.result))) (sym c.raise_row-generation.ensures.own.1) (may_copy (known c.args.pass.now) c.args.h c.add-name.result c.raise_row-generation.result c.requires.live (omega (arith, a, b)))

pub draw_alone-place-requires-clause-moves : goal.draw_alone-place-requires-clause-moves
draw_alone-place-requires-clause-moves c =
    subst (λ (e : Draws). MayMove e (counts_of c.raise_row-generation.new.pass) (alone_telling e.rows (Copied c.args.h c.add-name.result c.raise_row-generation.result))) (sym c.raise_row-generation.ensures.own.1)
    (moves_added (known c.args.pass.now) (counts_of c.args.pass.now) (counts_of c.raise_row-generation.new.pass) (record { name = c.add-name.result; held = row_held (known c.args.pass.now).rows c.args.h; generation = c.raise_row-generation.result }) (calls.Copy c.args.h) (replies.Made c.add-name.result) c.requires.idle.4.0 c.raise_row-generation.ensures.raised (inl refl) tt)

pub returns-clause-idle : goal.returns-clause-idle
returns-clause-idle c =
    let own = c.draw_alone-place.ensures.own in
    let drew = alone_drew (known c.args.pass.now) (known c.raise_row-generation.new.pass) (known c.draw_alone-place.new.pass) (Copied c.args.h c.add-name.result c.raise_row-generation.result) c.draw_alone-place.result c.raise_row-generation.ensures.own.1 c.draw_alone-place.ensures.drew in
    let settles = settles_added (counts_of c.args.pass.now) (counts_of c.raise_row-generation.new.pass) (counts_of c.draw_alone-place.new.pass) (record { name = c.add-name.result; held = row_held (known c.args.pass.now).rows c.args.h; generation = c.raise_row-generation.result }) c.requires.idle.4.0 c.raise_row-generation.ensures.raised c.draw_alone-place.ensures.moved in (
      own.0,
      ap (λ (z : Draws). z.live) drew.left ∙ c.requires.idle.1,
      ap (λ (z : Draws). z.holds) drew.left ∙ c.requires.idle.2,
      own.1 ∙ c.raise_row-generation.ensures.own.2 ∙ c.requires.idle.3,
      (settles.0, settles.1 ∙ c.requires.idle.4.1),
    )

pub returns-clause-keeps : goal.returns-clause-keeps
returns-clause-keeps c =
    let d = known c.args.pass.now in
    let e = known c.draw_alone-place.new.pass in
    let drew = alone_drew d (known c.raise_row-generation.new.pass) e (Copied c.args.h c.add-name.result c.raise_row-generation.result) c.draw_alone-place.result c.raise_row-generation.ensures.own.1 c.draw_alone-place.ensures.drew in
    let held = row_held d.rows c.args.h in
    let live = c.requires.live in record {
      rows = subst (Tied e) (sym c.draw_alone-place.ensures.rows)
          (tied_more d e c.args.book.now.rows c.add-name.new.self c.add-name.result held c.raise_row-generation.result c.requires.keeps.rows (ap (λ (z : Draws). z.rows) drew.left) (ap (λ (z : Draws). z.adds) drew.left) (longer_by d e _ (ap (λ (z : Draws). z.entries) drew.left))
          (live_held c.add-name.result c.args.h c.kind_at-kind.result c.edge_at-edge.result held _ _ (c.kind_at-kind.ensures live.0 live.1 ∙ named_kind d c.args.h live.0 live.1) (c.edge_at-edge.ensures.own ∙ row_edge d c.args.h live) c.add-name.ensures.added) c.add-name.ensures.never c.add-name.ensures.adds);
      sound = sound_copied d e c.add-name.result held c.raise_row-generation.result (has_row d c.args.h live) (ap (λ (z : Draws). z.rows) drew.left) (ap sizes_of drew.left) c.requires.keeps.sound;
      calls = c.draw_alone-place.ensures.calls.0;
      fulls = c.draw_alone-place.ensures.calls.1;
    }

pub returns-clause-told : goal.returns-clause-told
returns-clause-told c =
    let drew = alone_drew (known c.args.pass.now) (known c.raise_row-generation.new.pass) (known c.draw_alone-place.new.pass) (Copied c.args.h c.add-name.result c.raise_row-generation.result) c.draw_alone-place.result c.raise_row-generation.ensures.own.1 c.draw_alone-place.ensures.drew in
    called_alone (known c.args.pass.now) (known c.draw_alone-place.new.pass) (alone_telling (known c.args.pass.now).rows (Copied c.args.h c.add-name.result c.raise_row-generation.result)) _ _ _ _ c.draw_alone-place.result (c.draw_alone-place.ensures.own.0 ∙ sym c.requires.idle.0) c.requires.idle.2 drew

pub returns-clause-turns : goal.returns-clause-turns
returns-clause-turns c =
    let drew = alone_drew (known c.args.pass.now) (known c.raise_row-generation.new.pass) (known c.draw_alone-place.new.pass) (Copied c.args.h c.add-name.result c.raise_row-generation.result) c.draw_alone-place.result c.raise_row-generation.ensures.own.1 c.draw_alone-place.ensures.drew in
    had_no_turn (known c.args.pass.now) (known c.draw_alone-place.new.pass) _ c.args.pass.now.seat.table_id c.draw_alone-place.new.pass.seat.table_id c.args.book.now.rows.spare c.draw_alone-place.new.book.rows.spare c.draw_alone-place.result drew
