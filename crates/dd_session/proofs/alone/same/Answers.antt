use Rattle.std.proofs.Common.{◌≡◌, refl, ap, sym, subst, ◌∙◌, arith, IsTrue, ◌↔◌}
use Rattle.edge_bits.specs.declared.edges.Edge.{Edge}
use Rattle.seat_guard.specs.declared.view.Draws.{Draws}
use Rattle.seat_guard.specs.Passes.{counts_of, known}
use Rattle.dd_session.specs.Turns.{Tied}
use Rattle.dd_session.proofs.Movings.{moves_quiet, settles_quiet}
use Rattle.dd_session.proofs.OnRows.{called_alone, had_no_turn, may_compare, row_edge, same_edges}
use Rattle.dd_session.proofs.Soundness.{sizes_of, sound_same}
use Rattle.dd_session.proofs.Tying.{longer_by, tied_same}
use Rattle.function_laws.specs.declared.history.Call.TheVariants as calls
use Rattle.function_laws.specs.declared.history.Reply.TheVariants as replies
use Rattle.dd_session.proofs.alone.same.Goals as goal

pub draw_alone-place-requires-clause-told : goal.draw_alone-place-requires-clause-told
draw_alone-place-requires-clause-told c = refl

pub draw_alone-place-requires-clause-step : goal.draw_alone-place-requires-clause-step
draw_alone-place-requires-clause-step c = may_compare (known c.args.pass.now) c.args.f c.args.g _ c.requires.keeps.sound c.requires.alike
    (subst (λ (x : Edge × Edge). IsTrue c.eq-told.result ↔ (x.0 ≡ x.1)) (λ i. ((c.edge_at-first.ensures.own ∙ row_edge (known c.args.pass.now) c.args.f (c.requires.alike.0, c.requires.alike.1)) i, (c.edge_at-second.ensures.own ∙ row_edge (known c.args.pass.now) c.args.g (c.requires.alike.0, c.requires.alike.2)) i))
    (same_edges c.eq-told.result c.edge_at-first.result c.edge_at-second.result c.eq-told.ensures))

pub draw_alone-place-requires-clause-moves : goal.draw_alone-place-requires-clause-moves
draw_alone-place-requires-clause-moves c = moves_quiet (known c.args.pass.now) (counts_of c.args.pass.now) (calls.Same c.args.f c.args.g) (replies.Truth _) c.requires.idle.4.0 tt

pub returns-clause-idle : goal.returns-clause-idle
returns-clause-idle c =
    let own = c.draw_alone-place.ensures.own in
    let drew = c.draw_alone-place.ensures.drew in
    let settles = settles_quiet (counts_of c.args.pass.now) (counts_of c.draw_alone-place.new.pass) c.requires.idle.4.0 c.draw_alone-place.ensures.moved in (
      own.0,
      ap (λ (z : Draws). z.live) drew.left ∙ c.requires.idle.1,
      ap (λ (z : Draws). z.holds) drew.left ∙ c.requires.idle.2,
      own.1 ∙ c.requires.idle.3,
      (settles.0, settles.1 ∙ c.requires.idle.4.1),
    )

pub returns-clause-keeps : goal.returns-clause-keeps
returns-clause-keeps c =
    let d = known c.args.pass.now in
    let e = known c.draw_alone-place.new.pass in
    let left = c.draw_alone-place.ensures.drew.left in
    let more = longer_by d e _ (ap (λ (z : Draws). z.entries) left) in record {
      rows = subst (Tied e) (sym c.draw_alone-place.ensures.rows) (tied_same d e c.args.book.now.rows c.requires.keeps.rows (ap (λ (z : Draws). z.rows) left) (ap (λ (z : Draws). z.adds) left) (omega (arith, more)));
      sound = sound_same d e (ap (λ (z : Draws). z.rows) left) (ap sizes_of left) c.requires.keeps.sound;
      calls = c.draw_alone-place.ensures.calls.0;
      fulls = c.draw_alone-place.ensures.calls.1;
    }

pub returns-clause-told : goal.returns-clause-told
returns-clause-told c = called_alone (known c.args.pass.now) (known c.draw_alone-place.new.pass) _ _ _ _ _ c.draw_alone-place.result (c.draw_alone-place.ensures.own.0 ∙ sym c.requires.idle.0) c.requires.idle.2 c.draw_alone-place.ensures.drew

pub returns-clause-turns : goal.returns-clause-turns
returns-clause-turns c = had_no_turn (known c.args.pass.now) (known c.draw_alone-place.new.pass) _ c.args.pass.now.seat.table_id c.draw_alone-place.new.pass.seat.table_id c.args.book.now.rows.spare c.draw_alone-place.new.book.rows.spare c.draw_alone-place.result c.draw_alone-place.ensures.drew
