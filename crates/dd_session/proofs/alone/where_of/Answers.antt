use Rattle.std.proofs.Common.{ap, sym, subst, ◌∙◌, ℕ, ◌<◌}
use Rattle.edge_bits.specs.declared.edges.Edge.{Edge}
use Rattle.seat_guard.specs.declared.view.Draws.{Draws}
use Rattle.seat_guard.specs.declared.view.Held.{Held}
use Rattle.seat_guard.specs.Passes.{known}
use Rattle.dd_session.specs.Requests.{row_held}
use Rattle.dd_session.specs.Turns.{IsClear}
use Rattle.dd_session.proofs.OnRows.{named_row, row_edge, row_within}
use Rattle.dd_session.proofs.Soundness.{row_of}
use Rattle.dd_session.proofs.alone.where_of.Goals as goal

pub generation-generation-requires : goal.generation-generation-requires
generation-generation-requires c = record {
  at = (
    c.requires.idle.0,
    c.requires.idle.1,
    subst (λ (i : ℕ). i < (known c.args.pass.now).slots) (sym (c.index-slot.ensures ∙ ap (λ (e : Edge). e.index) (c.edge_at.ensures.own ∙ row_edge (known c.args.pass.now) c.args.h c.requires.live))) (row_within (known c.args.pass.now) c.args.h c.requires.live c.requires.keeps.sound),
  );
}

pub returns-clause-idle : goal.returns-clause-idle
returns-clause-idle c =
    let own = c.generation-generation.ensures.own in (
      own.0.0,
      ap (λ (d : Draws). d.live) own.0.1 ∙ c.requires.idle.1,
      ap (λ (d : Draws). d.holds) own.0.1 ∙ c.requires.idle.2,
      own.0.2 ∙ c.requires.idle.3,
      subst IsClear (sym own.1) c.requires.idle.4,
    )

pub returns-clause-leads : goal.returns-clause-leads
returns-clause-leads c =
    let d = known c.args.pass.now in
    let row = row_of d.rows c.args.h (row_held d.rows c.args.h) (named_row d c.args.h c.requires.live).0 in
    let slot = c.index-slot.ensures ∙ ap (λ (e : Edge). e.index) (c.edge_at.ensures.own ∙ row_edge d c.args.h c.requires.live) ∙ ap (λ (h : Held). h.edge.index) (sym row.4) in
    (row.1, row.2, slot, c.generation-generation.ensures.rows row.0 row.1 row.3 (sym slot))
