use Rattle.std.proofs.Common.{ℕ, ◌<◌, length, inl, ap, sym, subst, ◌∙◌, arith}
use Rattle.edge_bits.specs.declared.edges.Edge.{Edge}
use Rattle.seat_guard.specs.CountPlays.{HasRow}
use Rattle.seat_guard.specs.declared.view.Held.{Held}
use Rattle.seat_guard.specs.Passes.{counts_of, known}
use Rattle.seat_guard.specs.Tallies.{raised_by}
use Rattle.dd_session.proofs.OnRows.{has_row, row_within}
use Rattle.dd_session.proofs.alone.raise_row.Goals as goal

pub count_up-requires-clause-at : goal.count_up-requires-clause-at
count_up-requires-clause-at g c = (
  c.requires.own.0,
  c.requires.own.1,
  subst (λ (i : ℕ). i < (known c.args.pass.now).slots) (sym (c.index.ensures ∙ ap (λ (e : Edge). e.index) c.requires.edge)) (row_within (known c.args.pass.now) c.args.h c.requires.live c.requires.sound),
)

pub count_up-requires-clause-edge : goal.count_up-requires-clause-edge
count_up-requires-clause-edge g c = ap (λ (h : Held). h.edge.index) c.requires.held ∙ sym (c.index.ensures ∙ ap (λ (e : Edge). e.index) c.requires.edge)

pub count_up-requires-clause-may : goal.count_up-requires-clause-may
count_up-requires-clause-may g c = inl (subst (HasRow (known c.args.pass.now).rows) (sym c.requires.held) (has_row (known c.args.pass.now) c.args.h c.requires.live))

pub count_up-requires-clause-room : goal.count_up-requires-clause-room
count_up-requires-clause-room g c =
    let a = ap (λ l. length {A = Held} l) c.requires.settled.raised in
    let b = ap (λ l. length {A = Held} l) c.requires.settled.owed in
    let r = c.requires.place.0 in omega (arith, a, b, r)

pub returns-clause-raised : goal.returns-clause-raised
returns-clause-raised g c = c.count_up.ensures.raised ∙ ap (λ (h : Held). raised_by h c.count_up.result (counts_of c.args.pass.now)) c.requires.held
